-- Seek: a consumer's cursor and nacked entries change, and nothing that the book speaks of.
use Prim.Native.Nat.{ℕ}
use mathlib.Core.Path.{refl}
use mathlib.Core.List.{[]}
use Rattle.rules.specs.State.{State, ledger_of}
use Rattle.rules.specs.Commands.{Target, target_position, with_reading, seek}
use Rattle.rules.specs.Calls.Call.{Seek}
use Rattle.rules.specs.Book.{Book, enter_done}
use Rattle.rules.proofs.State.{consumer_id}
use Rattle.rules.proofs.Demand.Invariant.{Invariant}
use Rattle.rules.proofs.Demand.Changes.{reconsumed, same_account}
use Rattle.rules.proofs.Demand.Outcomes.{Keeps, keeps_live}

-- seek keeps the invariant
pub seek_keeps : (s : State) (b : Book) → Invariant s b → (i : ℕ) (target : Target) → Keeps s b (Seek i target) (seek s i target)
unfolding seek enter_done with_reading
seek_keeps s b h i target =
    keeps_live s b h (Seek i target) i _ (λ c e.
    let d = with_reading c (target_position (ledger_of s c.pair.topic) target) [] in
    reconsumed s b h i c d e (consumer_id s i c e) (same_account c d refl refl refl))
