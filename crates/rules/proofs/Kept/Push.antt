-- A push keeps a state sound, and its records lie in their ranges, however many turns it takes.
use Prim.Native.Nat.{ℕ}
use Rattle.rules.specs.Table.{Every}
use Rattle.rules.specs.State.{State}
use Rattle.rules.specs.Push.{push_pending, push}
use Rattle.rules.specs.Valid.{Sound}
use Rattle.rules.proofs.Kept.Outcomes.{Keeps}
use Rattle.rules.proofs.Kept.Turns.{push_pending_keeps, push_keeps_both}
use Rattle.rules.proofs.Kept.Records.{Ranged}
use Rattle.rules.proofs.Kept.Shared.{shared_turn_keeps}
use Rattle.rules.proofs.Kept.Plain.{plain_turn_keeps}

-- any push
pub push_keeps : (s : State) (room : ℕ) → Sound s → Keeps Sound s (push s room)
push_keeps = push_keeps_both Sound Ranged shared_turn_keeps plain_turn_keeps

-- every record of a push lies in its ranges
pub records_ranged : (s : State) → Sound s → Every Ranged (push_pending s).dispatched
records_ranged s v = (push_pending_keeps Sound Ranged shared_turn_keeps plain_turn_keeps s v).each_record
