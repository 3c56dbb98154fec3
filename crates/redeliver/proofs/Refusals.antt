-- The refusals of redeliver before it is known whose kind the consumer is of: an id that is not live, and a list that is
-- not of the form.
use mathlib.Core.Path.{◌≡◌, refl, ◌∙◌}
use mathlib.Core.Bool.{false, true≢false}
use mathlib.Core.List.{List}
use mathlib.Core.Option.{Option, none, some}
use Prim.Native.Nat.{ℕ, ◌≤◌, ◌<◌}
use lib.ListN.{length}
use Rattle.rules.specs.Table.{is_some}
use Rattle.rules.specs.State.{State, by_id}
use Rattle.rules.specs.Groups.{Group, groups}
use Rattle.rules.specs.Outcome.Outcome.{refused}
use Rattle.rules.specs.Commands.{with_groups, redeliver}
use Rattle.rules.specs.Calls.{rule}
use Rattle.rules.specs.Calls.Call.{Redeliver}
use Rattle.store.specs.Find.{slot}
use Rattle.operation_laws.proofs.Frame.{live_found, live_missing}

-- an id that is not live
pub redeliver_missing : (s : State) (id : ℕ) (list : List ℕ) → length s.consumers ≤ slot by_id id s.consumers → rule s (Redeliver id list) ≡ refused 4
unfolding rule redeliver
redeliver_missing s id list h = live_missing s (slot by_id id s.consumers) id refl _ h

-- what is not there is none
told_none : (o : Option (List Group)) → is_some o ≡ false → o ≡ none
unfolding is_some
told_none none t = refl
told_none (some gs) t = absurd (true≢false t)

-- a list that is not of the form
pub redeliver_ill : (s : State) (i id : ℕ) (list : List ℕ) → i ≡ slot by_id id s.consumers → i < length s.consumers → is_some (groups list) ≡ false
    → rule s (Redeliver id list) ≡ refused 10
unfolding rule redeliver with_groups
redeliver_ill s i id list e h t = live_found s i id e _ h ∙ rw (told_none (groups list) t)
