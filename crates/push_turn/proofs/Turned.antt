-- What a turn came to, by whether it made a step.
use Rattle.std.proofs.Common.{◌≡◌, refl, ℕ, List, true, false, Option, Some, None}
use Rattle.std.specs.Option.{is_some}
use Rattle.push_laws.specs.Local.{Step}
use Rattle.push_laws.specs.Local.LocalTurn.{stop, move}
use Rattle.push_turn.specs.declared.turn.Step as steps
use Rattle.push_turn.specs.declared.service.Numbers as moved
use Rattle.push_turn.specs.Turns.{turn_of, local_from, step_of}

-- it made none: a stop
pub turned_none : (permits : List ℕ) (m : moved.Numbers) (o : Option steps.Step) → is_some o ≡ false
    → turn_of permits m o ≡ stop (local_from permits m)
unfolding turn_of
turned_none permits m None e = refl
turned_none permits m (Some x) e = absurd (cc)

-- it made one: a move
pub turned_some : (permits : List ℕ) (m : moved.Numbers) (o : Option steps.Step) → is_some o ≡ true
    → (x : Step) × (turn_of permits m o ≡ move x (local_from permits m))
unfolding turn_of
turned_some permits m None e = absurd (cc)
turned_some permits m (Some x) e = (step_of x, refl)
