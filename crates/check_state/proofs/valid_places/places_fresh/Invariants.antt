-- `check_state::valid_places::places_fresh` meets its contract. The loop's invariant: a pass over the first i positions found them
-- fresh, and left the stamps as they are.
use mathlib.Core.Bool.{true}
use Rattle.check_state.specs.Places.{Placed}
use Rattle.check_state.proofs.valid_places.places_fresh.Given as goal

abbrev pub invariant-loop-i : goal.invariant-loop-i
invariant-loop-i l = Placed l.places.store.now l.places.first l.places.width l.i l.cursor l.initial.stamps l.stamps true
