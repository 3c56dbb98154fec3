-- `check_state::valid_places::flight_fresh` meets its contract. The loop's invariant: the holders before i are ring ids, and a pass over
-- the positions before i found them fresh and left the stamps as they are.
use mathlib.Core.Path.{◌≡◌}
use mathlib.Core.Bool.{true}
use Prim.Native.Nat.{◌+◌}
use Rattle.check_state.specs.Places.{holders_right, Placed}
use Rattle.check_state.proofs.valid_places.flight_fresh.Given as goal

abbrev pub invariant-loop-i : goal.invariant-loop-i
invariant-loop-i l =
    (holders_right l.ring.store.now l.ring.first l.ring.count l.flight.rows.first l.i ≡ true)
    × Placed l.ring.store.now (l.flight.rows.first + 1) 2 l.i l.cursor l.initial.stamps l.stamps true
