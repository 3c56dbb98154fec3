-- The store spells a state at every turn, the place stays in its ranges, and the record's number does not pass the turns.
use Prim.Native.Nat.{◌≤◌}
use mathlib.Core.Path.{◌≡◌}
use mathlib.Core.Bool.{true}
use Rattle.layout.specs.Layout.{spells}
use Rattle.player.specs.Places.{Placed}
use Rattle.player.proofs.play.Given as goal

abbrev pub invariant-loop-turns : goal.invariant-loop-turns
invariant-loop-turns g l =
    (spells l.store ≡ true) × Placed l.place × (l.place.number ≤ l.turns)
