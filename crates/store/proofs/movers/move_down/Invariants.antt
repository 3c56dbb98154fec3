-- The words are those of the entry with i words moved.
use mathlib.Core.Path.{◌≡◌}
use Rattle.words.specs.Act.{down}
use Rattle.store.proofs.movers.move_down.Given as goal

abbrev pub invariant-loop-i : goal.invariant-loop-i
invariant-loop-i l = l.words ≡ (down l.width l.i).run 0 l.initial.words
