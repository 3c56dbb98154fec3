-- The words are those of the entry with the first i laid.
use mathlib.Core.Path.{◌≡◌}
use lib.ListN.{take}
use Rattle.words.specs.Act.{lay}
use Rattle.store.proofs.counted.write_words.Given as goal

abbrev pub invariant-loop-i : goal.invariant-loop-i
invariant-loop-i g l = l.store ≡ (lay (take l.i l.words)).run l.at l.initial.store
