-- What was or-ed so far is 0 and the rest is blank exactly where `before` is 0 and the whole stretch is blank.
use mathlib.Core.Path.{◌≡◌}
use mathlib.Core.Bool.{◌&&◌}
use Prim.Native.Nat.{◌-◌}
use lib.Dec.{eqb}
use lib.ListN.{drop}
use Rattle.words.specs.Words.{blank}
use Rattle.store.proofs.stretch.rest_blank.Given as goal

abbrev pub invariant-loop-i : goal.invariant-loop-i
invariant-loop-i l = (eqb l.any 0 && blank (l.to - l.i) (drop l.i l.store)) ≡ (eqb l.before 0 && blank (l.to - l.from) (drop l.from l.store))
