-- `check_words::canonical::table_canonical` meets its contract. The loop's invariant: the slots before i are right.
use mathlib.Core.Path.{◌≡◌}
use mathlib.Core.Bool.{Bool, true}
use Prim.Native.Nat.{ℕ, ◌<◌}
use Rattle.check_rows.specs.Below.{each_below}
use Rattle.check_words.proofs.canonical.table_canonical.Given as goal

abbrev pub invariant-loop-i : goal.invariant-loop-i
invariant-loop-i g l =
    (right : ℕ → Bool) → ((i : ℕ) (r : Bool) → i < l.most → goal.F-post g l.slot i r → r ≡ right i) → each_below right l.i ≡ true
