-- `check_rows::none_alike` meets its contract. The loop's invariant: none of the rows before i is alike to one before it, nor above the
-- greatest, which is one of them.
use mathlib.Core.Path.{◌≡◌}
use mathlib.Core.Bool.{Bool, true, false}
use Prim.Native.Nat.{ℕ, ◌≤◌, ◌<◌}
use Rattle.check_rows.specs.Alike.{Orders, Tells, none_alike}
use Rattle.check_rows.proofs.none_alike.Given as goal

abbrev pub invariant-loop-i : goal.invariant-loop-i
invariant-loop-i g l =
    (l.greatest ≤ l.i-counter)
    × ((same over : ℕ → ℕ → Bool) → Orders same over → Tells (goal.S-post g l.alike) same → Tells (goal.A-post g l.above) over
    → (none_alike same l.i-counter ≡ true) × ((j : ℕ) → j < l.i-counter → over j l.greatest ≡ false))
