-- A sum of numbers, one number after the other.
use mathlib.Core.Path.{refl}
use Prim.Native.Nat.{ℕ, ◌+◌}
use native.Mathlib.Numerals.{add-one}
use Rattle.push_plain.specs.Sum.{AddedUp}

-- nothing was added yet
pub added_first : (P : ℕ → ℕ → Type 0) → AddedUp P 0 0
unfolding AddedUp
added_first P = refl

-- one number more
pub added_on : (P : ℕ → ℕ → Type 0) (n t r : ℕ) → AddedUp P n t → P n r → AddedUp P (n + 1) (t + r)
unfolding AddedUp
added_on P n t r a p = rw (add-one n) (t, r, a, p, refl)
