-- Numbers below a bound told apart by a test of two: whether none is alike to one before it.
use Rattle.std.specs.Prelude.{ℕ, ◌≡◌, Bool, true, false, not}
use Rattle.check_rows.specs.Below.{each_below, some_below}

-- whether no number below n is alike to one before it
abbrev pub none_alike : (ℕ → ℕ → Bool) → ℕ → Bool
none_alike same n = each_below (λ j. not (some_below (same j) j)) n

-- an order of numbers in which no number is above itself, and two that are alike are above the same numbers
pub record Orders (same over : ℕ → ℕ → Bool) : Type 0 where
  pub never : (i : ℕ) → over i i ≡ false
  pub through : (i j k : ℕ) → over i j ≡ true → over j k ≡ true → over i k ≡ true
  pub equal : (i j k : ℕ) → same i j ≡ true → over i k ≡ over j k

-- what is said of a call on two numbers is what a test answers
abbrev pub Tells : (ℕ → ℕ → Bool → Type 0) → (ℕ → ℕ → Bool) → Type 0
Tells Says test = (i j : ℕ) (r : Bool) → Says i j r → r ≡ test i j
