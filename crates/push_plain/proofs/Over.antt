-- A list whose first elements were replaced by those of another.
use mathlib.Core.Path.{◌≡◌, refl, ap}
use mathlib.Core.List.{List, [], ◌∷◌, ◌++◌}
use Prim.Native.Nat.{ℕ, zero, suc, ◌≤◌, ◌<◌}
use native.Mathlib.Nat.{le_of_suc-le-suc, not-suc-le-zero}
use native.Mathlib.Omega.{arith}
use lib.ListN.{length, get_or, set, take, drop}

module _ {A : Type 0} where
  -- one more
  pub over_set : (a b : List A) (i : ℕ) (z : A) → length a ≡ length b → i < length b
      → set (take i a ++ drop i b) i (get_or a i z) ≡ take (suc i) a ++ drop (suc i) b
  over_set a [] i z e h = absurd (not-suc-le-zero h)
  over_set [] (y ∷ b) i z e h = absurd (omega arith)
  over_set (x ∷ a) (y ∷ b) zero z e h = refl
  over_set (x ∷ a) (y ∷ b) (suc i) z e h = ap (λ (l : List A). x ∷ l) (over_set a b i z (omega arith) (le_of_suc-le-suc h))

  -- the first that was not replaced
  pub over_nth : (a b : List A) (i : ℕ) (z : A) → length a ≡ length b → i < length b → get_or (take i a ++ drop i b) i z ≡ get_or b i z
  over_nth a [] i z e h = absurd (not-suc-le-zero h)
  over_nth [] (y ∷ b) i z e h = absurd (omega arith)
  over_nth (x ∷ a) (y ∷ b) zero z e h = refl
  over_nth (x ∷ a) (y ∷ b) (suc i) z e h = over_nth a b i z (omega arith) (le_of_suc-le-suc h)

  -- as many
  pub over_length : (a b : List A) (i : ℕ) → length a ≡ length b → length (take i a ++ drop i b) ≡ length b
  over_length [] [] zero e = refl
  over_length [] [] (suc i) e = refl
  over_length [] (y ∷ b) i e = absurd (omega arith)
  over_length (x ∷ a) [] i e = absurd (omega arith)
  over_length (x ∷ a) (y ∷ b) zero e = refl
  over_length (x ∷ a) (y ∷ b) (suc i) e = ap suc (over_length a b i (omega arith))

  -- all
  pub over_all : (a b : List A) (i : ℕ) → length a ≡ length b → length b ≤ i → take i a ++ drop i b ≡ a
  over_all [] [] zero e h = refl
  over_all [] [] (suc i) e h = refl
  over_all [] (y ∷ b) i e h = absurd (omega arith)
  over_all (x ∷ a) [] i e h = absurd (omega arith)
  over_all (x ∷ a) (y ∷ b) zero e h = absurd (not-suc-le-zero h)
  over_all (x ∷ a) (y ∷ b) (suc i) e h = ap (λ (l : List A). x ∷ l) (over_all a b i (omega arith) (le_of_suc-le-suc h))

  -- none
  pub over_none : (a b : List A) → take 0 a ++ drop 0 b ≡ b
  over_none a b = refl
