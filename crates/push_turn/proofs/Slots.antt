-- A list written over by the images of another, one place at a time.
use mathlib.Core.Path.{◌≡◌, refl, ap, ◌∙◌}
use mathlib.Core.List.{List, [], ◌∷◌, ◌++◌, map}
use Prim.Native.Nat.{ℕ, zero, suc, ◌+◌, ◌≤◌, ◌<◌}
use native.Mathlib.Omega.{arith}
use lib.ListN.{length, get_or, set, take, drop, drop_of_length-le}
use lib.Seq.{take_all}

module _ (f : ℕ → ℕ) where
  -- the first j places written
  abbrev pub written : List ℕ → List ℕ → ℕ → List ℕ
  written a r j = map f (take j a) ++ drop j r

  -- one more
  written_suc : (a r : List ℕ) (j : ℕ) → j < length a → length r ≡ length a → set (written a r j) j (f (get_or a j 0)) ≡ written a r (suc j)
  written_suc [] r j h e = absurd (omega arith)
  written_suc (x ∷ a) [] j h e = absurd (omega arith)
  written_suc (x ∷ a) (y ∷ r) zero h e = refl
  written_suc (x ∷ a) (y ∷ r) (suc j) h e = ap (λ (l : List ℕ). f x ∷ l) (written_suc a r j (omega arith) (omega arith))

  pub written_on : (a r us : List ℕ) (j v : ℕ) → j < length a → length r ≡ length a → us ≡ written a r j → v ≡ f (get_or a j 0)
      → set us j v ≡ written a r (j + 1)
  written_on a r us j v h e u q =
      let n : suc j ≡ j + 1 = omega arith in
      rw (u, q) (written_suc a r j h e) ∙ ap (λ (m : ℕ). written a r m) n

  -- nothing follows
  append_nil : (l : List ℕ) → l ++ [] ≡ l
  append_nil [] = refl
  append_nil (a ∷ l) = ap (λ (r : List ℕ). a ∷ r) (append_nil l)

  -- all of them
  pub written_all : (a r us : List ℕ) (j : ℕ) → length a ≤ j → length r ≡ length a → us ≡ written a r j → us ≡ map f a
  written_all a r us j h e u =
      u ∙ rw (take_all j a h, drop_of_length-le r {i = j} (omega arith)) (append_nil (map f a))
