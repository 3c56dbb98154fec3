-- Sums of grants and costs over the ids of a ring, when the book changes who one id is.
use Prim.Native.Nat.{ℕ, suc, ◌+◌}
use mathlib.Core.Path.{◌≡◌, refl, ap, ap₂}
use mathlib.Core.Bool.{not}
use mathlib.Core.List.{List, [], ◌∷◌, ◌++◌}
use native.Mathlib.Omega.{arith}
use lib.Dec.{eqb}
use borrow.Author.Tests.{eqb-true}
use Rattle.rules.specs.Table.{keep, count}
use Rattle.rules.specs.Book.{Who, updated}
use Rattle.rules.specs.Demand.{sum_over}
use Rattle.rules.proofs.Table.{by_test, decides_numbers, turned_round}
use Rattle.rules.proofs.State.{updated_here, updated_elsewhere}

module _ (f : Who → ℕ) (who : ℕ → Who) where
  -- sums of joined lists add up
  pub sum_append : (l m : List ℕ) → sum_over f who (l ++ m) ≡ sum_over f who l + sum_over f who m
  unfolding sum_over
  sum_append [] m = omega arith
  sum_append (i ∷ l) m = let h = sum_append l m in omega arith

  -- an id of figure 0 may be left out
  pub sum_without : (i : ℕ) → f (who i) ≡ 0 → (l : List ℕ) → sum_over f who (keep (λ (j : ℕ). not (eqb i j)) l) ≡ sum_over f who l
  unfolding sum_over keep
  sum_without i e [] = refl
  sum_without i e (j ∷ l) =
      let h = sum_without i e l in
      by_test (eqb i j)
      (λ t. let z : f (who j) ≡ 0 = rw (← (eqb-true i j t)) e in rw t (omega arith))
      (λ t. rw t (omega arith))

  module _ (i : ℕ) (w : Who) where
    -- an id that is not among them changes nothing
    pub sum_absent : (l : List ℕ) → count i l ≡ 0 → sum_over f (updated eqb who i w) l ≡ sum_over f who l
    unfolding sum_over count
    sum_absent [] e = refl
    sum_absent (j ∷ l) e =
        by_test (eqb i j)
        (λ t. absurd (let z : suc (count i l) ≡ 0 = rw t at e in omega arith))
        (λ t.
        ap₂ (λ (x y : ℕ). x + y)
        (ap f (updated_elsewhere decides_numbers who i w j (turned_round decides_numbers i j t)))
        (sum_absent l (rw t at e)))

    -- an id that is once among them changes its own part
    pub sum_once : (l : List ℕ) → count i l ≡ 1 → sum_over f (updated eqb who i w) l + f (who i) ≡ sum_over f who l + f w
    unfolding sum_over count
    sum_once [] e = absurd (omega arith)
    sum_once (j ∷ l) e =
        by_test (eqb i j)
        (λ t.
        let z : suc (count i l) ≡ 1 = rw t at e in
        let h : sum_over f (updated eqb who i w) l ≡ sum_over f who l = sum_absent l (omega arith) in
        rw (← (eqb-true i j t), updated_here decides_numbers who i w) (omega arith))
        (λ t.
        let h : sum_over f (updated eqb who i w) l + f (who i) ≡ sum_over f who l + f w = sum_once l (rw t at e) in
        rw (updated_elsewhere decides_numbers who i w j (turned_round decides_numbers i j t)) (omega arith))
