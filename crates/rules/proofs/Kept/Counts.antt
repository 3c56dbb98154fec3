-- Lists of numbers seen by counts: distinct means that each is counted once at most, and what holds of every element
-- holds of each number that is counted.
use Prim.Native.Nat.{ℕ, zero, suc, ◌≤◌, ◌<◌}
use mathlib.Core.Path.{◌≡◌, sym, subst}
use mathlib.Core.Bool.{true, false}
use mathlib.Core.List.{List, [], ◌∷◌, Memᴰ}
use native.Mathlib.Omega.{arith}
use lib.Dec.{eqb}
use borrow.Author.Tests.{eqb-true, eq-eqb}
use Rattle.rules.specs.Table.{Every, Distinct, count}
use Rattle.rules.proofs.Says.{says_member}
use Rattle.rules.proofs.Table.{by_test, count_self, count_member, member_count, never_both}

-- an element is counted, and what is counted is an element
pub element_counted : (k : ℕ) (l : List ℕ) → Memᴰ k l → 0 < count k l
element_counted k l m = member_count k l ((says_member k l).given m)

pub counted_element : (k : ℕ) (l : List ℕ) → 0 < count k l → Memᴰ k l
counted_element k l h = (says_member k l).gives (count_member k l h)

-- a list of one counts it once
pub count_one : (n k : ℕ) → eqb n k ≡ true → count n (k ∷ []) ≡ 1
count_one n k t = subst (λ (m : ℕ). count n (m ∷ []) ≡ 1) (eqb-true n k t) (count_self n)

-- distinct numbers are counted once at most
pub distinct_counts : (l : List ℕ) → Distinct eqb l → (k : ℕ) → count k l ≤ 1
unfolding Distinct count
distinct_counts [] h k = omega arith
distinct_counts (a ∷ l) h k =
    let r : count k l ≤ 1 = distinct_counts l h.1 k in
    by_test (eqb k a)
    (λ t. rw t (by_zero (count k l) (λ g. never_both (eqb a k) (eq-eqb a k (sym (eqb-true k a t))) (h.0 k (counted_element k l g)))))
    (λ t. rw t r)
  where
    by_zero : (n : ℕ) → (0 < n → ⊥) → suc n ≤ 1
    by_zero zero f = omega arith
    by_zero (suc n) f = absurd (f (omega arith))

-- and numbers counted once at most are distinct
pub counts_distinct : (l : List ℕ) → ((k : ℕ) → count k l ≤ 1) → Distinct eqb l
unfolding Distinct count
counts_distinct [] h = tt
counts_distinct (a ∷ l) h = (other, counts_distinct l less)
  where
    other : Every (λ (b : ℕ). eqb a b ≡ false) l
    other b m =
        by_test (eqb a b)
        (λ t.
        let n : 0 < count b l = element_counted b l m in
        let g : suc (count b l) ≤ 1 = rw (eq-eqb b a (sym (eqb-true a b t))) at (h b) in
        absurd (omega arith))
        (λ t. t)

    less : (k : ℕ) → count k l ≤ 1
    less k =
        by_test (eqb k a)
        (λ t. let g : suc (count k l) ≤ 1 = rw t at (h k) in omega arith)
        (λ t. rw t at (h k))
