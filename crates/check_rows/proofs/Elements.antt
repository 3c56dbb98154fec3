-- Lists tested by the numbers of their elements: the rules' tests of lists, as tests of each or of some number below a length.
use mathlib.Core.Path.{◌≡◌, refl, sym, ap, ap₂, ◌∙◌}
use mathlib.Core.Bool.{Bool, true, false, not, ◌&&◌, ◌||◌, and-false, and-eq-true_iff}
use mathlib.Core.List.{List, [], ◌∷◌}
use Prim.Native.Nat.{ℕ, suc, ◌+◌, ◌-◌}
use native.Mathlib.Numerals.{add-one}
use native.Mathlib.Omega.{arith}
use lib.Dec.{eqb, leb-suc-suc}
use lib.ListN.{length, get_or}
use borrow.Author.Tests.{lt-ltb}
use Rattle.rules.specs.Table.{all, any, distinct}
use Rattle.rules.proofs.Says.{says_as, says_eqb, says_and}
use Rattle.rules.proofs.Table.{by_test, Decides, same_comm, all_weaker}
use Rattle.check_rows.specs.Below.{each_below, some_below}
use Rattle.rules.specs.State.{Id, same_id, StoredMessage, Mark, new_mark}
use Rattle.rules.specs.Ledger.{position_of, holds_id, no_message, message_at, after_id}
use Rattle.rules.specs.Valid.{valid_mark, valid_marks, ascending_ids}
use Rattle.rules.proofs.Valid.{says_mark, says_marks}
use Rattle.rules.proofs.Ids.{after_trans}
use Rattle.layout.proofs.Spells.{same_test}
use Rattle.check_rows.proofs.Below.{each_both, each_same, each_first, some_first, some_not, says_each}

-- ---- lists, by the numbers of their elements

module _ {A : Type 0} where
  -- a test of every element
  pub all_each : (p : A → Bool) (l : List A) (d : A) → all p l ≡ each_below (λ i. p (get_or l i d)) (length l)
  unfolding all each_below
  all_each p [] d = refl
  all_each p (a ∷ l) d = ap (λ (b : Bool). p a && b) (all_each p l d) ∙ sym (each_first (λ i. p (get_or (a ∷ l) i d)) (length l))

  -- a test of some element
  pub any_some : (p : A → Bool) (l : List A) (d : A) → any p l ≡ some_below (λ i. p (get_or l i d)) (length l)
  unfolding any some_below
  any_some p [] d = refl
  any_some p (a ∷ l) d = ap (λ (b : Bool). p a || b) (any_some p l d) ∙ sym (some_first (λ i. p (get_or (a ∷ l) i d)) (length l))

  -- distinct: no element is the same as one before it
  pub distinct_each : {same : A → A → Bool} → Decides same → (l : List A) (d : A)
      → distinct same l ≡ each_below (λ j. not (some_below (λ i. same (get_or l j d) (get_or l i d)) j)) (length l)
  unfolding distinct each_below some_below
  distinct_each w [] d = refl
  distinct_each {same} w (a ∷ l) d =
      ap₂ ◌&&◌ (ap not (any_some (same a) l d) ∙ some_not (λ i. same a (get_or l i d)) (length l)) (distinct_each w l d)
      ∙ sym (each_both (λ j. not (same a (get_or l j d))) (λ j. not (some_below (λ i. same (get_or l j d) (get_or l i d)) j)) (length l))
      ∙ each_same _ _ (length l) (λ j h. split j)
      ∙ sym (each_first (λ j. not (some_below (λ i. same (get_or (a ∷ l) j d) (get_or (a ∷ l) i d)) j)) (length l))
    where
      -- neither of two tests passes
      neither : (b c : Bool) → (not b && not c) ≡ not (b || c)
      neither true c = refl
      neither false c = refl

      -- other than the first, and than each between
      split : (j : ℕ) → (not (same a (get_or l j d)) && not (some_below (λ i. same (get_or l j d) (get_or l i d)) j))
          ≡ not (some_below (λ i. same (get_or l j d) (get_or (a ∷ l) i d)) (suc j))
      split j =
          neither (same a (get_or l j d)) (some_below (λ i. same (get_or l j d) (get_or l i d)) j)
          ∙ ap (λ (b : Bool). not (b || some_below (λ i. same (get_or l j d) (get_or l i d)) j)) (same_comm w a (get_or l j d))
          ∙ ap not (sym (some_first (λ i. same (get_or l j d) (get_or (a ∷ l) i d)) j))

-- ---- the rules' tests, element by element

-- a mark for each entry, each as its entry wants it
pub marks_each : (ms : List StoredMessage) (ks : List Mark)
    → valid_marks ms ks ≡ (eqb (length ks) (length ms) && each_below (λ k. valid_mark (get_or ms k no_message) (get_or ks k new_mark)) (length ks))
unfolding message_at
marks_each ms ks =
    same_test (says_marks ms ks)
    (says_as (λ v. record { one_each = v.0; each_mark = λ k h. v.1 k (let e = v.0 in omega arith) })
    (λ v. (v.one_each, λ k h. v.each_mark k (let e = v.one_each in omega arith)))
    (says_and _ _ (says_eqb (length ks) (length ms))
    (says_each (λ k. says_mark (get_or ms k no_message) (get_or ks k new_mark)) (length ks))))

-- a ledger holds an id where some entry has it
pub holds_any : (i : Id) (l : List StoredMessage) → holds_id i l ≡ any (λ (m : StoredMessage). same_id i m.id) l
unfolding holds_id position_of any
holds_any i [] = refl
holds_any i (m ∷ l) =
    by_test (same_id i m.id) (λ t. rw t (lt-ltb 0 (suc (length l)) (omega arith)))
    (λ t. rw t (leb-suc-suc (suc (position_of i l)) (length l) ∙ holds_any i l))

-- ids ascend where each comes after the one before it
pub ascending_each : (l : List Id) (z : Id) → ascending_ids l ≡ each_below (λ j. after_id (get_or l (j + 1) z) (get_or l j z)) (length l - 1)
unfolding ascending_ids each_below all
ascending_each [] z = refl
ascending_each (i ∷ []) z = refl
ascending_each (i ∷ j ∷ l) z =
    let below : Id → Bool = λ (x : Id). after_id x i in
    let one_less : suc (length l) - 1 ≡ length l = omega arith in
    by_test (after_id j i)
    (λ t. rw t
    (by_test (all (λ (x : Id). after_id x j) l && ascending_ids l)
    (λ u.
    let a = ((and-eq-true_iff (all (λ (x : Id). after_id x j) l) (ascending_ids l)).0 u).0 in
    rw (all_weaker (λ (x : Id). after_id x j) below (λ x e. after_trans x j i e t) l a))
    (λ u. rw (u, and-false (all below l)))))
    (λ t. rw t)
    ∙ ap (λ (b : Bool). after_id j i && b) (ascending_each (j ∷ l) z)
    ∙ ap (λ (n : ℕ). after_id j i && each_below (λ k. after_id (get_or (j ∷ l) (k + 1) z) (get_or (j ∷ l) k z)) n) one_less
    ∙ ap (λ (b : Bool). after_id j i && b)
    (each_same (λ k. after_id (get_or (j ∷ l) (k + 1) z) (get_or (j ∷ l) k z)) (λ k. after_id (get_or (i ∷ j ∷ l) (suc k + 1) z) (get_or (i ∷ j ∷ l) (suc k) z)) (length l)
    (λ k h. rw (add-one k, add-one (suc k))))
    ∙ sym (each_first (λ k. after_id (get_or (i ∷ j ∷ l) (k + 1) z) (get_or (i ∷ j ∷ l) k z)) (length l))
    ∙ ap (each_below (λ k. after_id (get_or (i ∷ j ∷ l) (k + 1) z) (get_or (i ∷ j ∷ l) k z))) (let two : suc (length l) ≡ suc (suc (length l)) - 1 = omega arith in two)
