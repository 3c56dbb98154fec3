-- Ids by ledger, then by entry: the order's laws, and ids that ascend through the changes that the rules make to them.
use Prim.Native.Nat.{suc, ◌<◌}
use mathlib.Core.Path.{◌≡◌, refl, sym, ap}
use mathlib.Core.Bool.{Bool, true, false, ◌&&◌, ◌||◌}
use mathlib.Core.List.Memᴰ
use mathlib.Core.List.{List, [], ◌∷◌}
use mathlib.Core.Logic.{◌⊎◌, inl, inr, ⊎_elim}
use native.Mathlib.Omega.{arith}
use lib.Dec.{eqb, ltb}
use lib.ListN.{length}
use borrow.Author.Tests.{ltb-true, ltb-false, eq-eqb}
use Rattle.rules.specs.Table.{keep, any, Every, Distinct}
use Rattle.rules.specs.State.{Id, same_id}
use Rattle.rules.specs.Ledger.{after_id, insert_id}
use Rattle.rules.specs.Valid.{AscendingIds}
use Rattle.rules.proofs.Says.{Says, says_or, says_and, says_ltb, says_eqb, every_cons, every_head, every_tail}
use Rattle.rules.proofs.Table.{by_test, never_both, differ}
use Rattle.rules.proofs.State.{decides_ids}
use Rattle.rules.proofs.Kept.Every.{kept_was}

-- ---- the order

-- what its test says
pub says_after : (a b : Id) → Says (after_id a b) ((b.ledger < a.ledger) ⊎ ((a.ledger ≡ b.ledger) × (b.entry < a.entry)))
unfolding after_id
says_after a b =
    says_or _ _ (says_ltb b.ledger a.ledger) (says_and _ _ (says_eqb a.ledger b.ledger) (says_ltb b.entry a.entry))

-- what comes after another comes after all that it comes after
pub after_trans : (a b c : Id) → after_id a b ≡ true → after_id b c ≡ true → after_id a c ≡ true
after_trans a b c s t =
    ⊎_elim
    (λ p. ⊎_elim (λ q. (says_after a c).given (inl (omega arith))) (λ q. (says_after a c).given (inl (omega arith))) ((says_after b c).gives t))
    (λ p. ⊎_elim (λ q. (says_after a c).given (inl (omega arith))) (λ q. (says_after a c).given (inr (omega arith, omega arith))) ((says_after b c).gives t))
    ((says_after a b).gives s)

-- no id comes after itself
pub after_differs : (a b : Id) → after_id a b ≡ true → same_id b a ≡ false
after_differs a b s =
    differ decides_ids b a (λ e.
    let l : b.ledger ≡ a.ledger = ap (λ (i : Id). i.ledger) e in
    let n : b.entry ≡ a.entry = ap (λ (i : Id). i.entry) e in
    ⊎_elim (λ p. absurd (omega arith)) (λ p. absurd (omega arith)) ((says_after a b).gives s))

-- of two ids one comes after the other
pub after_either : (a b : Id) → same_id a b ≡ false → after_id b a ≡ false → after_id a b ≡ true
unfolding same_id
after_either a b d s =
    by_test (ltb b.ledger a.ledger) (λ t. (says_after a b).given (inl (ltb-true b.ledger a.ledger t)))
    (λ t. by_test (ltb a.ledger b.ledger) (λ u. never_both (after_id b a) ((says_after b a).given (inl (ltb-true a.ledger b.ledger u))) s)
    (λ u.
    let g = ltb-false b.ledger a.ledger t in
    let h = ltb-false a.ledger b.ledger u in
    let e : a.ledger ≡ b.ledger = omega arith in
    by_test (ltb b.entry a.entry) (λ v. (says_after a b).given (inr (e, ltb-true b.entry a.entry v)))
    (λ v. by_test (ltb a.entry b.entry) (λ w. never_both (after_id b a) ((says_after b a).given (inr (sym e, ltb-true a.entry b.entry w))) s)
    (λ w.
    let k = ltb-false b.entry a.entry v in
    let l = ltb-false a.entry b.entry w in
    let f : a.entry ≡ b.entry = omega arith in
    never_both (eqb a.ledger b.ledger && eqb a.entry b.entry) (rw (eq-eqb a.ledger b.ledger e, eq-eqb a.entry b.entry f)) d))))

-- ---- an id among those that ascend

-- of every id after an insert
pub every_insert_id : {P : Id → Type 0} (i : Id) (l : List Id) → P i → Every P l → Every P (insert_id i l)
unfolding insert_id
every_insert_id i [] p h = every_cons p h
every_insert_id i (j ∷ l) p h =
    by_test (after_id j i)
    (λ t. rw t (every_cons p h))
    (λ t. rw t (every_cons (every_head h) (every_insert_id i l p (every_tail h))))

-- ids ascend after an insert of a new one
pub ascending_insert_id : (i : Id) (l : List Id) → AscendingIds l → Every (λ (j : Id). same_id i j ≡ false) l → AscendingIds (insert_id i l)
unfolding AscendingIds insert_id
ascending_insert_id i [] h new = ((λ a m. absurd (Memᴰ.not-nil m)), tt)
ascending_insert_id i (j ∷ l) h new =
    by_test (after_id j i)
    (λ t. rw t (every_cons {P = λ (x : Id). after_id x i ≡ true} t (λ x m. after_trans x j i (h.0 x m) t), h))
    (λ t. rw t (
      every_insert_id {P = λ (x : Id). after_id x j ≡ true} i l (after_either i j (new j (Memᴰ.head refl)) t) h.0,
      ascending_insert_id i l h.1 (λ x m. new x (Memᴰ.tail m)),
    ))

-- and where some are left out
pub ascending_keep_ids : (p : Id → Bool) (l : List Id) → AscendingIds l → AscendingIds (keep p l)
unfolding AscendingIds keep
ascending_keep_ids p [] h = tt
ascending_keep_ids p (x ∷ l) h =
    by_test (p x) (λ t. rw t ((λ a m. h.0 a (kept_was p l a m)), ascending_keep_ids p l h.1)) (λ t. rw t (ascending_keep_ids p l h.1))

-- ids that ascend are distinct
pub ascending_distinct : (l : List Id) → AscendingIds l → Distinct same_id l
unfolding AscendingIds Distinct
ascending_distinct [] h = tt
ascending_distinct (i ∷ l) h = ((λ j m. after_differs j i (h.0 j m)), ascending_distinct l h.1)

-- some id passes a test after an insert
pub any_insert_id : (q : Id → Bool) (i : Id) (l : List Id) → any q (insert_id i l) ≡ (q i || any q l)
unfolding any insert_id
any_insert_id q i [] = refl
any_insert_id q i (j ∷ l) =
    by_test (after_id j i)
    (λ t. rw t)
    (λ t. rw (t, any_insert_id q i l) (swap (q j) (q i) (any q l)))
  where
    swap : (a b c : Bool) → (a || (b || c)) ≡ (b || (a || c))
    swap true true c = refl
    swap true false c = refl
    swap false b c = refl

-- there is one more
pub length_insert_id : (i : Id) (l : List Id) → length (insert_id i l) ≡ suc (length l)
unfolding insert_id
length_insert_id i [] = refl
length_insert_id i (j ∷ l) = by_test (after_id j i) (λ t. rw t) (λ t. rw t (ap suc (length_insert_id i l)))
