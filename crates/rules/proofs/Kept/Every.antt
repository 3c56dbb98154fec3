-- What holds of every element, and that elements are distinct, through the changes that the rules make to lists.
use Prim.Native.Nat.{ℕ, suc, ◌-◌, ◌≤◌, ◌<◌}
use mathlib.Core.Path.{◌≡◌, refl, sym, ◌∙◌, ap}
use mathlib.Core.Bool.{Bool, true, false, true≢false}
use mathlib.Core.List.{List, [], ◌∷◌, ◌++◌, map, Memᴰ}
use mathlib.Core.Option.{some, none-ne-some}
use mathlib.Core.Logic.{⊎_elim}
use native.Mathlib.Omega.{arith}
use lib.Dec.{eqb, ltb}
use lib.ListN.{length, take, drop, take-append-drop}
use borrow.Author.Tests.{ltb-true, ltb-false, eqb-true, eqb-false, ne_eqb}
use Rattle.rules.specs.Table.{Key, find, put, keep, any, Every, Distinct, is_some}
use Rattle.rules.specs.State.{Consumer, insert, by_id}
use Rattle.rules.specs.Valid.{Ascending}
use Rattle.rules.proofs.Says.{every_cons, every_head, every_tail, says_none}
use Rattle.rules.proofs.Table.{by_test, Decides, turned_round, any_key, keys_put}

module _ {A : Type 0} {P : A → Type 0} where
  -- what holds of every element of two lists
  pub every_append : (l m : List A) → Every P l → Every P m → Every P (l ++ m)
  every_append l m h k a i = ⊎_elim (h a) (k a) (mathlib.Core.List.Memᴰ.append_cases l i)

  -- one more at the end
  pub every_snoc : (l : List A) (x : A) → Every P l → P x → Every P (l ++ x ∷ [])
  every_snoc l x h p = every_append l (x ∷ []) h (every_cons p (λ a m. absurd (mathlib.Core.List.Memᴰ.not-nil m)))

  -- and of each of the two
  pub every_left : (l m : List A) → Every P (l ++ m) → Every P l
  every_left l m h a i = h a (mathlib.Core.List.Memᴰ.append_left m i)

  pub every_right : (l m : List A) → Every P (l ++ m) → Every P m
  every_right l m h a i = h a (mathlib.Core.List.Memᴰ.append_right l i)

  -- of the first n, and of those past them
  pub every_take : (n : ℕ) (l : List A) → Every P l → Every P (take n l)
  every_take n l h = every_left (take n l) (drop n l) (rw (take-append-drop n l) h)

  pub every_drop : (n : ℕ) (l : List A) → Every P l → Every P (drop n l)
  every_drop n l h = every_right (take n l) (drop n l) (rw (take-append-drop n l) h)

module _ {A : Type 0} where
  -- an element that is kept was there
  pub kept_was : (p : A → Bool) (l : List A) (a : A) → Memᴰ a (keep p l) → Memᴰ a l
  unfolding keep
  kept_was p [] a m = m
  kept_was p (x ∷ l) a m =
      by_test (p x)
      (λ t.
      let m' : Memᴰ a (x ∷ keep p l) = rw t at m in
      ⊎_elim (λ e. mathlib.Core.List.Memᴰ.head e) (λ k. mathlib.Core.List.Memᴰ.tail (kept_was p l a k)) (mathlib.Core.List.Memᴰ.cases_cons m'))
      (λ t. let m' : Memᴰ a (keep p l) = rw t at m in mathlib.Core.List.Memᴰ.tail (kept_was p l a m'))

  -- and passes the test
  pub kept_passes : (p : A → Bool) (l : List A) (a : A) → Memᴰ a (keep p l) → p a ≡ true
  unfolding keep
  kept_passes p [] a m = absurd (mathlib.Core.List.Memᴰ.not-nil m)
  kept_passes p (x ∷ l) a m =
      by_test (p x)
      (λ t.
      let m' : Memᴰ a (x ∷ keep p l) = rw t at m in
      ⊎_elim (λ e. ap p e ∙ t) (kept_passes p l a) (mathlib.Core.List.Memᴰ.cases_cons m'))
      (λ t. let m' : Memᴰ a (keep p l) = rw t at m in kept_passes p l a m')

  -- one that was there and passes is kept
  pub passes_kept : (p : A → Bool) (l : List A) (a : A) → Memᴰ a l → p a ≡ true → Memᴰ a (keep p l)
  unfolding keep
  passes_kept p [] a m h = m
  passes_kept p (x ∷ l) a m h =
      by_test (p x)
      (λ t. rw t (⊎_elim (λ e. mathlib.Core.List.Memᴰ.head e) (λ k. mathlib.Core.List.Memᴰ.tail (passes_kept p l a k h)) (mathlib.Core.List.Memᴰ.cases_cons m)))
      (λ t. rw t
      (⊎_elim (λ e. absurd (true≢false (sym h ∙ (ap p e ∙ t)))) (λ k. passes_kept p l a k h) (mathlib.Core.List.Memᴰ.cases_cons m)))

-- one more at the end, unlike all others
pub distinct_snoc : {A : Type 0} {same : A → A → Bool} (w : Decides same) (l : List A) (x : A) → Distinct same l → Every (λ (a : A). same x a ≡ false) l → Distinct same (l ++ x ∷ [])
unfolding Distinct
distinct_snoc w [] x h k = ((λ a m. absurd (mathlib.Core.List.Memᴰ.not-nil m)), tt)
distinct_snoc {A} {same} w (y ∷ l) x h k = (
  every_snoc {P = λ (a : A). same y a ≡ false} l x h.0 (turned_round w x y (k y (mathlib.Core.List.Memᴰ.head refl))),
  distinct_snoc w l x h.1 (λ a m. k a (mathlib.Core.List.Memᴰ.tail m)),
)

-- fewer elements
pub distinct_keep : {A : Type 0} (same : A → A → Bool) (p : A → Bool) (l : List A) → Distinct same l → Distinct same (keep p l)
unfolding Distinct keep
distinct_keep same p [] h = tt
distinct_keep same p (x ∷ l) h =
    by_test (p x)
    (λ t. rw t ((λ a m. h.0 a (kept_was p l a m)), distinct_keep same p l h.1))
    (λ t. rw t (distinct_keep same p l h.1))

-- where a test fails on all, none passes it
pub fails_on_each : {A : Type 0} (p : A → Bool) (l : List A) → any p l ≡ false → Every (λ (a : A). p a ≡ false) l
fails_on_each p l e = (says_none p l).gives (rw e)

-- ---- tables

module _ {A K : Type 0} (k : Key A K) where
  -- what is found is in the table
  pub found_in : (j : K) (l : List A) (a : A) → find k j l ≡ some a → Memᴰ a l
  unfolding find
  found_in j [] a e = absurd (none-ne-some a e)
  found_in j (x ∷ l) a e =
      by_test (k.same j (k.key x))
      (λ t. let e' : some x ≡ some a = rw t at e in mathlib.Core.List.Memᴰ.head (let z : a ≡ x = cc in z))
      (λ t. let e' : find k j l ≡ some a = rw t at e in mathlib.Core.List.Memᴰ.tail (found_in j l a e'))

  -- of every row after a put
  pub every_put : {P : A → Type 0} (a : A) (l : List A) → P a → Every P l → Every P (put k a l)
  unfolding put
  every_put {P} a [] p h = every_cons p h
  every_put {P} a (x ∷ l) p h =
      by_test (k.same (k.key a) (k.key x))
      (λ t. rw t (every_cons p (every_tail h)))
      (λ t. rw t (every_cons (h x (mathlib.Core.List.Memᴰ.head refl)) (every_put a l p (every_tail h))))

  -- a table stays as long where the key was there, and grows by one where not
  pub length_put : (a : A) (l : List A) (n : ℕ) → length l ≤ n → (is_some (find k (k.key a) l) ≡ false → length l < n) → length (put k a l) ≤ n
  unfolding find put is_some
  length_put a [] n h g = g refl
  length_put a (x ∷ l) n h g =
      by_test (k.same (k.key a) (k.key x))
      (λ t. rw t h)
      (λ t. rw t
      (let r : length (put k a l) ≤ n - 1 = length_put a l (n - 1) (omega arith) (λ f. let z : suc (length l) < n = g (rw t f) in omega arith) in
      omega arith))

  -- the keys stay distinct
  pub distinct_put : (w : Decides k.same) (a : A) (l : List A) → Distinct k.same (map k.key l) → Distinct k.same (map k.key (put k a l))
  distinct_put w a l h =
      rw (keys_put k w a l)
      (by_test (is_some (find k (k.key a) l))
      (λ t. rw t h)
      (λ t. rw t (distinct_snoc w (map k.key l) (k.key a) h (fails_on_each (k.same (k.key a)) (map k.key l) (any_key k (k.key a) l ∙ t)))))

-- ---- consumers by ascending id

-- of every consumer after an insert
pub every_insert : {P : Consumer → Type 0} (c : Consumer) (l : List Consumer) → P c → Every P l → Every P (insert c l)
unfolding insert
every_insert c [] p h = every_cons p h
every_insert c (d ∷ l) p h =
    by_test (ltb c.id d.id)
    (λ t. rw t (every_cons p h))
    (λ t. rw t
    (by_test (eqb c.id d.id)
    (λ u. rw u (every_cons p (every_tail h)))
    (λ u. rw u (every_cons (every_head h) (every_insert c l p (every_tail h))))))

-- ids ascend after an insert
pub ascending_insert : (c : Consumer) (l : List Consumer) → Ascending l → Ascending (insert c l)
unfolding Ascending insert
ascending_insert c [] h = ((λ a m. absurd (mathlib.Core.List.Memᴰ.not-nil m)), tt)
ascending_insert c (d ∷ l) h =
    by_test (ltb c.id d.id)
    (λ t.
    let g : c.id < d.id = ltb-true c.id d.id t in
    rw t (every_cons {P = λ (x : Consumer). c.id < x.id} g (λ x m. let k : d.id < x.id = h.0 x m in omega arith), h))
    (λ t. rw t
    (by_test (eqb c.id d.id)
    (λ u. rw u ((λ x m. let k : d.id < x.id = h.0 x m in let e = eqb-true c.id d.id u in omega arith), h.1))
    (λ u. rw u
    (let g : d.id ≤ c.id = ltb-false c.id d.id t in
    let n = eqb-false c.id d.id u in
    (every_insert {P = λ (x : Consumer). d.id < x.id} c l (omega arith) h.0, ascending_insert c l h.1)))))

-- and where some are left out
pub ascending_keep : (p : Consumer → Bool) (l : List Consumer) → Ascending l → Ascending (keep p l)
unfolding Ascending keep
ascending_keep p [] h = tt
ascending_keep p (x ∷ l) h =
    by_test (p x) (λ t. rw t ((λ a m. h.0 a (kept_was p l a m)), ascending_keep p l h.1)) (λ t. rw t (ascending_keep p l h.1))

-- an id below all is not found
not_found_below : (i : ℕ) (l : List Consumer) → Every (λ (d : Consumer). i < d.id) l → is_some (find by_id i l) ≡ false
unfolding find is_some
not_found_below i [] h = refl
not_found_below i (d ∷ l) h =
    let g : i < d.id = every_head {P = λ (x : Consumer). i < x.id} h in
    rw (ne_eqb i d.id (omega arith)) (not_found_below i l (every_tail {P = λ (x : Consumer). i < x.id} h))

-- one more only where the id is new
pub length_insert : (c : Consumer) (l : List Consumer) (n : ℕ) → Ascending l → length l ≤ n → (is_some (find by_id c.id l) ≡ false → length l < n) → length (insert c l) ≤ n
unfolding find is_some insert Ascending
length_insert c [] n a h g = g refl
length_insert c (d ∷ l) n a h g =
    by_test (ltb c.id d.id)
    (λ t. rw t
    (let lt : c.id < d.id = ltb-true c.id d.id t in
    g (rw (ne_eqb c.id d.id (omega arith)) (not_found_below c.id l (λ x m. let k : d.id < x.id = a.0 x m in omega arith)))))
    (λ t. rw t
    (by_test (eqb c.id d.id)
    (λ u. rw u h)
    (λ u. rw u
    (let r : length (insert c l) ≤ n - 1 = length_insert c l (n - 1) a.1 (omega arith) (λ f. let z : suc (length l) < n = g (rw u f) in omega arith) in
    omega arith))))
