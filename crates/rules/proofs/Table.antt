-- Laws of tables, for any rows and any key whose test `same` tells equal keys from others, and of what is kept and counted
-- in lists.
use Prim.Native.Nat.{ℕ, suc, ◌+◌, ◌≤◌, ◌<◌}
use mathlib.Core.Path.{◌≡◌, refl, sym, ap, ◌∙◌, subst}
use mathlib.Core.Logic.{⊎_elim}
use mathlib.Core.Bool.{Bool, true, false, cond, not, ◌||◌, true≢false, and-eq-true_iff}
use mathlib.Core.List.Memᴰ
use mathlib.Core.List.{List, [], ◌∷◌, ◌++◌, map, Memᴰ}
use mathlib.Core.Option
use mathlib.Core.Option.{none, some, none-ne-some}
use native.Mathlib.Omega.{arith}
use lib.Dec.{eqb}
use lib.ListN.{length, take, drop, take-append-drop}
use borrow.Author.Tests.{eqb-true, eq-eqb, ne_eqb}
use Rattle.rules.specs.Table.{Key, find, put, keep, all, any, member, count, is_some}

-- ---- tests

-- either way of a test
pub by_test : {P : Type 0} (t : Bool) → (t ≡ true → P) → (t ≡ false → P) → P
by_test true f g = f refl
by_test false f g = g refl

-- a test does not come out both ways
pub never_both : {P : Type 0} (t : Bool) → t ≡ true → t ≡ false → P
never_both t e f = absurd (true≢false (sym e ∙ f))

-- a test that tells equal keys from others
pub record Decides {K : Type 0} (same : K → K → Bool) : Type 0 where
  -- what is the same is equal
  pub equal : (i j : K) → same i j ≡ true → i ≡ j
  -- every key is the same as itself
  pub self : (i : K) → same i i ≡ true

-- numbers are told apart
pub decides_numbers : Decides eqb
decides_numbers = record { equal = eqb-true; self = λ i. eq-eqb i i refl }

module _ {K : Type 0} {same : K → K → Bool} (w : Decides same) where
  -- keys that are not equal are not the same
  pub differ : (i j : K) → (i ≡ j → ⊥) → same i j ≡ false
  differ i j f = by_test (same i j) (λ e. absurd (f (w.equal i j e))) (λ e. e)

  -- keys that are not the same are not equal
  pub unequal : (i j : K) → same i j ≡ false → i ≡ j → ⊥
  unequal i j e p = never_both (same i j) (subst (λ (x : K). same i x ≡ true) p (w.self i)) e

  -- the order of the two keys does not matter
  pub turned_round : (i j : K) → same i j ≡ false → same j i ≡ false
  turned_round i j e = differ j i (λ p. unequal i j e (sym p))

  -- so the test comes out alike either way round
  pub same_comm : (i j : K) → same i j ≡ same j i
  same_comm i j =
      by_test (same i j)
      (λ t. t ∙ subst (λ (x : K). true ≡ same x i) (w.equal i j t) (sym (w.self i)))
      (λ t. t ∙ sym (turned_round i j t))

-- ---- find, put

module _ {A K : Type 0} (k : Key A K) where
  -- a row that was found has the key
  pub find_key : (j : K) (l : List A) (a : A) → find k j l ≡ some a → k.same j (k.key a) ≡ true
  unfolding find
  find_key j [] a e = absurd (none-ne-some a e)
  find_key j (b ∷ l) a e =
      by_test (k.same j (k.key b))
      (λ t. let f : some b ≡ some a = rw t at e in let g : b ≡ a = cc in rw (← g) t)
      (λ t. find_key j l a (rw t at e))

  -- whether a key is among the rows' keys
  pub any_key : (j : K) (l : List A) → any (k.same j) (map k.key l) ≡ is_some (find k j l)
  unfolding find any is_some
  any_key j [] = refl
  any_key j (b ∷ l) = by_test (k.same j (k.key b)) (λ t. rw t) (λ t. rw t (any_key j l))

  -- what is found after a change of every row that keeps its key
  pub find_map : (f : A → A) → ((a : A) → k.key (f a) ≡ k.key a) → (j : K) (l : List A) → find k j (map f l) ≡ Option.map f (find k j l)
  unfolding find
  find_map f e j [] = refl
  find_map f e j (b ∷ l) = rw (e b) (by_test (k.same j (k.key b)) (λ t. rw t) (λ t. rw t (find_map f e j l)))

  -- such a change keeps the list of keys
  pub keys_map : (f : A → A) → ((a : A) → k.key (f a) ≡ k.key a) → (l : List A) → map k.key (map f l) ≡ map k.key l
  keys_map f e [] = refl
  keys_map f e (b ∷ l) = rw (e b, keys_map f e l)

  -- no key stands twice
  unfoldable pub Once : List A → Type 0
  Once [] = Unit {0}
  Once (a ∷ l) = (find k (k.key a) l ≡ none) × Once l

  -- and no key stands twice after it
  pub once_map : (f : A → A) → ((a : A) → k.key (f a) ≡ k.key a) → (l : List A) → Once l → Once (map f l)
  unfolding Once
  once_map f e [] h = tt
  once_map f e (b ∷ l) h = (rw (e b, find_map f e (k.key b) l, h.0), once_map f e l h.1)

  module _ (w : Decides k.same) where
    -- what is found after a put
    pub find_put : (j : K) (a : A) (l : List A) → find k j (put k a l) ≡ cond (k.same j (k.key a)) (some a) (find k j l)
    unfolding find put
    find_put j a [] = refl
    find_put j a (b ∷ l) =
        by_test (k.same (k.key a) (k.key b))
        (λ t. rw (t, ← (w.equal (k.key a) (k.key b) t)) (by_test (k.same j (k.key a)) (λ u. rw u) (λ u. rw u)))
        (λ t. rw t
        (by_test (k.same j (k.key b))
        (λ u. rw (w.equal j (k.key b) u, w.self (k.key b), turned_round w (k.key a) (k.key b) t))
        (λ u. rw u (find_put j a l))))

    -- the later of two puts of one key counts
    pub put_put : (a b : A) (l : List A) → k.key a ≡ k.key b → put k a (put k b l) ≡ put k a l
    unfolding put
    put_put a b [] e = rw (e, w.self (k.key b))
    put_put a b (x ∷ l) e =
        by_test (k.same (k.key b) (k.key x)) (λ t. rw (t, e, t, w.self (k.key b)))
        (λ t. rw (t, e, t) (ap (λ (r : List A). x ∷ r) (put_put a b l e)))

    -- the keys after a put: a new one stands at the end
    pub keys_put : (a : A) (l : List A)
        → map k.key (put k a l) ≡ cond (is_some (find k (k.key a) l)) (map k.key l) (map k.key l ++ k.key a ∷ [])
    unfolding find put is_some
    keys_put a [] = refl
    keys_put a (b ∷ l) =
        by_test (k.same (k.key a) (k.key b))
        (λ t. rw (t, w.equal (k.key a) (k.key b) t))
        (λ t. rw (t, keys_put a l) (by_test (is_some (find k (k.key a) l)) (λ u. rw u) (λ u. rw u)))

    -- a put keeps keys once
    pub once_put : (a : A) (l : List A) → Once l → Once (put k a l)
    unfolding Once put find
    once_put a [] h = (refl, tt)
    once_put a (b ∷ l) h =
        by_test (k.same (k.key a) (k.key b))
        (λ t. rw t (rw (w.equal (k.key a) (k.key b) t) h.0, h.1))
        (λ t. rw t (find_put (k.key b) a l ∙ rw (turned_round w (k.key a) (k.key b) t) h.0, once_put a l h.1))

    -- where keys stand once, each row is found by its key
    pub once_found : (a : A) (l : List A) → Once l → Memᴰ a l → find k (k.key a) l ≡ some a
    unfolding Once find
    once_found a [] h m = absurd (Memᴰ.not-nil m)
    once_found a (b ∷ l) h m =
        ⊎_elim (λ (e : a ≡ b). rw (e, w.self (k.key b)))
        (λ (n : Memᴰ a l). by_test (k.same (k.key a) (k.key b))
        (λ t. absurd (none-ne-some a (sym (rw (w.equal (k.key a) (k.key b) t) h.0) ∙ once_found a l h.1 n)))
        (λ t. rw t (once_found a l h.1 n)))
        (Memᴰ.cases_cons m)

-- ---- keep, any, all

-- whether some element passes a test does not change where all that pass it are kept
pub any_keep : {A : Type 0} (q p : A → Bool) → ((a : A) → q a ≡ true → p a ≡ true) → (l : List A) → any q (keep p l) ≡ any q l
unfolding any keep
any_keep q p f [] = refl
any_keep q p f (a ∷ l) =
    by_test (p a)
    (λ e. rw (e, any, any_keep q p f l))
    (λ e. by_test (q a) (λ g. never_both (p a) (f a g) e) (λ g. rw (e, g) (any_keep q p f l)))

-- whether some element of two lists joined passes a test
pub any_append : {A : Type 0} (q : A → Bool) (l m : List A) → any q (l ++ m) ≡ (any q l || any q m)
unfolding any
any_append q [] m = refl
any_append q (a ∷ l) m = by_test (q a) (λ e. rw e) (λ e. rw e (any_append q l m))

-- a test that passes on one element and on the rest passes on all
pub all_cons : {A : Type 0} (q : A → Bool) (a : A) (l : List A) → q a ≡ true → all q l ≡ true → all q (a ∷ l) ≡ true
unfolding all
all_cons q a l e f = rw (e, f)

-- what passes on all passes on the first and on the rest
pub all_parts : {A : Type 0} (q : A → Bool) (a : A) (l : List A) → all q (a ∷ l) ≡ true → (q a ≡ true) × (all q l ≡ true)
unfolding all
all_parts q a l h = (and-eq-true_iff (q a) (all q l)).0 h

-- a test that follows from another passes wherever that one does
pub all_weaker : {A : Type 0} (q r : A → Bool) → ((a : A) → q a ≡ true → r a ≡ true) → (l : List A) → all q l ≡ true → all r l ≡ true
unfolding all
all_weaker q r f [] h = refl
all_weaker q r f (a ∷ l) h = let t = all_parts q a l h in all_cons r a l (f a t.0) (all_weaker q r f l t.1)

-- a test that passes on all passes on those that are kept; of those it may use that they were
pub all_kept : {A : Type 0} (q r p : A → Bool) → ((a : A) → q a ≡ true → p a ≡ true → r a ≡ true) → (l : List A) → all q l ≡ true
    → all r (keep p l) ≡ true
unfolding keep all
all_kept q r p f [] h = refl
all_kept q r p f (a ∷ l) h =
    let t = all_parts q a l h in
    by_test (p a) (λ e. rw e (all_cons r a (keep p l) (f a t.0 e) (all_kept q r p f l t.1))) (λ e. rw e (all_kept q r p f l t.1))

-- a test passes on two lists joined where it does on both
pub all_append : {A : Type 0} (q : A → Bool) (l m : List A) → all q l ≡ true → all q m ≡ true → all q (l ++ m) ≡ true
unfolding all
all_append q [] m h g = g
all_append q (a ∷ l) m h g = let t = all_parts q a l h in all_cons q a (l ++ m) t.0 (all_append q l m t.1 g)

-- where every element passes, all are kept
pub keep_all : {A : Type 0} (q : A → Bool) (l : List A) → all q l ≡ true → keep q l ≡ l
unfolding keep all
keep_all q [] h = refl
keep_all q (a ∷ l) h = let t = all_parts q a l h in rw (t.0, keep_all q l t.1)

-- keeping never makes a list longer
pub length_keep : {A : Type 0} (q : A → Bool) (l : List A) → length (keep q l) ≤ length l
unfolding keep
length_keep q [] = omega arith
length_keep q (a ∷ l) =
    let h : length (keep q l) ≤ length l = length_keep q l in by_test (q a) (λ e. rw e (omega arith)) (λ e. rw e (omega arith))

-- ---- count, member

-- 1 where a test passes, else 0
abbrev pub one_if : Bool → ℕ
one_if t = cond t 1 0

-- counts of joined lists add up
pub count_append : (n : ℕ) (l m : List ℕ) → count n (l ++ m) ≡ count n l + count n m
unfolding count
count_append n [] m = omega arith
count_append n (a ∷ l) m =
    let h = count_append n l m in by_test (eqb n a) (λ e. rw e (omega arith)) (λ e. rw e (omega arith))

-- counts of what joined lists are taken to add up
pub count_map_append : {A : Type 0} (f : A → ℕ) (n : ℕ) (l m : List A) → count n (map f (l ++ m)) ≡ count n (map f l) + count n (map f m)
unfolding count
count_map_append f n [] m = omega arith
count_map_append f n (a ∷ l) m =
    let h = count_map_append f n l m in by_test (eqb n (f a)) (λ e. rw e (omega arith)) (λ e. rw e (omega arith))

-- the count of a number in a list of it alone
pub count_self : (n : ℕ) → count n (n ∷ []) ≡ 1
unfolding count
count_self n = rw (eq-eqb n n refl)

-- and of another
pub count_other : (n m : ℕ) → eqb n m ≡ false → count n (m ∷ []) ≡ 0
unfolding count
count_other n m e = rw e

-- a member is counted
pub member_count : (n : ℕ) (l : List ℕ) → member n l ≡ true → 0 < count n l
unfolding member any count
member_count n [] h = absurd (true≢false (sym h))
member_count n (a ∷ l) h = by_test (eqb n a) (λ e. rw e (omega arith)) (λ e. rw e (member_count n l (rw e at h)))

-- what is counted is a member
pub count_member : (n : ℕ) (l : List ℕ) → 0 < count n l → member n l ≡ true
unfolding member any count
count_member n [] h = absurd (omega arith)
count_member n (a ∷ l) h = by_test (eqb n a) (λ e. rw e) (λ e. rw e (count_member n l (rw e at h)))

-- what is not counted is no member
pub count_no_member : (n : ℕ) (l : List ℕ) → count n l ≡ 0 → member n l ≡ false
count_no_member n l h = by_test (member n l) (λ e. let g = member_count n l e in absurd (omega arith)) (λ e. e)

-- the count among those that pass a test of numbers
pub count_keep : (q : ℕ → Bool) (n : ℕ) (l : List ℕ) → count n (keep q l) ≡ cond (q n) (count n l) 0
unfolding count keep
count_keep q n [] = by_test (q n) (λ e. rw e) (λ e. rw e)
count_keep q n (a ∷ l) =
    by_test (eqb n a)
    (λ e. rw (e, ← (eqb-true n a e)) (by_test (q n)
    (λ f. rw (f, count, eq-eqb n n refl) (ap suc (count_keep q n l ∙ rw f)))
    (λ f. rw f (count_keep q n l ∙ rw f))))
    (λ e. rw e (by_test (q a) (λ f. rw (f, count, e) (count_keep q n l)) (λ f. rw f (count_keep q n l))))

-- what passes a test and what does not make up the whole count
pub count_parted : {A : Type 0} (q : A → Bool) (f : A → ℕ) (n : ℕ) (l : List A)
    → count n (map f (keep q l)) + count n (map f (keep (λ (a : A). not (q a)) l)) ≡ count n (map f l)
unfolding count keep
count_parted q f n [] = refl
count_parted q f n (a ∷ l) =
    let h = count_parted q f n l in
    by_test (q a)
    (λ e. rw e (by_test (eqb n (f a)) (λ g. rw g (omega arith)) (λ g. rw g h)))
    (λ e. rw e (by_test (eqb n (f a)) (λ g. rw g (omega arith)) (λ g. rw g h)))

-- where a test passes on all that is counted, keeping by it leaves the count
pub count_kept : {A : Type 0} (q : A → Bool) (f : A → ℕ) (n : ℕ) → ((a : A) → n ≡ f a → q a ≡ true) → (l : List A)
    → count n (map f (keep q l)) ≡ count n (map f l)
unfolding count keep
count_kept q f n h [] = refl
count_kept q f n h (a ∷ l) =
    by_test (eqb n (f a))
    (λ e. rw (e, h a (eqb-true n (f a) e), count, e) (ap suc (count_kept q f n h l)))
    (λ e. rw e (by_test (q a) (λ g. rw (g, count, e) (count_kept q f n h l)) (λ g. rw g (count_kept q f n h l))))

-- where nothing that passes a test is counted, none of those kept by it is
pub count_kept_none : {A : Type 0} (q : A → Bool) (f : A → ℕ) (n : ℕ) → ((a : A) → q a ≡ true → n ≡ f a → ⊥) → (l : List A)
    → count n (map f (keep q l)) ≡ 0
unfolding count keep
count_kept_none q f n h [] = refl
count_kept_none q f n h (a ∷ l) =
    by_test (q a)
    (λ e. rw (e, count, ne_eqb n (f a) (h a e)) (count_kept_none q f n h l))
    (λ e. rw e (count_kept_none q f n h l))

-- where some element passes a test, and whatever passes is counted, one is counted
pub any_count : {A : Type 0} (q : A → Bool) (f : A → ℕ) (n : ℕ) → ((a : A) → q a ≡ true → n ≡ f a) → (l : List A) → any q l ≡ true
    → 0 < count n (map f (keep q l))
unfolding any keep count
any_count q f n h [] e = absurd (true≢false (sym e))
any_count q f n h (a ∷ l) e =
    by_test (q a)
    (λ g. rw (g, count, eq-eqb n (f a) (h a g)) (omega arith))
    (λ g. rw g (any_count q f n h l (rw g at e)))

-- what is counted before a place of a list and from it on makes up the whole count
count_split : (n k : ℕ) (l : List ℕ) → count n (take k l) + count n (drop k l) ≡ count n l
count_split n k l = sym (count_append n (take k l) (drop k l)) ∙ ap (count n) (take-append-drop k l)

-- so no more is counted from it on than in all
pub count_drop : (n k : ℕ) (l : List ℕ) → count n (drop k l) ≤ count n l
count_drop n k l = omega (arith, count_split n k l)

-- nor before it
pub count_take : (n k : ℕ) (l : List ℕ) → count n (take k l) ≤ count n l
count_take n k l = omega (arith, count_split n k l)
