-- Tests of a list that go element by element, as a loop makes them: where the elements before a place pass, the test of
-- the next one decides whether those up to it pass, and one that fails decides for the whole list.
use mathlib.Core.Path.{◌≡◌, refl, sym, ap, ap₂, ◌∙◌}
use mathlib.Core.Bool.{Bool, true, false, not, ◌&&◌, and_assoc, and-true}
use mathlib.Core.List.{List, [], ◌∷◌, ◌++◌, map, append-nil}
use Prim.Native.Nat.{ℕ, suc, ◌+◌, ◌≤◌, ◌<◌}
use native.Mathlib.Numerals.{add-one}
use lib.ListN.{length, get_or, take, drop}
use lib.Seq.{take-suc, take_all, append_snoc, split_at}
use Rattle.rules.specs.Table.{all, any}
use Rattle.rules.proofs.Table.{by_test}

-- a test of lists by a test of each element, which may look at those before it
pub record Stepwise {A : Type 0} (T : List A → Bool) (S : List A → A → Bool) : Type 0 where
  pub none : T [] ≡ true
  pub more : (l : List A) (a : A) → T (l ++ a ∷ []) ≡ (T l && S l a)

-- the elements before i pass
abbrev pub Passed : {A : Type 0} → (List A → Bool) → List A → ℕ → Type 0
Passed T l i = T (take i l) ≡ true

module _ {A : Type 0} {T : List A → Bool} {S : List A → A → Bool} (w : Stepwise T S) where
  -- what fails on the first elements fails on all
  failed : (m l : List A) → T l ≡ false → T (l ++ m) ≡ false
  failed [] l e = rw (append-nil l) e
  failed (a ∷ m) l e = rw (← append_snoc l a m) (failed m (l ++ a ∷ []) (w.more l a ∙ rw e))

  pub passed_start : (l : List A) → Passed T l 0
  passed_start l = w.none

  -- the element at i fails
  pub passed_stop : (l : List A) (i : ℕ) (d : A) → i < length l → Passed T l i → S (take i l) (get_or l i d) ≡ false → false ≡ T l
  passed_stop l i d h p e =
      let f : T (take i l ++ get_or l i d ∷ []) ≡ false = w.more (take i l) (get_or l i d) ∙ rw (p, e) in
      sym (ap T (split_at l i d h ∙ sym (append_snoc (take i l) (get_or l i d) (drop (suc i) l))) ∙ failed (drop (suc i) l) (take i l ++ get_or l i d ∷ []) f)

  -- it passes
  pub passed_turn : (l : List A) (i : ℕ) (d : A) → i < length l → Passed T l i → S (take i l) (get_or l i d) ≡ true → Passed T l (i + 1)
  passed_turn l i d h p e = rw (add-one i, take-suc l i d h) (w.more (take i l) (get_or l i d) ∙ rw (p, e))

  -- no element is left
  pub passed_end : (l : List A) (i : ℕ) → length l ≤ i → Passed T l i → true ≡ T l
  passed_end l i h p = sym p ∙ ap T (take_all i l h)

-- ---- such tests

-- two and two tests, grouped either way
pub and_swap : (a b c d : Bool) → (a && b && (c && d)) ≡ (a && c && (b && d))
and_swap false b c d = refl
and_swap true true c d = sym (and_assoc c true d) ∙ ap (λ (x : Bool). x && d) (and-true c)
and_swap true false true d = refl
and_swap true false false d = refl

-- every element passes
pub all_steps : {A : Type 0} (p : A → Bool) → Stepwise (all p) (λ l a. p a)
unfolding all
all_steps {A} p = record { none = refl; more = more }
  where
    more : (l : List A) (a : A) → all p (l ++ a ∷ []) ≡ (all p l && p a)
    more [] a = and-true (p a)
    more (b ∷ l) a = ap (λ (x : Bool). p b && x) (more l a) ∙ sym (and_assoc (p b) (all p l) (p a))

-- no element passes
pub none_steps : {A : Type 0} (q : A → Bool) → Stepwise (λ l. not (any q l)) (λ l a. not (q a))
unfolding any
none_steps {A} q = record { none = refl; more = more }
  where
    more : (l : List A) (a : A) → not (any q (l ++ a ∷ [])) ≡ (not (any q l) && not (q a))
    more [] a = by_test (q a) (λ t. rw t) (λ t. rw t)
    more (b ∷ l) a = by_test (q b) (λ t. rw t) (λ t. rw t (more l a))

-- both of two tests pass
pub both_steps : {A : Type 0} {T U : List A → Bool} {S R : List A → A → Bool} → Stepwise T S → Stepwise U R
    → Stepwise (λ l. T l && U l) (λ l a. S l a && R l a)
both_steps {T = T} {U = U} {S = S} {R = R} x y =
    record {
      none = ap₂ {A = Bool} {B = Bool} ◌&&◌ x.none y.none;
      more = λ l a. ap₂ {A = Bool} {B = Bool} ◌&&◌ (x.more l a) (y.more l a) ∙ and_swap (T l) (S l a) (U l) (R l a);
    }

-- the test of what the elements are taken to
pub map_steps : {A B : Type 0} {T : List B → Bool} {S : List B → B → Bool} (f : A → B) → Stepwise T S
    → Stepwise (λ l. T (map f l)) (λ l a. S (map f l) (f a))
map_steps {A} {T = T} f x = record { none = x.none; more = λ l a. ap T (joined l a) ∙ x.more (map f l) (f a) }
  where
    joined : (l : List A) (a : A) → map f (l ++ a ∷ []) ≡ map f l ++ f a ∷ []
    joined [] a = refl
    joined (b ∷ l) a = rw (joined l a)
