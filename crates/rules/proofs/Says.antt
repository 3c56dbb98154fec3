-- Tests and what they say: a test passes exactly where something holds. The tests of the rules are put together from the
-- few kinds here, and their readings with them.
use Prim.Native.Nat.{ℕ, ◌≤◌, ◌<◌}
use mathlib.Core.Path.{◌≡◌, refl, sym, ◌∙◌, subst}
use mathlib.Core.Bool.{Bool, true, false, not, ◌&&◌, ◌||◌, false≢true}
use mathlib.Core.List.Memᴰ
use mathlib.Core.List.{List, [], ◌∷◌, Memᴰ}
use mathlib.Core.Logic.{◌⊎◌, inl, inr, ⊎_elim}
use lib.Dec.{eqb, leb, ltb}
use borrow.Author.Tests.{ltb-true, leb-true, eqb-true, lt-ltb, le-leb, eq-eqb}
use Rattle.rules.specs.Table.{all, Every, any, distinct, Distinct, member}

-- a test passes exactly where something holds
pub record Says (t : Bool) (P : Type 0) : Type 0 where
  pub gives : t ≡ true → P
  pub given : P → t ≡ true

-- the same in other words
pub says_as : {t : Bool} {P Q : Type 0} → (P → Q) → (Q → P) → Says t P → Says t Q
says_as f g s = record { gives = λ e. f (s.gives e); given = λ q. s.given (g q) }

-- ---- numbers

pub says_leb : (a b : ℕ) → Says (leb a b) (a ≤ b)
says_leb a b = record { gives = leb-true a b; given = le-leb a b }

pub says_ltb : (a b : ℕ) → Says (ltb a b) (a < b)
says_ltb a b = record { gives = ltb-true a b; given = lt-ltb a b }

pub says_eqb : (a b : ℕ) → Says (eqb a b) (a ≡ b)
says_eqb a b = record { gives = eqb-true a b; given = eq-eqb a b }

-- ---- both, either, neither

-- a test and that it passes
pub says_true : (t : Bool) → Says t (t ≡ true)
says_true t = record { gives = λ e. e; given = λ e. e }

-- a test that must fail
pub says_not : (t : Bool) → Says (not t) (t ≡ false)
says_not true = record { gives = λ e. absurd (false≢true e); given = λ e. absurd (false≢true (sym e)) }
says_not false = record { gives = λ e. refl; given = λ e. refl }

pub says_and : {P Q : Type 0} (t u : Bool) → Says t P → Says u Q → Says (t && u) (P × Q)
says_and true u s r = record { gives = λ e. (s.gives refl, r.gives e); given = λ k. r.given k.1 }
says_and false u s r =
    record { gives = λ e. absurd (false≢true e); given = λ k. absurd (false≢true (s.given k.0)) }

pub says_or : {P Q : Type 0} (t u : Bool) → Says t P → Says u Q → Says (t || u) (P ⊎ Q)
says_or true u s r = record { gives = λ e. inl (s.gives refl); given = λ k. refl }
says_or false u s r =
    record { gives = λ e. inr (r.gives e); given = ⊎_elim (λ p. absurd (false≢true (s.given p))) r.given }

-- ---- every element, some element

module _ {A : Type 0} where
  -- of every element of a longer list: of the first, and of every other
  pub every_cons : {P : A → Type 0} {x : A} {l : List A} → P x → Every P l → Every P (x ∷ l)
  every_cons {P} {x} {l} p h a m = ⊎_elim (λ e. subst P (sym e) p) (h a) (Memᴰ.cases_cons m)

  -- of every element of the rest
  pub every_tail : {P : A → Type 0} {x : A} {l : List A} → Every P (x ∷ l) → Every P l
  every_tail h a m = h a (Memᴰ.tail m)

  pub every_head : {P : A → Type 0} {x : A} {l : List A} → Every P (x ∷ l) → P x
  every_head {x = x} h = h x (Memᴰ.head refl)

  pub says_all : {p : A → Bool} {P : A → Type 0} → ((a : A) → Says (p a) (P a)) → (l : List A) → Says (all p l) (Every P l)
  unfolding all
  says_all f [] = record { gives = λ e a m. absurd (Memᴰ.not-nil m); given = λ h. refl }
  says_all {p} f (x ∷ l) =
      says_as (λ k. every_cons k.0 k.1) (λ h. (every_head h, every_tail h))
      (says_and (p x) (all p l) (f x) (says_all f l))

  -- that no element passes a test
  pub says_none : (p : A → Bool) (l : List A) → Says (not (any p l)) (Every (λ (a : A). p a ≡ false) l)
  unfolding any
  says_none p [] = record { gives = λ e a m. absurd (Memᴰ.not-nil m); given = λ h. refl }
  says_none p (x ∷ l) = step (p x) refl (says_none p l)
    where
      step :
          (t : Bool) → p x ≡ t → Says (not (any p l)) (Every (λ (a : A). p a ≡ false) l)
          → Says (not (t || any p l)) (Every (λ (a : A). p a ≡ false) (x ∷ l))
      step true e rest =
          record {
            gives = λ n. absurd (false≢true n);
            given = λ h. absurd (false≢true (sym (h x (Memᴰ.head refl)) ∙ e));
          }
      step false e rest =
          says_as (λ h. every_cons {P = λ (a : A). p a ≡ false} e h) (λ h a m. h a (Memᴰ.tail m)) rest

  pub says_distinct : (same : A → A → Bool) (l : List A) → Says (distinct same l) (Distinct same l)
  unfolding distinct Distinct
  says_distinct same [] = record { gives = λ e. tt; given = λ h. refl }
  says_distinct same (x ∷ l) =
      says_and (not (any (same x) l)) (distinct same l) (says_none (same x) l) (says_distinct same l)

-- a number among others
pub says_member : (n : ℕ) (l : List ℕ) → Says (member n l) (Memᴰ n l)
unfolding member any
says_member n [] = record { gives = λ e. absurd (false≢true e); given = λ m. absurd (Memᴰ.not-nil m) }
says_member n (m ∷ l) =
    says_as (⊎_elim Memᴰ.head Memᴰ.tail) Memᴰ.cases_cons
    (says_or (eqb n m) (member n l) (says_eqb n m) (says_member n l))
