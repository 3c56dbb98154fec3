-- Lists as tables: what the rules do with topics, consumers and dispatchers alike.
use Rattle.std.specs.Prelude.{ℕ, suc, ◌≡◌, Bool, true, false, cond, not, ◌&&◌, ◌||◌, eqb}
use mathlib.Core.List.{List, [], ◌∷◌, Memᴰ}
use Rattle.std.proofs.Math.Option.{Option, none, some}

-- what the rows of a table are found by
pub record Key (A K : Type 0) : Type 0 where
  pub key : A → K
  pub same : K → K → Bool

-- the first row with a key
unfoldable pub find : {A K : Type 0} → Key A K → K → List A → Option A
find k j [] = none
find k j (a ∷ l) = cond (k.same j (k.key a)) (some a) (find k j l)

-- the row in place of the one with its key, or at the end where there is none
unfoldable pub put : {A K : Type 0} → Key A K → A → List A → List A
put k a [] = a ∷ []
put k a (b ∷ l) = cond (k.same (k.key a) (k.key b)) (a ∷ l) (b ∷ put k a l)

-- the elements that pass a test, in order
unfoldable pub keep : {A : Type 0} → (A → Bool) → List A → List A
keep p [] = []
keep p (a ∷ l) = let rest = keep p l in cond (p a) (a ∷ rest) rest

-- whether every element passes a test
unfoldable pub all : {A : Type 0} → (A → Bool) → List A → Bool
all p [] = true
all p (a ∷ l) = p a && all p l

-- something holds of every element
abbrev pub Every : {A : Type 0} → (A → Type 0) → List A → Type 0
Every {A = A} P l = (a : A) → Memᴰ a l → P a

-- whether some element passes a test
unfoldable pub any : {A : Type 0} → (A → Bool) → List A → Bool
any p [] = false
any p (a ∷ l) = p a || any p l

-- whether no element is the same as a later one
unfoldable pub distinct : {A : Type 0} → (A → A → Bool) → List A → Bool
distinct same [] = true
distinct same (a ∷ l) = not (any (same a) l) && distinct same l

-- no element is the same as a later one
unfoldable pub Distinct : {A : Type 0} → (A → A → Bool) → List A → Type 0
Distinct same [] = Unit {0}
Distinct same (a ∷ l) = Every (λ b. same a b ≡ false) l × Distinct same l

-- whether a number stands in a list
unfoldable pub member : ℕ → List ℕ → Bool
member n l = any (eqb n) l

-- how often a number stands in a list
unfoldable pub count : ℕ → List ℕ → ℕ
count n [] = 0
count n (m ∷ l) = let rest = count n l in cond (eqb n m) (suc rest) rest

-- whether there is no element
unfoldable pub is_empty : {A : Type 0} → List A → Bool
is_empty [] = true
is_empty (a ∷ l) = false

-- whether there is a value
unfoldable pub is_some : {A : Type 0} → Option A → Bool
is_some none = false
is_some (some a) = true

-- the value, or another where there is none
unfoldable pub or_else : {A : Type 0} → Option A → A → A
or_else none b = b
or_else (some a) b = a
