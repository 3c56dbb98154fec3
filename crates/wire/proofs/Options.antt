-- Laws of optional answers, one read after another: where a chain answers, each of its parts did.
use mathlib.Core.Path.{◌≡◌, refl, subst}
use mathlib.Core.Bool.{Bool, true, false, cond}
use mathlib.Core.Option.{Option, none, some, bind, bind-eq-some_iff, none-ne-some, some-injective}
use Rattle.rules.proofs.Table.{by_test}

-- two chains that go on alike after what the first part answers are the same
pub bind_same : {A B : Type 0} (o : Option A) (g h : A → Option B) → ((a : A) → o ≡ some a → g a ≡ h a) → bind o g ≡ bind o h
unfolding bind
bind_same none g h e = refl
bind_same (some a) g h e = e a refl

-- what is asked for under a test that passes or not at all passes the test
pub asked : {A : Type 0} (t : Bool) (o : Option A) {a : A} → cond t o none ≡ some a → (t ≡ true) × (o ≡ some a)
asked t o {a} e = by_test t (λ p. (p, rw p at e)) (λ p. absurd (none-ne-some a (rw p at e)))

-- what is answered under a test that passes or not at all
pub answered : {A : Type 0} (t : Bool) (b : A) {a : A} → cond t (some b) none ≡ some a → (t ≡ true) × (b ≡ a)
answered t b {a} e = let p = asked t (some b) e in (p.0, some-injective b a p.1)

-- ---- what holds of every answer

-- something holds of what is answered
abbrev pub Gives : {A : Type 0} → (A → Type 0) → Option A → Type 0
Gives {A = A} P o = (a : A) → o ≡ some a → P a

-- of one that is given
pub gives_some : {A : Type 0} (P : A → Type 0) (a : A) → P a → Gives P (some a)
gives_some P a h b e = subst P (some-injective a b e) h

-- of a chain: it holds of whatever follows the first answer
pub gives_bind : {A B : Type 0} (P : B → Type 0) (o : Option A) (g : A → Option B) → ((a : A) → o ≡ some a → Gives P (g a)) → Gives P (bind o g)
gives_bind P o g h b e = let p = (bind-eq-some_iff o g).0 e in h p.0 p.1 b p.2

-- of a choice by a test
pub gives_cond : {A : Type 0} (P : A → Type 0) (t : Bool) (o p : Option A) → Gives P o → Gives P p → Gives P (cond t o p)
gives_cond P true o p g h = g
gives_cond P false o p g h = h

-- of no answer
pub gives_none : {A : Type 0} (P : A → Type 0) → Gives P none
gives_none P a e = absurd (none-ne-some a e)
