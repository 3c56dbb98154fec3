-- What the code's answer tells of what is there or not by the wire's definitions.
use mathlib.Core.Path.{◌≡◌, refl, sym, ap, ◌∙◌}
use mathlib.Core.Option.{Option, none, some}
use Rattle.std.specs.Prelude.{Some, None, Ok, Err}
use Rattle.std.specs.Prelude as code
use Rattle.std.specs.Option.{ok_or}
use Rattle.wire_fields.specs.Found.{answered, as_is}

-- it is there, and the code has it
pub record Told {A B : Type 0} (f : A → B) (o : Option A) (y : B) : Type 0 where
  pub x : A
  pub is : o ≡ some x
  pub same : y ≡ f x

module _ {A B : Type 0} (f : A → B) where
  pub from_some : (o : Option A) {y : B} → Some y ≡ answered f o → Told f o y
  unfolding answered
  from_some none e = absurd (cc)
  from_some (some x) {y = y} e = record { x = x; is = refl; same = cc }

  -- it is not there
  pub from_none : (o : Option A) → None ≡ answered f o → o ≡ none
  unfolding answered
  from_none none e = refl
  from_none (some x) e = absurd (cc)

-- what the code has as the definitions do
pub told_is : {A : Type 0} (o : Option A) {v : A} → Some v ≡ answered as_is o → o ≡ some v
told_is o e = let t = from_some as_is o e in t.is ∙ ap some (sym t.same)

pub told_none : {A : Type 0} (o : Option A) → None ≡ answered as_is o → o ≡ none
told_none o e = from_none as_is o e

-- what is answered where there is nothing, and what was there else
module _ {A E : Type 0} where
  pub was_some : (o : code.Option A) (why : E) {x : A} → Ok x ≡ ok_or o why → Some x ≡ o
  was_some None why e = absurd (cc)
  was_some (Some y) why e = cc

  pub was_none : (o : code.Option A) (why : E) {given : E} → Err given ≡ ok_or o why → (None ≡ o) × (given ≡ why)
  was_none None why e = (refl, cc)
  was_none (Some y) why e = absurd (cc)
