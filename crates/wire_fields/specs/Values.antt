-- The numbers of a message's fields of one number, and what is left of a lent list once they are laid into it.
use Rattle.std.specs.Prelude.{ℕ, ◌+◌, ◌≤◌, ◌≡◌, cond, List, [], ◌∷◌, map, eqb, length}
use Rattle.std.proofs.Math.Option.{some}
use Rattle.rules.specs.Table.{or_else}
use Rattle.words.specs.Act.{lay}
use Rattle.wire.specs.Fields.{fields}
use Rattle.wire.specs.Fields as wire
use Rattle.wire.specs.Select.{numbered}
use Rattle.wire_fields.specs.declared.field.Field.{Field}

-- the fields of a message that is well formed
unfoldable pub all_of : List ℕ → List wire.Field
all_of m = or_else (fields m) []

-- the numbers of some fields' fields of a number
unfoldable pub values : ℕ → List wire.Field → List ℕ
values number fs = map (λ (f : wire.Field). f.value) (numbered number fs)

-- and of a message's
unfoldable pub values_of : List ℕ → ℕ → List ℕ
values_of m number = values number (all_of m)

-- a field's number if it is of the number
unfoldable pub one_value : ℕ → Field → List ℕ
one_value number f = cond (eqb f.number number) (f.value ∷ []) []

-- words laid from a place on, with the list before and after and the next place
pub record Laid (before : List ℕ) (to : ℕ) (words after : List ℕ) (next : ℕ) : Type 0 where
  pub is : after ≡ (lay words).run to before
  pub ends : next ≡ to + length words

-- a message is well formed, and a list of some length has room for its numbers from a place on
pub record Ready (m : List ℕ) (number size to : ℕ) : Type 0 where
  pub formed : fields m ≡ some (all_of m)
  pub room : to + length (values_of m number) ≤ size
