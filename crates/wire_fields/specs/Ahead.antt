-- A walk over the fields of a message: what a step of it gives.
use Rattle.std.specs.Prelude.{◌-◌, ◌<◌, ◌≤◌, ◌≡◌, length, Option, MatchOption, IfSome}
use Rattle.std.specs.Iterator.{Count, at_most}
use Rattle.wire.specs.Fields.{field}
use Rattle.wire_fields.specs.Found.{answered, as_field}
use Rattle.wire_fields.specs.declared.field.Field.{Field}
use Rattle.wire_fields.specs.declared.fields.Fields.{Fields}

-- no more steps than bytes are left
abbrev pub bytes_left : Fields → Count
bytes_left s = at_most (length s.m.now - s.at)

-- what a step from a place of a message gives: the end where no bytes are left, else the field that stands there, if one does
abbrev pub Gives : Fields → Option (Option Field) → Fields → Type 0
Gives s r t = MatchOption r
    (length s.m.now ≤ s.at)
    (λ o. (s.at < length s.m.now) × (o ≡ answered as_field (field s.m.now s.at)) × IfSome o (λ f. t.at ≡ f.next))

-- and the walk goes on in the same message, behind the field
pub record Steps (s : Fields) (r : Option (Option Field)) (t : Fields) : Type 0 where
  pub same : t.m.now ≡ s.m.now
  pub gives : Gives s r t
