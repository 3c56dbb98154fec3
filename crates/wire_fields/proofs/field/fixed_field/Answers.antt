-- `wire_fields::field::fixed_field` meets its contract: it ends inside the message or not.
use Rattle.wire_fields.proofs.FieldsRead.{no_fixed_field, is_fixed_field}
use Rattle.wire_fields.proofs.field.fixed_field.Goals as goal

pub returns-then-m-at : goal.returns-then-m-at
returns-then-m-at c = no_fixed_field _ _ _ _ _ c.requires c.if-m-at.true

pub returns : goal.returns
returns c = let a = c.args in is_fixed_field a.m.now a.number a.wire a.width a.at c.requires c.if-m-at.false
