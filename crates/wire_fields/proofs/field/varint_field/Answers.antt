-- `wire_fields::field::varint_field` meets its contract: what was read of the varint decides.
use Rattle.wire_fields.proofs.FieldsRead.{was_read, not_read, no_varint_field, is_varint_field}
use Rattle.wire_fields.proofs.field.varint_field.Goals as goal

pub returns-in_err-v : goal.returns-in_err-v
returns-in_err-v c = rw c.from_residual.ensures (no_varint_field _ _ _ (not_read _ _ c.in_err-v.ensures))

pub returns : goal.returns
returns c =
    let a = c.args in
    is_varint_field a.m.now a.number a.at _ _ (was_read _ _ c.requires _ _ c.in_ok-v.ensures)
