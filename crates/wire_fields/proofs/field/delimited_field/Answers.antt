-- `wire_fields::field::delimited_field` meets its contract: what was read of the length decides, and whether its bytes are there.
use mathlib.Core.Path.{◌∙◌}
use Rattle.wire_fields.proofs.FieldsRead.{was_read, not_read, no_delimited_field, is_delimited_field}
use Rattle.wire_fields.proofs.field.delimited_field.Goals as goal

pub returns-in_err-size : goal.returns-in_err-size
returns-in_err-size c = rw c.from_residual.ensures (no_delimited_field _ _ _ (not_read _ _ c.in_err-size.ensures))

pub part_field-requires : goal.part_field-requires
part_field-requires c = (was_read _ _ c.requires _ _ c.in_ok-size.ensures).ends

pub returns : goal.returns
returns c =
    let a = c.args in
    c.part_field.ensures ∙ is_delimited_field a.m.now a.number a.at _ _ (was_read _ _ c.requires _ _ c.in_ok-size.ensures)
