-- `wire_fields::field::field_at` meets its contract: the tag that was read decides.
use mathlib.Core.Path.{◌∙◌}
use Rattle.wire_fields.proofs.FieldsRead.{was_read, not_read, no_tag, number_0, number_high, number_right}
use Rattle.wire_fields.proofs.field.field_at.Goals as goal

pub returns-in_err-tag : goal.returns-in_err-tag
returns-in_err-tag c = rw c.from_residual.ensures (no_tag _ _ (not_read _ _ c.in_err-tag.ensures))

pub returns-then-tag-lt-WIRE_TYPES : goal.returns-then-tag-lt-WIRE_TYPES
returns-then-tag-lt-WIRE_TYPES c =
    number_0 _ _ _ _ (was_read _ _ c.requires _ _ c.in_ok-tag.ensures) c.if-tag-lt-WIRE_TYPES.true

pub returns-then-tag-ge-UINT32_END : goal.returns-then-tag-ge-UINT32_END
returns-then-tag-ge-UINT32_END c =
    let w = was_read _ _ c.requires _ _ c.in_ok-tag.ensures in
    number_high _ _ _ _ w c.if-tag-lt-WIRE_TYPES.false c.if-tag-ge-UINT32_END.true

pub content_at-requires : goal.content_at-requires
content_at-requires c = (was_read _ _ c.requires _ _ c.in_ok-tag.ensures).ends

pub returns : goal.returns
returns c =
    let w = was_read _ _ c.requires _ _ c.in_ok-tag.ensures in
    c.content_at.ensures ∙ number_right _ _ _ _ w c.if-tag-lt-WIRE_TYPES.false c.if-tag-ge-UINT32_END.false
