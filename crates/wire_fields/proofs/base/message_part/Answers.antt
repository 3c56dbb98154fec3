-- `wire_fields::base::message_part` meets its contract: the part that was seen under the type's number is its message.
use mathlib.Core.Path.{◌∙◌}
use Rattle.wire_fields.proofs.Selections.{walked, walked_not, at_a, saw_part}
use Rattle.wire_fields.proofs.Bases.{seen_placed, unformed_placed, high_placed}
use Rattle.wire_fields.proofs.base.message_part.Goals as goal

pub returns-then-kind-ge-UINT32_END : goal.returns-then-kind-ge-UINT32_END
returns-then-kind-ge-UINT32_END c = high_placed _ _ c.if-kind-ge-UINT32_END.true

pub returns-in_err-x : goal.returns-in_err-x
returns-in_err-x c = rw c.from_residual.ensures (unformed_placed _ _ (walked_not _ _ c.in_err-x.ensures))

pub returns : goal.returns
returns c =
    let w = walked _ _ _ c.in_ok-x.ensures in
    let kind = c.args.kind in
    c.part.ensures ∙ seen_placed _ kind c.if-kind-ge-UINT32_END.false w.fs w.all_fields _ (saw_part kind w.fs (at_a w))
