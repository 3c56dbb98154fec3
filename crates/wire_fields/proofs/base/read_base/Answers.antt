-- `wire_fields::base::read_base` meets its contract: the number that was seen under 1 is the type, and the part that was seen under
-- the likely one is its message if the type is that one.
use mathlib.Core.Path.{◌∙◌}
use Rattle.wire_fields.proofs.Selections.{walked, walked_not, at_a, at_b, saw_part}
use Rattle.wire_fields.proofs.Bases.{whole, seen_placed, unformed_base, untyped_base, typed_base}
use Rattle.wire_fields.proofs.base.read_base.Goals as goal

pub returns-in_err-x : goal.returns-in_err-x
returns-in_err-x c =
    rw c.from_residual.ensures (unformed_base _ (walked_not _ _ (rw (whole c.args.m.now) at c.in_err-x.ensures)))

pub returns-in_err-kind : goal.returns-in_err-kind
returns-in_err-kind c =
    let w = walked _ _ _ (rw (whole c.args.m.now) at c.in_ok-x.ensures) in
    rw c.from_residual-in_err-kind.ensures (untyped_base _ w.fs w.all_fields (at_a w) c.in_err-kind.ensures)

pub returns-then-kind-likely : goal.returns-then-kind-likely
returns-then-kind-likely c =
    let w = walked _ _ _ (rw (whole c.args.m.now) at c.in_ok-x.ensures) in
    let l = c.likely_type-likely in
    let q = c.part-message.ensures ∙ seen_placed _ l.result l.ensures w.fs w.all_fields _ (saw_part l.result w.fs (at_b w)) in
    typed_base _ w.fs w.all_fields (at_a w) _ _ c.in_ok-kind.ensures (rw c.if-kind-likely.true q)

pub returns : goal.returns
returns c =
    let w = walked _ _ _ (rw (whole c.args.m.now) at c.in_ok-x.ensures) in
    typed_base _ w.fs w.all_fields (at_a w) _ _ c.in_ok-kind.ensures c.message_part-message.ensures
