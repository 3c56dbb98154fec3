-- `ack::ack_id::acked_in_part` meets its contract: the entry was complete, or is if no bit is left.
use Rattle.std.proofs.Common.{◌∙◌}
use Rattle.ack.proofs.Marking.{bits_now, none_left, or_left, or_right, in_part}
use Rattle.ack.proofs.ack_id.acked_in_part.Goals as goal

pub returns-then-mark : goal.returns-then-mark
returns-then-mark c =
    let m = c.args.mark in
    let n = c.args.batch in
    let w = c.args.group.words.now in
    let l = bits_now m.unacked c.bits_or_fresh-bits.result c.and-left.result n w c.bits_or_fresh-bits.ensures c.and-left.ensures in
    in_part m m.complete c.and-left.result n w (or_left m.complete _ c.if-mark.true) l

pub returns-else-mark : goal.returns-else-mark
returns-else-mark c =
    let m = c.args.mark in
    let n = c.args.batch in
    let w = c.args.group.words.now in
    let l = bits_now m.unacked c.bits_or_fresh-bits.result c.and-left.result n w c.bits_or_fresh-bits.ensures c.and-left.ensures in
    in_part m c.bits_empty.result c.and-left.result n w
    (or_right m.complete _ c.bits_empty.result c.if-mark.false (c.bits_empty.ensures ∙ none_left m.unacked c.and-left.result n w l)) l
