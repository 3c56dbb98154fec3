-- `ack::ack_id::acked_mark` meets its contract: a batch of at most 1, no words, or an ack in part.
use mathlib.Core.Path.{sym, ◌∙◌}
use native.Mathlib.Omega.{arith}
use Rattle.ack.proofs.Marking.{whole_small, whole_wordless, part, none_told}
use Rattle.ack.proofs.ack_id.acked_mark.Goals as goal

pub returns-then-batch-le1 : goal.returns-then-batch-le1
returns-then-batch-le1 c = let a = c.args in c.acked_whole.ensures ∙ whole_small a.mark a.batch a.group.words.now c.if-batch-le1.true

pub returns-then-is_empty : goal.returns-then-is_empty
returns-then-is_empty c =
    let a = c.args in
    let l = c.if-batch-le1.false in
    c.acked_whole-then-is_empty.ensures ∙ whole_wordless a.mark a.batch a.group.words.now (omega arith) (sym (c.is_empty.ensures ∙ none_told a.group.words.now) ∙ c.if-is_empty.true)

pub returns : goal.returns
returns c =
    let a = c.args in
    let l = c.if-batch-le1.false in
    c.acked_in_part.ensures ∙ part a.mark a.batch a.group.words.now (omega arith) (sym (c.is_empty.ensures ∙ none_told a.group.words.now) ∙ c.if-is_empty.false)
