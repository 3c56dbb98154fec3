-- `row_script::calls::split_call` meets its contract: its front, its count and its words are looked for in this order, then it is read.
use Rattle.std.proofs.Common.{arith, sym, ap, ◌∙◌}
use Rattle.trace_form.specs.Calls.{as_read}
use Rattle.row_script.proofs.Splitting.{no_front, too_long, no_words, no_call, a_call}
use Rattle.row_script.proofs.calls.split_call.Goals as goal

pub returns-in_default : goal.returns-in_default
returns-in_default c = let short = c.in_default.len_below in no_front c.args.script.now (omega (arith, short))

pub returns-then-count-gt-MOST_WORDS : goal.returns-then-count-gt-MOST_WORDS
returns-then-count-gt-MOST_WORDS c = too_long c.args.script.now c.in-len2-up.len_at_least c.if-count-gt-MOST_WORDS.true

pub returns-then-rest-count : goal.returns-then-rest-count
returns-then-rest-count c =
    no_words c.args.script.now c.in-len2-up.len_at_least c.if-count-gt-MOST_WORDS.false c.if-rest-count.true

pub returns-in_err-call : goal.returns-in_err-call
unfolding as_read
returns-in_err-call c =
    let read = sym (ap (as_read 0) c.in_err-call.was) ∙ c.call_of.ensures in
    rw c.from_residual.ensures
    (no_call c.args.script.now c.in-len2-up.len_at_least c.if-count-gt-MOST_WORDS.false c.if-rest-count.false
    (rw c.split_at.ensures.front at read))

pub returns : goal.returns
unfolding as_read
returns c =
    let read = sym (ap (as_read 0) c.in_ok-call.was) ∙ c.call_of.ensures in
    a_call c.args.script.now c.in-len2-up.len_at_least c.if-count-gt-MOST_WORDS.false c.if-rest-count.false
    _ (rw c.split_at.ensures.front at read) c.split_at.ensures.back
