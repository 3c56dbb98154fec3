-- `trace_form::append_of` meets its contract: five words, of which the first is a byte, are an append.
use Rattle.trace_form.proofs.Tested.{no_append, append_too_wide, an_append, some_fits, none_wide}
use Rattle.trace_form.specs.Calls.{as_call, as_read}
use Rattle.trace_form.proofs.append_of.Goals as goal

pub returns-then-words-ne5 : goal.returns-then-words-ne5
unfolding as_read
returns-then-words-ne5 c = no_append _ c.if-words-ne5.true

pub returns-then-words-gt-MOST_8 : goal.returns-then-words-gt-MOST_8
unfolding as_read
returns-then-words-gt-MOST_8 c = append_too_wide _ c.if-words-gt-MOST_8.true

pub returns-in_err-topic : goal.returns-in_err-topic
unfolding as_read
returns-in_err-topic c = rw c.from_residual.ensures (append_too_wide _ (none_wide 255 c.try_from.result c.try_from.ensures c.in_err-topic.ensures.value))

pub returns : goal.returns
unfolding as_read as_call
returns c =
    let is = some_fits 255 c.try_from.result c.try_from.ensures c.in_ok-topic.ensures.value in
    rw is.1 (an_append _ (λ k. (c.type_inv.words k).fits) c.if-words-ne5.false is.0)
