-- `trace_form::close_of` meets its contract: one word is a close.
use Rattle.trace_form.proofs.Tested.{no_close, a_close}
use Rattle.trace_form.specs.Calls.{as_call, as_read}
use Rattle.trace_form.proofs.close_of.Goals as goal

pub returns-then-words-ne1 : goal.returns-then-words-ne1
unfolding as_read
returns-then-words-ne1 c = no_close _ c.if-words-ne1.true

pub returns : goal.returns
unfolding as_read as_call
returns c = a_close _ (λ k. (c.type_inv.words k).fits) c.if-words-ne1.false
