-- `trace_form::ack_of` meets its contract: a word and what follows it are an ack.
use Rattle.std.proofs.lemmas.List.{take_rest}
use Rattle.trace_form.proofs.Tested.{no_ack, an_ack}
use Rattle.trace_form.specs.Calls.{as_call, as_read}
use Rattle.trace_form.proofs.ack_of.Goals as goal

pub returns-in_default : goal.returns-in_default
unfolding as_read
returns-in_default c = no_ack _ c.in_default.len_below

pub returns : goal.returns
unfolding as_read as_call
returns c = an_ack _ (λ k. (c.type_inv.words k).fits) c.in-len1-up.len_at_least (take_rest c.args.words.now 1)
