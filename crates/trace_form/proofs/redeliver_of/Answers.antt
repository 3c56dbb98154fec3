-- `trace_form::redeliver_of` meets its contract: a word and what follows it are a redeliver.
use Rattle.std.proofs.lemmas.List.{take_rest}
use Rattle.trace_form.proofs.Tested.{no_redeliver, a_redeliver}
use Rattle.trace_form.specs.Calls.{as_call, as_read}
use Rattle.trace_form.proofs.redeliver_of.Goals as goal

pub returns-in_default : goal.returns-in_default
unfolding as_read
returns-in_default c = no_redeliver _ c.in_default.len_below

pub returns : goal.returns
unfolding as_read as_call
returns c = a_redeliver _ (λ k. (c.type_inv.words k).fits) c.in-len1-up.len_at_least (take_rest c.args.words.now 1)
