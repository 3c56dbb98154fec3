-- `trace_form::flow_of` meets its contract: two words, of which the second has 32 bits, are a flow.
use Rattle.trace_form.proofs.Tested.{no_flow, grant_too_wide, a_flow, some_fits, none_wide}
use Rattle.trace_form.specs.Calls.{as_call, as_read}
use Rattle.trace_form.proofs.flow_of.Goals as goal

pub returns-then-words-ne2 : goal.returns-then-words-ne2
unfolding as_read
returns-then-words-ne2 c = no_flow _ c.if-words-ne2.true

pub returns-then-words-gt-MOST_32 : goal.returns-then-words-gt-MOST_32
unfolding as_read
returns-then-words-gt-MOST_32 c = grant_too_wide _ c.if-words-gt-MOST_32.true

pub returns-in_err-grant : goal.returns-in_err-grant
unfolding as_read
returns-in_err-grant c = rw c.from_residual.ensures (grant_too_wide _ (none_wide 0xffff_ffff c.try_from.result c.try_from.ensures c.in_err-grant.ensures.value))

pub returns : goal.returns
unfolding as_read as_call
returns c =
    let is = some_fits 0xffff_ffff c.try_from.result c.try_from.ensures c.in_ok-grant.ensures.value in
    rw is.1 (a_flow _ (λ k. (c.type_inv.words k).fits) c.if-words-ne2.false is.0)
