-- `trace_form::push_of` meets its contract: no words are a push.
use borrow.Author.Tests.{eqb-true, eqb-false}
use Rattle.rules.proofs.Table.{by_test}
use Rattle.trace_form.proofs.Tested.{no_push, a_push}
use Rattle.trace_form.specs.Calls.{as_call, as_read}
use Rattle.trace_form.proofs.push_of.Goals as goal

pub returns : goal.returns
unfolding as_read as_call
returns c =
    let words = c.args.words.now in
    by_test c.is_empty.result
    (λ t. rw (c.then_some.ensures, t) (a_push words (eqb-true _ 0 (rw (← c.is_empty.ensures) t))))
    (λ t. rw (c.then_some.ensures, t) (no_push words (eqb-false _ 0 (rw (← c.is_empty.ensures) t))))
