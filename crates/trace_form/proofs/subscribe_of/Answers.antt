-- `trace_form::subscribe_of` meets its contract: four words, of which the second is 0 or 1 and the last two are bytes, are a subscribe.
use Rattle.std.proofs.Common.{sym}
use Rattle.trace_form.proofs.Tested.{no_subscribe, no_kind, topic_too_wide, subscription_too_wide, a_subscribe, some_fits, none_wide}
use Rattle.trace_form.specs.Calls.{as_call, as_read}
use Rattle.trace_form.proofs.subscribe_of.Goals as goal

pub returns-then-words-ne4 : goal.returns-then-words-ne4
unfolding as_read
returns-then-words-ne4 c = no_subscribe _ c.if-words-ne4.true

pub returns-then-words-gt-SHARED : goal.returns-then-words-gt-SHARED
unfolding as_read
returns-then-words-gt-SHARED c = no_kind _ c.if-words-ne4.false c.if-words-gt-SHARED.true

pub returns-then-words-gt-MOST_8 : goal.returns-then-words-gt-MOST_8
unfolding as_read
returns-then-words-gt-MOST_8 c = topic_too_wide _ c.if-words-gt-MOST_8.true

pub returns-then-words-gt-MOST_8-2 : goal.returns-then-words-gt-MOST_8-2
unfolding as_read
returns-then-words-gt-MOST_8-2 c = subscription_too_wide _ c.if-words-gt-MOST_8-2.true

pub returns-in_err-topic : goal.returns-in_err-topic
unfolding as_read
returns-in_err-topic c = rw c.from_residual.ensures (topic_too_wide _ (none_wide 255 c.try_from.result c.try_from.ensures c.in_err-topic.ensures.value))

pub returns-in_err-subscription : goal.returns-in_err-subscription
unfolding as_read
returns-in_err-subscription c =
    rw c.from_residual-in_err-subscription.ensures (subscription_too_wide _ (none_wide 255 c.try_from-2.result c.try_from-2.ensures c.in_err-subscription.ensures.value))

pub returns : goal.returns
unfolding as_read as_call
returns c =
    let topic = some_fits 255 c.try_from.result c.try_from.ensures c.in_ok-topic.ensures.value in
    let subscription = some_fits 255 c.try_from-2.result c.try_from-2.ensures c.in_ok-subscription.ensures.value in
    rw (topic.1, subscription.1)
    (a_subscribe _ (λ k. (c.type_inv.words k).fits) _ c.if-words-ne4.false c.if-words-gt-SHARED.false (sym c.from.ensures) topic.0 subscription.0)
