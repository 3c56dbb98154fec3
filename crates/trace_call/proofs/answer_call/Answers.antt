-- `trace_call::answer_call` meets its contract: each call is made by its operation, and only a push may fill the list.
use Rattle.std.proofs.Common.{refl}
use Rattle.rules.proofs.Answers.{is_push}
use Rattle.trace_form.specs.Calls.{as_call}
use Rattle.trace_call.proofs.Calls.{list_kept}
use Rattle.trace_call.proofs.answer_call.Goals as goal

pub returns-in-Append : goal.returns-in-Append
unfolding as_call is_push
returns-in-Append c = rw c.in-Append.is (list_kept _ _ _ c.requires refl c.append.ensures)

pub returns-in-Subscribe : goal.returns-in-Subscribe
unfolding as_call is_push
returns-in-Subscribe c = rw c.in-Subscribe.is (list_kept _ _ _ c.requires refl c.subscribe.ensures)

pub returns-in-Flow : goal.returns-in-Flow
unfolding as_call is_push
returns-in-Flow c = rw c.in-Flow.is (list_kept _ _ _ c.requires refl c.flow.ensures)

pub returns-in-Ack : goal.returns-in-Ack
unfolding as_call is_push
returns-in-Ack c = rw c.in-Ack.is (list_kept _ _ _ c.requires refl c.ack.ensures)

pub returns-in-Seek : goal.returns-in-Seek
unfolding as_call is_push
returns-in-Seek c = rw c.in-Seek.is (list_kept _ _ _ c.requires refl c.seek.ensures)

pub returns-in-Redeliver : goal.returns-in-Redeliver
unfolding as_call is_push
returns-in-Redeliver c = rw c.in-Redeliver.is (list_kept _ _ _ c.requires refl c.redeliver.ensures)

pub returns-in-Close : goal.returns-in-Close
unfolding as_call is_push
returns-in-Close c = rw c.in-Close.is (list_kept _ _ _ c.requires refl c.close.ensures)

pub returns-in-Push : goal.returns-in-Push
unfolding as_call
returns-in-Push c = rw c.in-Push.is c.push.ensures
