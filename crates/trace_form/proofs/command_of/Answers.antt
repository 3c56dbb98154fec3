-- `trace_form::command_of` meets its contract: each call has the kind of its command.
use Rattle.std.proofs.Common.{refl}
use Rattle.trace.specs.Calls.{kind_of}
use Rattle.trace_form.specs.Calls.{as_call}
use Rattle.trace_form.proofs.command_of.Goals as goal

pub returns-in-Append : goal.returns-in-Append
unfolding kind_of as_call
returns-in-Append c = rw c.in-Append.is refl

pub returns-in-Subscribe : goal.returns-in-Subscribe
unfolding kind_of as_call
returns-in-Subscribe c = rw c.in-Subscribe.is refl

pub returns-in-Flow : goal.returns-in-Flow
unfolding kind_of as_call
returns-in-Flow c = rw c.in-Flow.is refl

pub returns-in-Ack : goal.returns-in-Ack
unfolding kind_of as_call
returns-in-Ack c = rw c.in-Ack.is refl

pub returns-in-Seek : goal.returns-in-Seek
unfolding kind_of as_call
returns-in-Seek c = rw c.in-Seek.is refl

pub returns-in-Redeliver : goal.returns-in-Redeliver
unfolding kind_of as_call
returns-in-Redeliver c = rw c.in-Redeliver.is refl

pub returns-in-Close : goal.returns-in-Close
unfolding kind_of as_call
returns-in-Close c = rw c.in-Close.is refl

pub returns-in-Push : goal.returns-in-Push
unfolding kind_of as_call
returns-in-Push c = rw c.in-Push.is refl
