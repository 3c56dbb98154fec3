-- `trace_form::call_of` meets its contract: each command has its own reader, and what is read as none is no call.
use Rattle.std.proofs.Common.{sym}
use Rattle.trace.specs.Calls.{call_from, call_of}
use Rattle.trace_kind.specs.declared.Command.TheVariants.{Append, Subscribe, Flow, Ack, Seek, Redeliver, Close, Push}
use Rattle.trace_kind.proofs.Commands.{no_call}
use Rattle.trace_form.specs.Calls.{as_read}
use Rattle.trace_form.proofs.Tested.{of_command, ok_some, ok_none}
use Rattle.trace_form.proofs.call_of.Goals as goal

pub returns-in_err-ok : goal.returns-in_err-ok
unfolding as_read
returns-in_err-ok c = rw c.from_residual.ensures (let e = ok_none c.in_err-ok.ensures.value in sym (no_call 0 _ _ c.try_from.ensures e.is))

pub returns-in-Append : goal.returns-in-Append
unfolding call_of call_from
returns-in-Append c = of_command c.args.kind c.args.words.now Append c.try_from.ensures (ok_some c.in_ok-ok.ensures.value) c.in-Append.is c.append_of.ensures

pub returns-in-Subscribe : goal.returns-in-Subscribe
unfolding call_of call_from
returns-in-Subscribe c = of_command c.args.kind c.args.words.now Subscribe c.try_from.ensures (ok_some c.in_ok-ok.ensures.value) c.in-Subscribe.is c.subscribe_of.ensures

pub returns-in-Flow : goal.returns-in-Flow
unfolding call_of call_from
returns-in-Flow c = of_command c.args.kind c.args.words.now Flow c.try_from.ensures (ok_some c.in_ok-ok.ensures.value) c.in-Flow.is c.flow_of.ensures

pub returns-in-Ack : goal.returns-in-Ack
unfolding call_of call_from
returns-in-Ack c = of_command c.args.kind c.args.words.now Ack c.try_from.ensures (ok_some c.in_ok-ok.ensures.value) c.in-Ack.is c.ack_of.ensures

pub returns-in-Seek : goal.returns-in-Seek
unfolding call_of call_from
returns-in-Seek c = of_command c.args.kind c.args.words.now Seek c.try_from.ensures (ok_some c.in_ok-ok.ensures.value) c.in-Seek.is c.seek_of.ensures

pub returns-in-Redeliver : goal.returns-in-Redeliver
unfolding call_of call_from
returns-in-Redeliver c = of_command c.args.kind c.args.words.now Redeliver c.try_from.ensures (ok_some c.in_ok-ok.ensures.value) c.in-Redeliver.is c.redeliver_of.ensures

pub returns-in-Close : goal.returns-in-Close
unfolding call_of call_from
returns-in-Close c = of_command c.args.kind c.args.words.now Close c.try_from.ensures (ok_some c.in_ok-ok.ensures.value) c.in-Close.is c.close_of.ensures

pub returns-in-Push : goal.returns-in-Push
unfolding call_of call_from
returns-in-Push c = of_command c.args.kind c.args.words.now Push c.try_from.ensures (ok_some c.in_ok-ok.ensures.value) c.in-Push.is c.push_of.ensures
