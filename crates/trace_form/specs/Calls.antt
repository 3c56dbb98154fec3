-- The calls that code has, as the rules have them.
use Rattle.std.specs.Prelude.{ℕ, Option, Some, None}
use Rattle.std.proofs.Math.Option.{Option as Maybe, none, some}
use Rattle.rules.specs.Calls as rules
use Rattle.rules.specs.Calls.Call.{Append, Subscribe, Flow, Ack, Seek, Redeliver, Close, Push}
use Rattle.command_parts.specs.Parts.{kind_of, target_of}
use Rattle.trace_form.specs.declared.Call as declared
use Rattle.trace_form.specs.declared.Call.TheVariants as code

-- a call, with a list of so many records if it is a push
unfoldable pub as_call : ℕ → declared.Call → rules.Call
as_call room (code.Append topic ledger entry handle batch_size) =
    Append topic (record { id = record { ledger = ledger; entry = entry }; handle = handle; batch_size = batch_size })
as_call room (code.Subscribe consumer kind topic subscription) =
    Subscribe consumer (kind_of kind) (record { topic = topic; subscription = subscription })
as_call room (code.Flow consumer grant) = Flow consumer grant
as_call room (code.Ack consumer list) = Ack consumer list.now
as_call room (code.Seek consumer target) = Seek consumer (target_of target)
as_call room (code.Redeliver consumer list) = Redeliver consumer list.now
as_call room (code.Close consumer) = Close consumer
as_call room code.Push = Push room

-- so what was read, if it is a call
unfoldable pub as_read : ℕ → Option declared.Call → Maybe rules.Call
as_read room None = none
as_read room (Some x) = some (as_call room x)
