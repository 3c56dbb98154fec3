-- The commands of calls and the numbers that stand for them.
use Rattle.std.specs.Prelude.{ℕ, cond, eqb, Result, Ok, Err}
use Rattle.refusal.specs.declared.Refusal.{Refusal}
use Rattle.refusal.specs.declared.Refusal.TheVariants.{NoCall}
use Rattle.trace.specs.Calls as trace
use Rattle.trace_kind.specs.declared.Command.{Command}
use Rattle.trace_kind.specs.declared.Command.TheVariants.{Append, Subscribe, Flow, Ack, Seek, Redeliver, Close, Push}

-- the number of a command
abbrev pub number_of : Command → ℕ
number_of Append = trace.APPEND
number_of Subscribe = trace.SUBSCRIBE
number_of Flow = trace.FLOW
number_of Ack = trace.ACK
number_of Seek = trace.SEEK
number_of Redeliver = trace.REDELIVER
number_of Close = trace.CLOSE
number_of Push = trace.PUSH

-- the command of a number; any other is no call
abbrev pub command_of : ℕ → Result Command Refusal
command_of n =
    cond (eqb n trace.APPEND) (Ok Append)
    (cond (eqb n trace.SUBSCRIBE) (Ok Subscribe)
    (cond (eqb n trace.FLOW) (Ok Flow)
    (cond (eqb n trace.ACK) (Ok Ack)
    (cond (eqb n trace.SEEK) (Ok Seek)
    (cond (eqb n trace.REDELIVER) (Ok Redeliver)
    (cond (eqb n trace.CLOSE) (Ok Close)
    (cond (eqb n trace.PUSH) (Ok Push) (Err NoCall))))))))
