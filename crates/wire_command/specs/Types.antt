-- The types of BaseCommands that are read.
use Rattle.std.specs.Prelude.{ℕ, cond, eqb, Result, Ok, Err}
use Rattle.wire.specs.Commands.{SUBSCRIBE, ACK, FLOW, CLOSE_CONSUMER, REDELIVER, SEEK}
use Rattle.wire_fields.specs.declared.unread.Unread.{Unread}
use Rattle.wire_command.specs.declared.command_type.CommandType.{CommandType}
use Rattle.wire_command.specs.declared.command_type.CommandType.TheVariants.{Subscribe, Ack, Flow, CloseConsumer, Redeliver, Seek}

-- the number of a type
abbrev pub type_number : CommandType → ℕ
type_number Subscribe = SUBSCRIBE
type_number Ack = ACK
type_number Flow = FLOW
type_number CloseConsumer = CLOSE_CONSUMER
type_number Redeliver = REDELIVER
type_number Seek = SEEK

-- the type of a number, or that it is another
unfoldable pub type_from : ℕ → Result CommandType Unread
type_from n =
    cond (eqb n SUBSCRIBE) (Ok Subscribe)
    (cond (eqb n ACK) (Ok Ack)
    (cond (eqb n FLOW) (Ok Flow)
    (cond (eqb n CLOSE_CONSUMER) (Ok CloseConsumer)
    (cond (eqb n REDELIVER) (Ok Redeliver)
    (cond (eqb n SEEK) (Ok Seek)
    (Err Unread.OtherType))))))
