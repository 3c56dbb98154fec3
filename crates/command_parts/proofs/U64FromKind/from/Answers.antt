-- `command_parts::U64FromKind::from` meets its contract, kind by kind.
use Rattle.command_parts.specs.Parts.{kind_of}
use Rattle.command_parts.proofs.U64FromKind.from.Goals as goal

pub returns-in-Plain : goal.returns-in-Plain
unfolding kind_of
returns-in-Plain c = rw c.in-Plain.is

pub returns-in-Shared : goal.returns-in-Shared
unfolding kind_of
returns-in-Shared c = rw c.in-Shared.is
