-- `trace_lines::write_number` meets its contract: the digits, and then the character.
use Rattle.trace_lines.proofs.Lines.{number_wrote}
use Rattle.trace_lines.proofs.write_number.Goals as goal

pub returns : goal.returns
returns c = number_wrote _ _ c.write_decimal-end.ensures
