-- `trace_lines::write_line` meets its contract: four numbers one after the other.
use Rattle.words.proofs.Writers.{and_then}
use Rattle.trace.specs.Text.{outcome_line}
use Rattle.trace_lines.proofs.write_line.Goals as goal

pub returns : goal.returns
unfolding outcome_line
returns c =
    and_then
    (and_then (and_then c.write_number-after_number.ensures c.write_number-after_kind.ensures) c.write_number-after_code.ensures)
    c.write_number.ensures
