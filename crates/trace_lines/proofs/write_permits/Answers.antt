-- `trace_lines::write_permits` meets its contract: the integer, and the end of the line.
use Rattle.trace_lines.proofs.Lines.{permits_wrote}
use Rattle.trace_lines.proofs.write_permits.Goals as goal

pub returns : goal.returns
returns c =
    permits_wrote _ _ c.wrapping_add_u64-permits.ensures.value c.write_difference-end.ensures
