-- `trace_lines::write_outcome` meets its contract: the line of the record, and then those of its dispatches.
use Rattle.std.proofs.Common.{rules}
use Rattle.trace_lines.proofs.Lines.{outcome_wrote}
use Rattle.trace_lines.proofs.write_outcome.Goals as goal

pub returns : goal.returns
returns c =
    let a = c.args in
    outcome_wrote a.number a.kind a.answer c.number_in.result c.dispatches_in-made.result a.list.now c.number_in.ensures
    c.dispatches_in-made.ensures (search rules) c.write_line-end.ensures c.write_dispatches.ensures
