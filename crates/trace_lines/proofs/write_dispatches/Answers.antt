-- `trace_lines::write_dispatches` meets its contract: each turn writes one line more, and at the end all are written.
use Rattle.std.proofs.Common.{rules}
use Rattle.trace_lines.proofs.Lines.{lines_start, lines_on, lines_end}
use Rattle.trace_lines.proofs.write_dispatches.Goals as goal

pub loop-i-init : goal.loop-i-init
loop-i-init c =
    let a = c.args in
    lines_start a.buffer.now a.at a.list.now a.count

pub loop-i-preserved : goal.loop-i-preserved
loop-i-preserved c = lines_on c.loop-i.invariant (search rules) c.write_dispatch-here.ensures

pub returns : goal.returns
returns c = lines_end c.loop-i.invariant (search rules)
