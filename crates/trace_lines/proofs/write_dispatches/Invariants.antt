-- The loop's invariant: the lines of the records from i on finish the lines of all.
use Rattle.trace_lines.proofs.Lines.{Lines}
use Rattle.trace_lines.proofs.write_dispatches.Given as goal

abbrev pub invariant-loop-i : goal.invariant-loop-i
invariant-loop-i l = Lines l.initial.buffer l.at l.list l.count l.buffer l.here l.i
