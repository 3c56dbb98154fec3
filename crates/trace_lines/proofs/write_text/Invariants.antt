-- What is left of the text, laid from here on, finishes it.
use Rattle.trace_lines.proofs.Lines.{Text}
use Rattle.trace_lines.proofs.write_text.Given as goal

abbrev pub invariant-loop-i : goal.invariant-loop-i
invariant-loop-i l = Text l.initial.buffer l.at l.text l.buffer l.i
