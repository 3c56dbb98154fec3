-- `trace_lines::write_text` meets its contract: each turn writes a character, and at the end all are written.
use Rattle.std.proofs.Common.{arith}
use Rattle.trace_lines.proofs.Lines.{text_start, text_on, text_end}
use Rattle.trace_lines.proofs.write_text.Goals as goal

pub loop-i-init : goal.loop-i-init
loop-i-init c = let a = c.args in text_start a.buffer.now a.at a.text.now

pub loop-i-preserved : goal.loop-i-preserved
loop-i-preserved c = text_on c.args.text.now (omega arith) c.loop-i.invariant

pub returns : goal.returns
returns c = text_end c.args.text.now (omega arith) c.loop-i.invariant
