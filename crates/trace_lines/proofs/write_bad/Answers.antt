-- `trace_lines::write_bad` meets its contract: the word, and then the number.
use Rattle.words.proofs.Writers.{and_then}
use Rattle.trace.specs.Text.{bad_line}
use Rattle.trace_lines.proofs.write_bad.Goals as goal

pub returns : goal.returns
unfolding bad_line
returns c = and_then c.write_text-after_word.ensures c.write_number.ensures
