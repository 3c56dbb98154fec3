-- `trace_read::header_reach` meets its contract, by the lemmas of `Reaches` for each way out.
use mathlib.Core.Path.{◌∙◌}
use borrow.Author.Rules.{rules}
use Rattle.trace.specs.Format.{number_from, number, number_bytes, header}
use Rattle.trace_read.proofs.Reaches.{header_short, header_wrong, header_ends}
use Rattle.trace_read.proofs.header_reach.Goals as goal

pub returns-then-bytes-lt-HEADER_BYTES : goal.returns-then-bytes-lt-HEADER_BYTES
returns-then-bytes-lt-HEADER_BYTES c = header_short _ (search rules)

pub returns-then-number-ne-HEADER : goal.returns-then-number-ne-HEADER
unfolding header number_bytes number_from number
returns-then-number-ne-HEADER c = header_wrong _ (search rules) (λ e. c.if-number-ne-HEADER.true (c.number.ensures ∙ e))

pub returns : goal.returns
unfolding header number_bytes number_from number
returns c = header_ends _ (search rules) (λ i. (c.type_inv.bytes i).fits) (search rules)
