-- `trace_read::record_reach` meets its contract, by the lemmas of `Reaches` for each way out.
use borrow.Author.Rules.{rules}
use Rattle.trace_read.proofs.Reaches.{record_short, record_wrong, record_cut, record_ends}
use Rattle.trace_read.proofs.record_reach.Goals as goal

pub returns-then-bytes-lt-FRONT_BYTES : goal.returns-then-bytes-lt-FRONT_BYTES
returns-then-bytes-lt-FRONT_BYTES c = record_short _ (search rules)

pub returns-then-n-gt-MOST_WORDS : goal.returns-then-n-gt-MOST_WORDS
returns-then-n-gt-MOST_WORDS c = record_wrong _ _ c.number-n.ensures (search rules) (search rules)

pub returns-then-bytes-size : goal.returns-then-bytes-size
returns-then-bytes-size c = record_cut _ _ c.number-n.ensures (search rules) (search rules) (search rules)

pub returns : goal.returns
returns c = record_ends _ _ c.number-n.ensures (search rules) (search rules) (search rules)
