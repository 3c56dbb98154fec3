-- `broker::rows::broker_calls` meets its contract: the words are checked once, then the row is made.
use Rattle.store.proofs.Tests.{answered_no, answered_yes}
use Rattle.row_calls.proofs.Rows.{row_unspelt}
use Rattle.broker.proofs.rows.broker_calls.Goals as goal

pub returns-then-not-spells : goal.returns-then-not-spells
returns-then-not-spells c = rw c.word_of.ensures (row_unspelt _ _ _ _ (answered_no c.spells.ensures c.if-not-spells.true))

pub make_row-requires : goal.make_row-requires
make_row-requires c = answered_yes c.spells.ensures c.if-not-spells.false
