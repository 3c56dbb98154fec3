-- `check_rows::Rows::distinct` meets its contract: rows are told apart by their words.
use Rattle.std.proofs.Common.{rules, tests}
use lib.Dec.{ltb}
use Rattle.check_rows.specs.Rows.{row, same_word, rows_distinct}
use Rattle.check_rows.proofs.RowOrder.{word_order}
use Rattle.check_rows.proofs.Rows.distinct.Goals as goal

pub returns : goal.returns
unfolding rows_distinct
returns c =
    let s = c.args.self.now in
    c.none_alike.ensures (same_word s.store.now s.first s.width) (λ i j. ltb (row s.store.now s.first s.width j) (row s.store.now s.first s.width i))
    (word_order s.store.now s.first s.width) (λ i j r p. search (rules, tests)) (λ i j r p. search (rules, tests))
