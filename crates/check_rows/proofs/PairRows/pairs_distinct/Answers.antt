-- `check_rows::PairRows::pairs_distinct` meets its contract: rows are told apart by their two words.
use Rattle.std.proofs.Common.{rules, tests}
use Rattle.check_rows.specs.Rows.{row, row_second, same_two, above_row, twos_distinct}
use Rattle.check_rows.proofs.RowOrder.{pair_order}
use Rattle.check_rows.proofs.PairRows.pairs_distinct.Goals as goal

pub returns : goal.returns
unfolding twos_distinct
returns c =
    let s = c.args.self.now.rows in
    c.none_alike.ensures (same_two s.store.now s.first s.width)
    (λ i. above_row s.store.now s.first s.width (row s.store.now s.first s.width i) (row_second s.store.now s.first s.width i))
    (pair_order s.store.now s.first s.width) (λ i j r p. search (rules, tests)) (λ i j r p. search (rules, tests))
