-- `check_rows::PairRows::is_pair_among` meets its contract: each row is tested for the two words.
use Rattle.std.proofs.Common.{rules, tests, ◌&&◌}
use lib.Dec.{eqb}
use Rattle.check_rows.specs.Rows.{row, row_second, two_among}
use Rattle.check_rows.proofs.Ranges.{any_below}
use Rattle.check_rows.proofs.PairRows.is_pair_among.Goals as goal

pub returns : goal.returns
unfolding two_among
returns c =
    let x = c.args in
    let s = x.self.now.rows in
    any_below (λ j. eqb x.a (row s.store.now s.first s.width j) && eqb x.b (row_second s.store.now s.first s.width j)) x.n _ _ c.any.result
    (λ x t p k. search (rules, tests)) c.any.ensures.ran
