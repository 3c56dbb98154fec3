-- `check_rows::Rows::row_of` meets its contract: the first row that the test finds.
use Rattle.std.proofs.Common.{rules, tests}
use lib.Dec.{eqb}
use Rattle.check_rows.specs.Rows.{row, first_row}
use Rattle.check_rows.proofs.Ranges.{find_ran}
use Rattle.check_rows.proofs.Rows.row_of.Goals as goal

pub returns : goal.returns
unfolding first_row
returns c =
    let s = c.args.self.now in
    find_ran (λ j. eqb c.args.a (row s.store.now s.first s.width j)) s.count _ _ c.find.result (λ x t p k. search (rules, tests)) c.find.ensures.ran
