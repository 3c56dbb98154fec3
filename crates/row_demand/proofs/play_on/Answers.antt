-- `row_demand::play_on` meets its contract: a row on words that a book tells of.
use Rattle.row_demand.proofs.Played.{told_on, accounted_on}
use borrow.Author.Rules.{rules}
use Rattle.row_demand.proofs.play_on.Goals as goal

pub returns : goal.returns
returns c =
    let left = c.broker_calls.ensures in
    let small = c.well_formed.1.1.1.0.0 in
    record { row = left; told = told_on left small; accounted = accounted_on left small }
