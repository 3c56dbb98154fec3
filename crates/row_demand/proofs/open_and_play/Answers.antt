-- `row_demand::open_and_play` meets its contract: a row on a store that was just opened.
use Rattle.row_demand.proofs.Played.{row_opened, accounted_opened}
use borrow.Author.Rules.{rules}
use Rattle.row_demand.proofs.open_and_play.Goals as goal

pub returns : goal.returns
returns c =
    let is = c.broker_open.ensures.words in
    let left = c.broker_calls.ensures in
    let small = c.well_formed.1.1.1.1.1.0.0 in
    record { row = row_opened _ _ _ _ _ _ _ _ _ _ is left small; accounted = accounted_opened _ _ _ _ _ _ _ _ _ _ is left small }
