-- Worked histories besides the readings, in the same form: what comes out, and what must. Over the rows stands the sentence
-- of document 01 that they tell. A reader can add a row and have the checker compute it.
use Rattle.std.specs.Prelude.{List, ◌++◌}
use Rattle.rules.specs.Readings.{Row}
use Rattle.rules.specs.Histories.Joins.{open_rows, append_rows, subscribe_rows}
use Rattle.rules.specs.Histories.Grants.{flow_rows, close_rows, balance_rows}
use Rattle.rules.specs.Histories.Acks.{list_rows, ack_rows}
use Rattle.rules.specs.Histories.Returns.{redeliver_rows, seek_rows}
use Rattle.rules.specs.Histories.Pushes.{shared_rows, plain_rows, word_rows}
use Rattle.rules.specs.Histories.Spelt.{spelt_rows, spelt_dispatcher_rows, width_rows}
pub mod Views
pub mod Joins
pub mod Grants
pub mod Acks
pub mod Returns
pub mod Pushes
pub mod Spelt

-- the rows
unfoldable pub histories : List Row
histories =
    open_rows ++ append_rows ++ subscribe_rows ++ flow_rows ++ close_rows ++ balance_rows ++ list_rows ++ ack_rows
    ++ redeliver_rows ++ seek_rows ++ shared_rows ++ plain_rows ++ word_rows ++ spelt_rows ++ spelt_dispatcher_rows
    ++ width_rows
