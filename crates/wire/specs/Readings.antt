-- Readings of the wire's commands: a table of bytes in plain numbers and of what comes out of them. Over the rows stands the
-- sentence of the rules that they tell; a row would not hold if that sentence were otherwise. A reader can add a row and
-- have the checker compute it.
use Rattle.std.specs.Prelude.{List, ◌++◌}
use Rattle.wire.specs.Readings.Rows.{Row}
use Rattle.wire.specs.Readings.Varints.{varint_rows, varint_place_rows}
use Rattle.wire.specs.Readings.Fields.{field_rows, looked_at_rows, skipped_rows}
use Rattle.wire.specs.Readings.Commands.{read_rows, wire_type_rows, twice_rows, absent_rows, width_rows}
use Rattle.wire.specs.Readings.Lists.{type_rows, list_rows}
use Rattle.wire.specs.Readings.Message.{message_rows, written_rows}
pub mod Rows
pub mod Varints
pub mod Fields
pub mod Commands
pub mod Lists
pub mod Message

-- the rows
unfoldable pub readings : List Row
readings =
    varint_rows ++ varint_place_rows ++ field_rows ++ looked_at_rows ++ skipped_rows ++ read_rows ++ wire_type_rows
    ++ twice_rows ++ absent_rows ++ width_rows ++ type_rows ++ list_rows ++ message_rows ++ written_rows
