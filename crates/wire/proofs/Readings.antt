-- Every row of the readings comes out as it must, by computation.
use Prim.Native.Nat.{ℕ}
use mathlib.Core.Path.{◌≡◌, refl}
use mathlib.Core.List.{map}
use mathlib.Core.Option.{bind}
use Rattle.rules.specs.Table.{keep, all}
use Rattle.words.specs.Act.{lay}
use Rattle.wire.specs.Varint.{followed, varint_within, of_64_bits, varint, written_within, written}
use Rattle.wire.specs.Fields.{inside, varint_field, delimited_field, fixed_field, field_of, field, fields_from, fields}
use Rattle.wire.specs.Select.{numbered, uint64, uint32, int32, count, required, optional, part, up_to, numbers}
use Rattle.wire.specs.Ids.{id_of, group_of, groups_of, id_list, group_words, list_words}
use Rattle.wire.specs.Commands.{or_16, type_of, message_of, base, kind_of, name, subscribe_of, flow_of, ack_of, target_of, seek_of}
use Rattle.wire.specs.Commands.{redeliver_of, close_of, takes_command, command_of, command}
use Rattle.wire.specs.Message.{content_of, message, number_bytes, part_bytes, id_bytes, ack_set_bytes, content_bytes, message_bytes}
use Rattle.wire.specs.Answers.{read_command, command_type, command_list, kind_word, target_words, command_words, command_answer}
use Rattle.wire.specs.Answers.{command_after, ids_after, record_of, message_answer, record_after, message_from, writable}
use Rattle.wire.specs.Answers.{write_message, bytes_answer, buffer_after}
use Rattle.wire.specs.Readings.Rows.{Row, varint_numbers, each_field, fields_numbers, reading_numbers, message_numbers}
use Rattle.wire.specs.Readings.Rows.{bytes_written, written_numbers, times}
use Rattle.wire.specs.Readings.Varints.{varint_rows, varint_place_rows}
use Rattle.wire.specs.Readings.Fields.{field_rows, looked_at_rows, skipped_rows}
use Rattle.wire.specs.Readings.Commands.{read_rows, wire_type_rows, twice_rows, absent_rows, width_rows}
use Rattle.wire.specs.Readings.Lists.{type_rows, list_rows}
use Rattle.wire.specs.Readings.Message.{message_rows, written_rows}
use Rattle.wire.specs.Readings.{readings}

-- `unfolding computes` opens every definition of the wire at once
unfoldable pub computes : ℕ
unfolding bind keep all lay
    followed varint_within of_64_bits varint written_within written
    inside varint_field delimited_field fixed_field field_of field fields_from fields
    numbered uint64 uint32 int32 count required optional part up_to numbers
    id_of group_of groups_of id_list group_words list_words
    or_16 type_of message_of base kind_of name subscribe_of flow_of ack_of target_of seek_of redeliver_of close_of
    takes_command command_of command
    content_of message number_bytes part_bytes id_bytes ack_set_bytes content_bytes message_bytes
    read_command command_type command_list kind_word target_words command_words command_answer command_after ids_after
    record_of message_answer record_after message_from writable write_message bytes_answer buffer_after
    varint_numbers each_field fields_numbers reading_numbers message_numbers bytes_written written_numbers times
    varint_rows varint_place_rows field_rows looked_at_rows skipped_rows read_rows wire_type_rows twice_rows absent_rows
    width_rows type_rows list_rows message_rows written_rows readings
computes = 0

-- the readings hold
pub readings_hold : map (λ (r : Row). r.comes_out) readings ≡ map (λ (r : Row). r.must) readings
unfolding computes
readings_hold = refl
