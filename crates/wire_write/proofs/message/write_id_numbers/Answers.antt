-- `wire_write::message::write_id_numbers` meets its contract: five fields one after the other.
use Rattle.wire.specs.Message.{id_bytes}
use Rattle.words.proofs.Writers.{and_then}
use Rattle.wire_write.proofs.message.write_id_numbers.Goals as goal

pub returns : goal.returns
unfolding id_bytes
returns c =
    and_then
    (and_then
    (and_then
    (and_then c.write_number-after_ledger.ensures c.write_number-after_entry.ensures)
    c.write_number-after_partition.ensures)
    c.write_number-after_batch_index.ensures)
    c.write_batch_size.ensures
