-- `wire_write::message::write_content` meets its contract: four pieces one after the other.
use Rattle.wire_write.proofs.Messages.{content_written}
use Rattle.wire_write.proofs.message.write_content.Goals as goal

pub returns : goal.returns
returns c =
    content_written c.args.«record».now c.write_number-after_consumer.ensures c.write_id-after_id.ensures
    c.write_number-after_redelivery_count.ensures c.write_ack_set.ensures
