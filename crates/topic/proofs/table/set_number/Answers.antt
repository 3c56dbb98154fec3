-- `topic::table::set_number` meets its contract: the word at its offset.
use Rattle.layout.proofs.Sets.{write_topic_number}
use Rattle.topic.proofs.table.set_number.Goals as goal

pub returns : goal.returns
returns c = rw c.topic_at-at.ensures (write_topic_number c.requires.canon c.args.t c.requires.there c.args.number)
