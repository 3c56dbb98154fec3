-- `topic::message::load_message` meets its contract: the four words at its offset.
use Rattle.topic.proofs.Positions.{message_here}
use Rattle.topic.proofs.message.load_message.Goals as goal

pub returns : goal.returns
returns c = message_here c.args.t c.topic_at.result c.args.k c.requires.0 c.topic_at.ensures c.requires.1
