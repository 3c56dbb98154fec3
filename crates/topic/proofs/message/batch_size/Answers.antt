-- `topic::message::batch_size` meets its contract: the word at its offset.
use Rattle.topic.proofs.Positions.{batch_here}
use Rattle.topic.proofs.message.batch_size.Goals as goal

pub returns : goal.returns
returns c = batch_here c.args.t c.topic_at-at.result c.args.k c.requires.0 c.topic_at-at.ensures c.requires.1
