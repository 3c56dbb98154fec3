-- `consumer::fields::topic` meets its contract: the word at its offset.
use Rattle.layout.proofs.Gets.{read_consumer_topic}
use Rattle.consumer.proofs.fields.topic.Goals as goal

pub returns : goal.returns
returns c = rw c.consumer_at-at.ensures (read_consumer_topic c.requires.canon c.args.i c.requires.there)
