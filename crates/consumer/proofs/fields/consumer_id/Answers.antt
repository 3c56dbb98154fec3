-- `consumer::fields::consumer_id` meets its contract: the word at its offset.
use Rattle.layout.proofs.Gets.{read_consumer_id}
use Rattle.consumer.proofs.fields.consumer_id.Goals as goal

pub returns : goal.returns
returns c = rw c.consumer_at-at.ensures (read_consumer_id c.requires.canon c.args.i c.requires.there)
