-- `consumer::fields::permits` meets its contract: the word at its offset.
use Rattle.layout.proofs.Gets.{read_consumer_permits}
use Rattle.consumer.proofs.fields.permits.Goals as goal

pub returns : goal.returns
returns c = rw c.consumer_at-at.ensures (read_consumer_permits c.requires.canon c.args.i c.requires.there)
