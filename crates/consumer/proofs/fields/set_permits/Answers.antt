-- `consumer::fields::set_permits` meets its contract: the word at its offset.
use Rattle.layout.proofs.Sets.{write_consumer_permits}
use Rattle.consumer.proofs.fields.set_permits.Goals as goal

pub returns : goal.returns
returns c = rw c.consumer_at-at.ensures (write_consumer_permits c.requires.canon c.args.i c.requires.there c.args.permits)
