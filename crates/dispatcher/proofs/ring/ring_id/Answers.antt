-- `dispatcher::ring::ring_id` meets its contract: the word at its offset.
use Rattle.dispatcher.proofs.Places.{ring_here}
use Rattle.dispatcher.proofs.ring.ring_id.Goals as goal

pub returns : goal.returns
returns c = ring_here c.args.d c.dispatcher_at-at.result c.requires.0 c.dispatcher_at-at.ensures c.args.j c.requires.1
