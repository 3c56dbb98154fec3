-- `dispatcher::flight::load_held` meets its contract: the two words at its offset.
use Rattle.dispatcher.proofs.Places.{held_here}
use Rattle.dispatcher.proofs.flight.load_held.Goals as goal

pub returns : goal.returns
returns c = rw c.word.ensures (held_here c.args.d c.dispatcher_at.result c.requires.0 c.dispatcher_at.ensures c.args.j c.requires.1)
