-- `dispatcher::marks::load_mark` meets its contract: the six words at its offset.
use Rattle.dispatcher.proofs.Loads.{mark_here}
use Rattle.dispatcher.proofs.marks.load_mark.Goals as goal

pub returns : goal.returns
returns c = mark_here c.args.d c.dispatcher_at.result c.requires.0 c.dispatcher_at.ensures c.args.k c.requires.1
