-- `dispatcher::marks::is_complete` meets its contract: the word at its offset is 1.
use Rattle.dispatcher.proofs.Loads.{complete_here}
use Rattle.dispatcher.proofs.marks.is_complete.Goals as goal

pub returns : goal.returns
returns c = complete_here c.args.d c.dispatcher_at-at.result c.requires.0 c.dispatcher_at-at.ensures c.args.k c.requires.1
