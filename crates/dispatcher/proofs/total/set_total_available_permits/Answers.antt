-- `dispatcher::total::set_total_available_permits` meets its contract: the word at its offset.
use Rattle.layout.proofs.SetsDispatcher.{write_total}
use Rattle.dispatcher.proofs.total.set_total_available_permits.Goals as goal

pub returns : goal.returns
returns c = rw c.dispatcher_at-at.ensures (write_total c.requires.canon c.args.d c.requires.there c.args.total)
