-- `dispatcher::total::total_available_permits` meets its contract: the word at its offset.
use Rattle.layout.proofs.GetsDispatcher.{read_total}
use Rattle.dispatcher.proofs.total.total_available_permits.Goals as goal

pub returns : goal.returns
returns c = rw c.dispatcher_at-at.ensures (read_total c.requires.canon c.args.d c.requires.there)
