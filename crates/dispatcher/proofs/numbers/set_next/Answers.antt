-- `dispatcher::numbers::set_next` meets its contract: the word at its offset.
use Rattle.layout.proofs.SetsDispatcher.{write_next}
use Rattle.dispatcher.proofs.numbers.set_next.Goals as goal

pub returns : goal.returns
returns c = rw c.dispatcher_at-at.ensures (write_next c.requires.canon c.args.d c.requires.there c.args.to)
