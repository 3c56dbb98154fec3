-- `dispatcher::numbers::load_head` meets its contract: the four words at their offsets.
use Rattle.dispatcher.proofs.Loads.{head_here}
use Rattle.dispatcher.proofs.numbers.load_head.Goals as goal

pub returns : goal.returns
returns c = rw (c.word.ensures, c.word-2.ensures, c.word-3.ensures) (head_here c.args.d c.dispatcher_at-at.result c.requires c.dispatcher_at-at.ensures)
