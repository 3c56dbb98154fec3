-- `dispatcher::queue::queued` meets its contract: the word at its offset.
use mathlib.Core.Path.{◌∙◌}
use Rattle.dispatcher.proofs.Places.{queue_here}
use Rattle.dispatcher.proofs.queue.queued.Goals as goal

pub returns : goal.returns
returns c = c.word.ensures ∙ queue_here c.args.d c.dispatcher_at-at.result c.requires.0 c.dispatcher_at-at.ensures c.args.j c.requires.1
