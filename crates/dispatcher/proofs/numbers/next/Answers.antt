-- `dispatcher::numbers::next` meets its contract: the word at its offset.
use mathlib.Core.Path.{◌∙◌}
use Rattle.layout.proofs.GetsDispatcher.{read_next}
use Rattle.dispatcher.proofs.numbers.next.Goals as goal

pub returns : goal.returns
returns c = c.word.ensures ∙ rw c.dispatcher_at-at.ensures (read_next c.requires.canon c.args.d c.requires.there)
