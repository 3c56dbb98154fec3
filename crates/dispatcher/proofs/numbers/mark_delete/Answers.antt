-- `dispatcher::numbers::mark_delete` meets its contract: the word at its offset.
use mathlib.Core.Path.{◌∙◌}
use Rattle.layout.proofs.GetsDispatcher.{read_mark_delete}
use Rattle.dispatcher.proofs.numbers.mark_delete.Goals as goal

pub returns : goal.returns
returns c = c.word.ensures ∙ rw c.dispatcher_at-at.ensures (read_mark_delete c.requires.canon c.args.d c.requires.there)
