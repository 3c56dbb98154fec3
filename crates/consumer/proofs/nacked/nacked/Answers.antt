-- `consumer::nacked::nacked` meets its contract: the word at its offset.
use mathlib.Core.Path.{◌∙◌}
use Rattle.layout.proofs.Gets.{read_nacked}
use Rattle.consumer.proofs.nacked.nacked.Goals as goal

pub returns : goal.returns
returns c = c.word.ensures ∙ rw c.consumer_at-at.ensures (read_nacked c.requires.0.canon c.args.i c.requires.0.there c.args.j c.requires.1)
