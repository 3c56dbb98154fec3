-- `dispatcher::outside::outside_id` meets its contract: the words at an offset are those of the outside id.
use mathlib.Core.Path.{◌∙◌}
use Rattle.dispatcher.proofs.Gaps.{outside_here}
use Rattle.dispatcher.proofs.outside.outside_id.Goals as goal

pub returns : goal.returns
returns c = c.id_at.ensures ∙ outside_here c.args.d c.dispatcher_at-at.result c.requires.0 c.dispatcher_at-at.ensures c.args.j c.requires.1
