-- `topic::table::message_count` meets its contract: the size of a list.
use mathlib.Core.Path.{ap, ◌∙◌}
use Rattle.store.specs.declared.counted.Counted.{Counted}
use Rattle.store.specs.Counted.{size}
use Rattle.topic.proofs.Lists.{message_inside, message_size}
use Rattle.topic.proofs.table.message_count.Goals as goal

pub count-requires : goal.count-requires
count-requires c = rw c.message_list.ensures (message_inside c.args.t c.requires)

pub returns : goal.returns
returns c = c.count.ensures ∙ ap (λ (l : Counted). size l c.args.store.now) c.message_list.ensures ∙ message_size c.args.t c.requires
