-- `topic::table::topic_count` meets its contract: the size of a list.
use mathlib.Core.Path.{ap, ◌∙◌}
use Rattle.store.specs.declared.counted.Counted.{Counted}
use Rattle.store.specs.Counted.{size}
use Rattle.topic.proofs.Lists.{topic_inside, topic_size}
use Rattle.topic.proofs.table.topic_count.Goals as goal

pub count-requires : goal.count-requires
count-requires c = rw c.topic_list.ensures (topic_inside c.requires)

pub returns : goal.returns
returns c = c.count.ensures ∙ ap (λ (l : Counted). size l c.args.store.now) c.topic_list.ensures ∙ topic_size c.requires
