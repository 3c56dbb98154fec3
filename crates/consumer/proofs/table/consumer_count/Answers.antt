-- `consumer::table::consumer_count` meets its contract: the size of a list.
use mathlib.Core.Path.{◌∙◌}
use Rattle.consumer.proofs.Lists.{consumer_inside, consumer_size}
use Rattle.consumer.proofs.table.consumer_count.Goals as goal

pub count-requires : goal.count-requires
count-requires c = consumer_inside c.requires

pub returns : goal.returns
returns c = c.count.ensures ∙ consumer_size c.requires
