-- `topic::table::find_topic` meets its contract: the slot that was found, or the number of topics.
use Rattle.std.proofs.Common.{◌∙◌}
use Rattle.rules.specs.State.{by_number}
use Rattle.layout.specs.Layout.{decode}
use Rattle.store.proofs.Founds.{found_or_count}
use Rattle.topic.proofs.table.find_topic.Goals as goal

pub returns : goal.returns
returns c = c.unwrap_or.ensures ∙ found_or_count by_number c.args.topic (decode c.args.store.now).topics c.existing_topic.ensures c.topic_count.ensures
