-- `push_turn::ring::slot_of` meets its contract: the consumer is live, or its slot is past the last.
use mathlib.Core.Path.{◌∙◌}
use Rattle.rules.specs.State.{by_id}
use Rattle.layout.specs.Layout.{decode}
use Rattle.store.proofs.Founds.{found_or_count}
use Rattle.push_turn.proofs.ring.slot_of.Goals as goal

pub returns : goal.returns
returns c =
    let l = (decode c.args.store.now).consumers in
    c.unwrap_or.ensures ∙ found_or_count by_id c.args.id l c.find_consumer.ensures.slot c.consumer_count.ensures
