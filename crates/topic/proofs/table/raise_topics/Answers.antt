-- `topic::table::raise_topics` meets its contract: what is done to a list.
use mathlib.Core.Path.{ap, ◌∙◌}
use native.Mathlib.Omega.{arith}
use Rattle.store.specs.declared.counted.Counted.{Counted}
use Rattle.store.specs.Counted.{one_more}
use Rattle.topic.proofs.Lists.{topic_inside, topic_size, topic_more}
use Rattle.topic.proofs.table.raise_topics.Goals as goal

pub raise-requires : goal.raise-requires
raise-requires c =
    let n = topic_size c.requires.0 in
    let l = c.requires.1 in
    let g = c.requires.0.long in
    rw c.topic_list.ensures (topic_inside c.requires.0, omega arith)

pub returns : goal.returns
returns c = c.raise.ensures ∙ ap (λ (l : Counted). one_more l c.args.store.now) c.topic_list.ensures ∙ topic_more c.requires.0 c.requires.1
