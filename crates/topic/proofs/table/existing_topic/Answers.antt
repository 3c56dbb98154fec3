-- `topic::table::existing_topic` meets its contract: the topics are looked at one by one.
use Rattle.rules.specs.State.{by_number}
use Rattle.layout.specs.Layout.{decode}
use Rattle.layout.specs.Fields.{zero_topic}
use Rattle.layout.proofs.Placed.{topic_in}
use native.Mathlib.Omega.{arith}
use Rattle.store.proofs.Founds.{first_found}
use borrow.Author.Rules.{rules}
use Rattle.topic.proofs.table.existing_topic.Goals as goal

pub first_row-requires : goal.first_row-requires
first_row-requires c = λ i l. let n = c.topic_count.ensures in let t = topic_in c.requires i (omega arith) in search rules

pub returns : goal.returns
returns c =
    first_found by_number c.args.topic (decode c.args.store.now).topics zero_topic _ c.first_row.ensures c.topic_count.ensures (λ k b h p. search rules)
