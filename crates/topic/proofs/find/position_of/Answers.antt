-- `topic::find::position_of` meets its contract: the messages are looked at one by one.
use Rattle.rules.specs.State.{same_id}
use Rattle.rules.specs.Ledger.{no_message, message_at}
use Rattle.layout.specs.Layout.{decode}
use Rattle.layout.specs.Fields.{topic_nth}
use Rattle.store.proofs.Founds.{first_found}
use Rattle.topic.specs.Ids.{by_message_id}
use borrow.Author.Rules.{rules}
use Rattle.topic.proofs.find.position_of.Goals as goal

pub returns : goal.returns
unfolding message_at same_id
returns c =
    first_found by_message_id c.args.id (topic_nth (decode c.args.store.now) c.args.t).messages no_message _ c.first_row.ensures c.message_count.ensures
    (λ k b h p. search rules)
