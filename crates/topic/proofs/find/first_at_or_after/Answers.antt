-- `topic::find::first_at_or_after` meets its contract: the messages are looked at one by one.
use Rattle.std.proofs.Common.{sym, ◌∙◌}
use Rattle.rules.specs.Ledger.{no_message, message_at}
use Rattle.layout.specs.Layout.{decode}
use Rattle.layout.specs.Fields.{topic_nth}
use Rattle.message_id.proofs.Orders.{upto_is}
use Rattle.store.proofs.Founds.{first_found, found_or_count}
use Rattle.topic.proofs.Positions.{by_later_id, seek_slot}
use borrow.Author.Rules.{rules}
use Rattle.topic.proofs.find.first_at_or_after.Goals as goal

pub returns : goal.returns
unfolding message_at
returns c =
    let i = c.args.id in
    let l = (topic_nth (decode c.args.store.now) c.args.t).messages in
    c.unwrap_or.ensures
    ∙ found_or_count by_later_id i l (first_found by_later_id i l no_message _ c.first_row.ensures c.message_count-n.ensures (λ k b h p. search (rules, upto_is))) c.message_count-n.ensures
    ∙ sym (seek_slot i l)
