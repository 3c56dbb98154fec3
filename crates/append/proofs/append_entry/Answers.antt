-- `append::append_entry` meets its contract: the topic, the message, then the dispatchers.
use Rattle.layout.specs.Layout.{decode}
use Rattle.topic.specs.Ids.{id_of, message_of}
use Rattle.operation_laws.proofs.Frame.{valid_now, canon_of}
use Rattle.append.proofs.Appends.{slot_below, made_in, messaged_in, appended_all}
use Rattle.append.proofs.append_entry.Goals as goal

pub make_topic-requires : goal.make_topic-requires
make_topic-requires c =
    let a = c.args in
    let p = c.requires in
    let h = canon_of a.e a.store.now p.opened.spelt p.opened.E in
    (h, p.found, slot_below (decode a.store.now) a.t a.topic p.found (id_of a.message.ledger a.message.entry) p.free h.shaped.topics_fit)

pub append_message-requires : goal.append_message-requires
append_message-requires c =
    let a = c.args in
    let p = c.requires in
    made_in a.t a.topic (canon_of a.e a.store.now p.opened.spelt p.opened.E) p.found (id_of a.message.ledger a.message.entry) p.free c.make_topic.ensures

pub new_entries-requires : goal.new_entries-requires
new_entries-requires c =
    let a = c.args in
    let p = c.requires in
    messaged_in a.t a.topic (canon_of a.e a.store.now p.opened.spelt p.opened.E) p.found (id_of a.message.ledger a.message.entry) p.free c.make_topic.ensures
    (message_of a.message.ledger a.message.entry a.message.handle a.message.batch_size) c.append_message.ensures (valid_now a.store.now p.opened.spelt)

pub returns : goal.returns
returns c =
    let a = c.args in
    let p = c.requires in
    appended_all a.t a.topic (canon_of a.e a.store.now p.opened.spelt p.opened.E) p.found (id_of a.message.ledger a.message.entry) p.free c.make_topic.ensures
    (message_of a.message.ledger a.message.entry a.message.handle a.message.batch_size) c.append_message.ensures c.new_entries.ensures
