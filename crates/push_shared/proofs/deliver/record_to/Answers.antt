-- `push_shared::deliver::record_to` meets its contract: the message and the mark that it reads are those of the step's entry.
use mathlib.Core.Path.{refl}
use Rattle.push_turn.proofs.Prices.{topic_there, entry_there}
use Rattle.push_shared.proofs.Records.{batch_read, record_read}
use Rattle.push_shared.proofs.deliver.record_to.Goals as goal

pub load_message-message-requires : goal.load_message-message-requires
load_message-message-requires c =
    let h = c.requires.0 in
    (topic_there h c.args.step.position c.requires.1, entry_there h c.args.step.position c.requires.1)

pub ack_set_words-words-requires : goal.ack_set_words-words-requires
ack_set_words-words-requires c =
    let m = c.load_message-message in
    batch_read c.requires.0 c.args.step.position c.requires.1 m.result m.ensures

pub returns : goal.returns
returns c =
    let m = c.load_message-message in
    record_read c.requires.0 c.args.step.position c.requires.1 m.result m.ensures
    c.args.id c.ack_set_words-words.result c.signed.result c.load_mark-mark.result c.args.step refl
    c.load_mark-mark.ensures c.ack_set_words-words.ensures c.signed.ensures
