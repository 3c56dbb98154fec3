-- `topic::table::ledger_length` meets its contract: the count of the topic's slot, or 0 where there is none.
use Rattle.std.proofs.Common.{◌∙◌, sym, ap, length, List}
use Rattle.rules.specs.State.{StoredMessage, by_number}
use Rattle.layout.specs.Layout.{decode}
use Rattle.layout.proofs.Placed.{topic_in}
use Rattle.store.proofs.Founds.{found_some, found_none}
use Rattle.topic.proofs.Ledgers.{ledger_here, ledger_none}
use Rattle.topic.proofs.table.ledger_length.Goals as goal

pub returns-in_default : goal.returns-in_default
returns-in_default c =
    let s = decode c.args.store.now in
    ap (λ (l : List StoredMessage). length l) (sym (ledger_none s c.args.topic (found_none by_number c.args.topic s.topics c.in_default.ensures)))

pub message_count-requires : goal.message_count-requires
message_count-requires c = topic_in c.requires c.in-Some.t (found_some by_number c.args.topic (decode c.args.store.now).topics c.in-Some.ensures).1

pub returns : goal.returns
returns c =
    let s = decode c.args.store.now in
    let f = found_some by_number c.args.topic s.topics c.in-Some.ensures in
    c.message_count.ensures ∙ ap (λ (l : List StoredMessage). length l) (sym (ledger_here s c.args.topic c.in-Some.t f.0 f.1))
