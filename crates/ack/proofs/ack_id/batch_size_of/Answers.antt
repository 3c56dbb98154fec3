-- `ack::ack_id::batch_size_of` meets its contract: a topic with an entry exists.
use mathlib.Core.Path.{sym, ap, ◌∙◌}
use mathlib.Core.List.{List}
use native.Mathlib.Omega.{arith}
use lib.ListN.{length}
use Rattle.rules.specs.State.{StoredMessage}
use Rattle.rules.specs.Ledger.{message_at}
use Rattle.layout.specs.Layout.{decode}
use Rattle.layout.proofs.Placed.{topic_in}
use Rattle.ack.proofs.Marking.{ledger_there}
use Rattle.ack.proofs.ack_id.batch_size_of.Goals as goal

pub batch_size-requires : goal.batch_size-requires
batch_size-requires c =
    let a = c.args in
    let f = ledger_there (decode a.store.now) c.find_topic-t.result a.topic a.k c.find_topic-t.ensures c.requires.1 in
    let l = ap (λ (m : List StoredMessage). length m) f.1 in
    let k = c.requires.1 in
    (topic_in c.requires.0 c.find_topic-t.result f.0, omega arith)

pub returns : goal.returns
returns c =
    let a = c.args in
    let f = ledger_there (decode a.store.now) c.find_topic-t.result a.topic a.k c.find_topic-t.ensures c.requires.1 in
    c.batch_size.ensures ∙ ap (λ (m : List StoredMessage). (message_at m a.k).batch_size) (sym f.1)
