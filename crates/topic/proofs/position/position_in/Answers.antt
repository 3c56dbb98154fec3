-- `topic::position::position_in` meets its contract: the topic exists, or its ledger is empty.
use Rattle.std.proofs.Common.{sym, ◌∙◌, arith, List, []}
use mathlib.Core.Path.{ap₂}
use Rattle.rules.specs.State.{Id, StoredMessage, by_number}
use Rattle.layout.specs.Layout.{decode}
use Rattle.layout.proofs.Placed.{topic_in}
use Rattle.groups.specs.Lent.{group_of}
use Rattle.store.specs.Found.{found}
use Rattle.store.proofs.Founds.{found_some, found_none, none_found}
use Rattle.topic.specs.Ids.{by_message_id}
use Rattle.topic.proofs.Ledgers.{ledger_here, ledger_none}
use Rattle.topic.proofs.position.position_in.Goals as goal

pub returns-in_err-t : goal.returns-in_err-t
returns-in_err-t c =
    let s = decode c.args.store.now in
    let l = ledger_none s c.args.topic (found_none by_number c.args.topic s.topics c.in_err-t.ensures) in
    rw (c.from_residual.ensures, l) (none_found by_message_id (group_of c.args.group).id [] (omega arith))

pub position_of-requires : goal.position_of-requires
position_of-requires c =
    let s = decode c.args.store.now in
    topic_in c.requires c.in_ok-t.t (found_some by_number c.args.topic s.topics c.in_ok-t.ensures).1

pub returns : goal.returns
returns c =
    let s = decode c.args.store.now in
    let f = found_some by_number c.args.topic s.topics c.in_ok-t.ensures in
    c.position_of.ensures
    ∙ ap₂ (λ (i : Id) (l : List StoredMessage). found by_message_id i l) c.id.ensures (sym (ledger_here s c.args.topic c.in_ok-t.t f.0 f.1))
