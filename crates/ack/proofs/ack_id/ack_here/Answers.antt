-- `ack::ack_id::ack_here` meets its contract: the id is in the ledger, or not.
use mathlib.Core.Path.{ap, refl, ◌∙◌}
use Rattle.rules.specs.State.{Dispatcher, ledger_of}
use Rattle.layout.specs.Layout.{decode, put}
use Rattle.layout.specs.Fields.{dispatcher_nth, set_dispatcher}
use Rattle.groups.specs.Lent.{group_of}
use Rattle.topic.proofs.Positions.{position_found, position_missing}
use Rattle.ack.proofs.Marking.{ack_there, ack_missing, ack_room}
use Rattle.ack.proofs.ack_id.ack_here.Goals as goal

pub ack_entry-requires : goal.ack_entry-requires
ack_entry-requires c =
    let a = c.args in
    (c.requires.0, (position_found (group_of a.group).id (ledger_of (decode a.store.now) a.topic) c.in-Some.ensures).1)

pub ack_outside-requires : goal.ack_outside-requires
ack_outside-requires c =
    let a = c.args in
    let p = c.requires in
    let ledger = ledger_of (decode a.store.now) a.topic in
    rw c.id.ensures (p.0.within, ack_room ledger (dispatcher_nth (decode a.store.now) a.d) (group_of a.group).id (group_of a.group).words _ refl (position_missing (group_of a.group).id ledger c.in_default.ensures) p.1)

pub returns-in-Some : goal.returns-in-Some
returns-in-Some c =
    let a = c.args in
    let s = decode a.store.now in
    let ledger = ledger_of s a.topic in
    let f = position_found (group_of a.group).id ledger c.in-Some.ensures in
    let m = ack_there ledger (dispatcher_nth s a.d) (group_of a.group).id (group_of a.group).words c.in-Some.k f.0 f.1 in
    c.ack_entry.ensures ∙ ap (λ (x : Dispatcher). put a.store.now (set_dispatcher s a.d x)) m

pub returns-in_default : goal.returns-in_default
returns-in_default c =
    let a = c.args in
    let s = decode a.store.now in
    let ledger = ledger_of s a.topic in
    let m = ack_missing ledger (dispatcher_nth s a.d) (group_of a.group).id (group_of a.group).words _ refl (position_missing (group_of a.group).id ledger c.in_default.ensures) in
    (rw c.id.ensures at c.ack_outside.ensures) ∙ ap (λ (x : Dispatcher). put a.store.now (set_dispatcher s a.d x)) m
