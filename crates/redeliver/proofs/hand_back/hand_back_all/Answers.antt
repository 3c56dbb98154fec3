-- `redeliver::hand_back::hand_back_all` meets its contract: the ids are handed back one by one, by the ledger of the topic's slot.
use mathlib.Core.Path.{refl}
use Rattle.layout.specs.Layout.{decode}
use Rattle.layout.specs.Fields.{dispatcher_nth}
use Rattle.groups.specs.Lent.{group_of, groups_in}
use Rattle.redeliver.proofs.Finds.{sought_here, sought_nowhere}
use Rattle.redeliver.proofs.Handing.{stays, handed_nowhere, handing_start, handing_slot, handing_turn, handing_end}
use Rattle.redeliver.proofs.hand_back.hand_back_all.Goals as goal

pub returns-in_default : goal.returns-in_default
returns-in_default c =
    let a = c.args in
    let p = c.requires in
    let s = decode a.store.now in
    let x = dispatcher_nth s a.d in
    stays a.d _ p.0 (handed_nowhere s a.id x.pair.topic x (groups_in a.groups) p.1 refl (sought_nowhere s c.topic.ensures c.in_default.ensures))

pub loop-group-init : goal.loop-group-init
loop-group-init c =
    let a = c.args in
    let p = c.requires in
    rw c.into_iter-group-iterator.ensures.into_iter_gives (handing_start a.d _ a.id (groups_in a.groups) p.0 p.1 refl)

pub hand_back-requires : goal.hand_back-requires
hand_back-requires c =
    let a = c.args in
    let j = c.loop-group.invariant in
    let f = sought_here (decode a.store.now) c.topic.ensures c.in-Some.ensures in
    let q = handing_slot a.d _ a.id (groups_in a.groups) c.requires.0 _ j c.in-Some.t f in
    (j.here, j.good, q.0, q.1)

pub loop-group-preserved : goal.loop-group-preserved
loop-group-preserved c =
    let a = c.args in
    let j = c.loop-group.invariant in
    handing_turn a.d _ a.id (groups_in a.groups) c.requires.0 _ j (group_of c.in-Some-group.group) (rw j.of_topic at c.hand_back.ensures) _ c.in-Some-group.ensures.steps

pub returns : goal.returns
returns c =
    let a = c.args in
    handing_end a.d _ a.id (groups_in a.groups) c.requires.0 _ c.loop-group.invariant c.in-None.ensures.steps.0
