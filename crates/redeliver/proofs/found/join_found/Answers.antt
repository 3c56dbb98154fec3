-- `redeliver::found::join_found` meets its contract: the groups join one by one, by the ledger of the topic's slot.
use Rattle.layout.specs.Layout.{decode}
use Rattle.layout.specs.Fields.{consumer_nth}
use Rattle.groups.specs.Lent.{group_of, groups_in}
use Rattle.redeliver.proofs.Finds.{found_in_none, sought_here, sought_nowhere}
use Rattle.redeliver.proofs.Joins.{joined_nothing, joining_start, joining_in, joining_slot, joining_room, joining_turn, joining_end}
use Rattle.redeliver.proofs.found.join_found.Goals as goal

pub returns-in_default : goal.returns-in_default
returns-in_default c =
    let s = decode c.args.store.now in
    rw (sought_nowhere s c.topic.ensures c.in_default.ensures, found_in_none (groups_in c.args.groups)) (joined_nothing c.args.i c.requires.0)

pub loop-group-init : goal.loop-group-init
loop-group-init c =
    rw c.into_iter-group-iterator.ensures.into_iter_gives (joining_start c.args.i _ (groups_in c.args.groups) c.requires.0)

pub join_here-requires : goal.join_here-requires
join_here-requires c =
    let a = c.args in
    let s = decode a.store.now in
    let t = (consumer_nth s a.i).pair.topic in
    let p = c.requires in
    let j = c.loop-group.invariant in
    let q = joining_slot a.i t (groups_in a.groups) _ p.0 j p.1 c.in-Some.t (sought_here s c.topic.ensures c.in-Some.ensures) in (
      joining_in a.i t (groups_in a.groups) _ p.0 j p.1,
      q.0,
      rw (← q.1) (joining_room a.i t (groups_in a.groups) _ p.0 j p.1 (group_of c.in-Some-group.group) _ c.in-Some-group.ensures.steps),
    )

pub loop-group-preserved : goal.loop-group-preserved
loop-group-preserved c =
    let a = c.args in
    let s = decode a.store.now in
    let t = (consumer_nth s a.i).pair.topic in
    let p = c.requires in
    let j = c.loop-group.invariant in
    let q = joining_slot a.i t (groups_in a.groups) _ p.0 j p.1 c.in-Some.t (sought_here s c.topic.ensures c.in-Some.ensures) in
    joining_turn a.i t (groups_in a.groups) _ p.0 j p.1 (group_of c.in-Some-group.group) _ c.in-Some-group.ensures.steps
    (rw (← q.1) at c.join_here.ensures)

pub returns : goal.returns
returns c =
    let a = c.args in
    let t = (consumer_nth (decode a.store.now) a.i).pair.topic in
    let p = c.requires in
    joining_end a.i t (groups_in a.groups) _ p.0 c.loop-group.invariant p.1 c.in-None.ensures.steps.0
