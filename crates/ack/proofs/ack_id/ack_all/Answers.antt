-- `ack::ack_id::ack_all` meets its contract: the groups are acknowledged one by one.
use Rattle.groups.specs.Lent.{groups_in, group_of}
use Rattle.ack.proofs.Turns.{acking_start, acking_in, acking_room, acking_turn, acking_end}
use Rattle.ack.proofs.ack_id.ack_all.Goals as goal

pub loop-group-init : goal.loop-group-init
loop-group-init c =
    rw c.into_iter-group-iterator.ensures.into_iter_gives (acking_start c.args.d c.args.topic (groups_in c.args.groups) c.requires.0.within)

pub ack_here-requires : goal.ack_here-requires
ack_here-requires c =
    let a = c.args in
    let p = c.requires in
    let j = c.loop-group.invariant in (
      acking_in a.d a.topic (groups_in a.groups) _ p.0 j p.1,
      acking_room a.d a.topic (groups_in a.groups) _ p.0 j p.1 (group_of c.in-Some.group) _ c.in-Some.ensures.steps,
    )

pub loop-group-preserved : goal.loop-group-preserved
loop-group-preserved c =
    let a = c.args in
    let p = c.requires in
    acking_turn a.d a.topic (groups_in a.groups) _ p.0 c.loop-group.invariant p.1 (group_of c.in-Some.group) _ c.in-Some.ensures.steps c.ack_here.ensures

pub returns : goal.returns
returns c =
    let a = c.args in
    let p = c.requires in
    acking_end a.d a.topic (groups_in a.groups) _ p.0 c.loop-group.invariant p.1 c.in-None.ensures.steps.0
