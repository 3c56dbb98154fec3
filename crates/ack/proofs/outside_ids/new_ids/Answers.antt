-- `ack::outside_ids::new_ids` meets its contract: the groups are counted one by one.
use Rattle.std.proofs.Common.{◌≡◌, suc, length, ap, arith}
use Rattle.groups.specs.Lent.{groups_in}
use Rattle.groups.proofs.Lists.{groups_few}
use Rattle.rules.specs.State.{ledger_of}
use Rattle.layout.specs.Layout.{decode}
use Rattle.layout.specs.Fields.{dispatcher_nth}
use Rattle.ack.proofs.Counts.{count_few, count_first, count_nothing}
use Rattle.ack.proofs.outside_ids.new_ids.Goals as goal

pub overflow_add-count : goal.overflow_add-count
overflow_add-count c =
    let a = c.args in
    let s = count_first _ _ _ c.in-Some.ensures.steps (ledger_of (decode a.store.now) a.topic) (dispatcher_nth (decode a.store.now) a.d).outside in
    let w = c.loop-group.invariant in
    let f = count_few (ledger_of (decode a.store.now) a.topic) (dispatcher_nth (decode a.store.now) a.d).outside (groups_in a.groups) in
    let m = groups_few a.groups in
    let r = c.new_here-count.ensures in
    omega arith

pub loop-group-smaller : goal.loop-group-smaller
loop-group-smaller c =
    let e : length (groups_in c.loop-group.left) ≡ suc (length (groups_in c.next.new.self)) = ap length c.in-Some.ensures.steps in omega arith

pub loop-group-preserved : goal.loop-group-preserved
loop-group-preserved c =
    let a = c.args in
    let s = count_first _ _ _ c.in-Some.ensures.steps (ledger_of (decode a.store.now) a.topic) (dispatcher_nth (decode a.store.now) a.d).outside in
    let w = c.loop-group.invariant in
    let r = c.new_here-count.ensures in
    omega arith

pub returns : goal.returns
returns c =
    let a = c.args in
    let w = c.loop-group.invariant in
    let n = count_nothing _ (ledger_of (decode a.store.now) a.topic) (dispatcher_nth (decode a.store.now) a.d).outside c.in_default.ensures.steps.0 in
    omega arith
