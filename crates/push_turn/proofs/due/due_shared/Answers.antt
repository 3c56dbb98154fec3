-- `push_turn::due::due_shared` meets its contract: each dispatcher is counted by the permits that those before it left.
use Prim.Native.Nat.{◌≤◌, ◌<◌}
use native.Mathlib.Omega.{arith}
use lib.ListN.{length}
use Rattle.layout.specs.Layout.{decode}
use Rattle.operation_laws.proofs.Frame.{canon_of}
use Rattle.push_turn.proofs.Served.{served_small}
use Rattle.push_turn.proofs.Totals.{carried_start, carried_on, carried_end}
use Rattle.push_turn.proofs.due.due_shared.Goals as goal

pub dispatcher_count-n-requires : goal.dispatcher_count-n-requires
dispatcher_count-n-requires c = canon_of c.args.e c.args.store.now c.requires.0 c.requires.1

pub loop-d-init : goal.loop-d-init
loop-d-init c = carried_start (decode c.args.store.now) c.args.permits.now

pub due_of-count-requires : goal.due_of-count-requires
due_of-count-requires c = (c.requires.0, c.requires.1, rw (← c.dispatcher_count-n.ensures) c.loop-d-test.true)

pub overflow_add-count : goal.overflow_add-count
overflow_add-count c =
    let here : c.loop-d.d < length (decode c.args.store.now).dispatchers = rw (← c.dispatcher_count-n.ensures) c.loop-d-test.true in
    let few = c.loop-d.invariant.few in
    let counted = c.due_of-count.ensures.count in
    let small = served_small c.args.store.now c.loop-d.d c.requires.0 here c.args.e c.requires.1 c.loop-d.permits in
    let most = (canon_of c.args.e c.args.store.now c.requires.0 c.requires.1).shaped.dispatchers_fit in
    omega arith

pub loop-d-preserved : goal.loop-d-preserved
loop-d-preserved c =
    let a = c.args in
    let d = c.loop-d.d in
    let here : d < length (decode a.store.now).dispatchers = rw (← c.dispatcher_count-n.ensures) c.loop-d-test.true in
    let small : c.due_of-count.result ≤ 8193 =
    rw c.due_of-count.ensures.count (served_small a.store.now d c.requires.0 here a.e c.requires.1 c.loop-d.permits) in
    carried_on (decode a.store.now) a.permits.now c.loop-d.permits d c.loop-d.count c.loop-d.invariant
    c.due_of-count.new.permits c.due_of-count.result here c.due_of-count.ensures.count c.due_of-count.ensures.permits small

pub returns : goal.returns
returns c =
    let a = c.args in
    let all : length (decode a.store.now).dispatchers ≤ c.loop-d.d = rw (← c.dispatcher_count-n.ensures) c.loop-d-test.false in
    let e = carried_end (decode a.store.now) a.permits.now c.loop-d.permits c.loop-d.d c.loop-d.count c.loop-d.invariant all in
    record { count = e.0; permits = e.1 }
