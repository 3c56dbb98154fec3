-- `close::total_without` meets its contract: the two numbers and the switch are read.
use native.Mathlib.Omega.{arith}
use Rattle.layout.specs.Layout.{decode}
use Rattle.layout.specs.Fields.{consumer_nth}
use Rattle.operation_laws.proofs.Frame.{dispatcher_found_valid}
use Rattle.consumer.proofs.Found.{live_canon, live_in, live_valid, live_consumer}
use Rattle.close.proofs.Closes.{total_left}
use Rattle.close.proofs.total_without.Goals as goal

pub total_available_permits-total-requires : goal.total_available_permits-total-requires
total_available_permits-total-requires c = c.requires.1

pub permits-p-requires : goal.permits-p-requires
permits-p-requires c = live_in c.requires.0

pub bounds-store-2 : goal.bounds-store-2
bounds-store-2 c = let l = (live_canon c.requires.0).long in omega arith

pub total_after-requires : goal.total_after-requires
total_after-requires c =
    let h = c.requires.0 in
    let s = decode c.args.store.now in
    let v = dispatcher_found_valid s c.args.d (consumer_nth s c.args.i).pair c.requires.2 (live_valid h) c.requires.1.there in
    let w = live_consumer h in
    let t = c.total_available_permits-total.ensures in
    let p = c.permits-p.ensures in
    let a = v.total_from in
    let b = v.total_to in
    let x = w.permits_from in
    let y = w.permits_to in
    (omega (arith, t, a), omega (arith, t, b), omega (arith, p, x), omega (arith, p, y))

pub returns : goal.returns
returns c = total_left c.args.store.now c.total_after.result c.total_available_permits-total.result c.permits-p.result (live_canon c.requires.0) c.total_available_permits-total.ensures c.permits-p.ensures c.total_after.ensures
