-- `push_shared::push_pending_shared` meets its contract: each dispatcher is served where it is as it was.
use Prim.Native.Nat.{◌+◌, ◌≤◌, ◌<◌}
use native.Mathlib.Omega.{arith}
use lib.ListN.{length}
use Rattle.layout.specs.Layout.{decode}
use Rattle.operation_laws.proofs.Frame.{canon_of}
use Rattle.record.proofs.Filled.{filled_rest}
use Rattle.push_shared.proofs.Sharing.{sharing_start, ready_next, permits_now, room_whole, room_next, sharing_on}
use Rattle.push_shared.proofs.Sharing.{words_end, permits_end, records_end, count_end, fits_end}
use borrow.Author.Rules.{rules}
use Rattle.push_shared.proofs.push_pending_shared.Goals as goal

pub dispatcher_count-n-requires : goal.dispatcher_count-n-requires
dispatcher_count-n-requires c = canon_of c.args.e c.args.store.now c.requires.0 c.requires.1

pub loop-d-init : goal.loop-d-init
loop-d-init c =
    let p = c.requires in
    sharing_start c.args.store.now p.0 p.1 c.args.permits.now c.args.list.now p.2

pub serve_dispatcher-made-requires : goal.serve_dispatcher-made-requires
serve_dispatcher-made-requires c =
    let here : c.loop-d.d < length (decode c.args.store.now).dispatchers = rw (← c.dispatcher_count-n.ensures) c.loop-d-test.true in
    let p = c.requires in
    let w = c.loop-d.invariant in
    let ws = c.args.store.now in
    (ready_next ws p.0 p.1 w here, permits_now ws p.0 p.1 w, room_next ws p.0 p.1 w here p.3)

pub overflow_add-made : goal.overflow_add-made
overflow_add-made c =
    let here : c.loop-d.d < length (decode c.args.store.now).dispatchers = rw (← c.dispatcher_count-n.ensures) c.loop-d-test.true in
    let p = c.requires in
    let room = room_whole c.args.store.now p.0 p.1 c.loop-d.invariant here p.3 in
    let made = c.serve_dispatcher-made.ensures.value in
    let long = c.loop-d.auto.list in
    let within : c.loop-d.made + c.serve_dispatcher-made.result ≤ length c.args.list.now = omega (arith, room, made, long) in
    search rules

pub loop-d-preserved : goal.loop-d-preserved
loop-d-preserved c =
    let here : c.loop-d.d < length (decode c.args.store.now).dispatchers = rw (← c.dispatcher_count-n.ensures) c.loop-d-test.true in
    let p = c.requires in
    let w = c.loop-d.invariant in
    let ws = c.args.store.now in
    let r = c.serve_dispatcher-made.ensures in
    let room = room_whole ws p.0 p.1 w here p.3 in
    let records = filled_rest c.loop-d.made c.loop-d.list _ (omega (arith, room)) r.records in
    sharing_on ws p.0 p.1 w here c.serve_dispatcher-made.result r.words r.permits records r.value r.fits

pub returns : goal.returns
returns c =
    let p = c.requires in
    let w = c.loop-d.invariant in
    let ws = c.args.store.now in
    let l : length (decode ws).dispatchers ≤ c.loop-d.d = rw (← c.dispatcher_count-n.ensures) c.loop-d-test.false in
    record {
      value = count_end ws p.0 p.1 w l;
      words = words_end ws p.0 p.1 w l;
      permits = permits_end ws p.0 p.1 w l;
      records = records_end ws p.0 p.1 w l;
      fits = fits_end ws p.0 p.1 w l;
    }
