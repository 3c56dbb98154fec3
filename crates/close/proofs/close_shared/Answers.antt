-- `close::close_shared` meets its contract: out of range, or the dispatcher is left and then the consumer goes.
use mathlib.Core.Path.{refl, sym, ◌∙◌}
use Rattle.layout.specs.Layout.{decode}
use Rattle.layout.specs.Fields.{consumer_nth, dispatcher_nth}
use Rattle.layout.proofs.Store.{canon_entries}
use Rattle.layout.proofs.Placed.{dispatcher_in}
use Rattle.rules.specs.Commands.{left_by}
use Rattle.operation_laws.proofs.Frame.{refused_with, done_with, dispatcher_found_valid}
use Rattle.consumer.proofs.Found.{live_canon, live_in, live_valid, live_slot, live_consumer}
use Rattle.dispatcher.proofs.Room.{room_for_all}
use Rattle.close.proofs.Rings.{left_fits}
use Rattle.close.proofs.Closes.{value_closed, close_over, close_shared, close_member, consumer_kept_in, closed_words, slot_of}
use Rattle.close.proofs.close_shared.Goals as goal

pub consumer_id-id-requires : goal.consumer_id-id-requires
consumer_id-id-requires c = live_in c.requires.live

pub shared_dispatcher-d-requires : goal.shared_dispatcher-d-requires
shared_dispatcher-d-requires c = c.requires

pub total_without-total-requires : goal.total_without-total-requires
total_without-total-requires c =
    let d = c.shared_dispatcher-d in
    (c.requires.live, dispatcher_in (live_canon c.requires.live) d.result d.ensures.1, d.ensures.0)

pub leave-requires : goal.leave-requires
leave-requires c =
    let a = c.args in
    let h = c.requires.live in
    let id = c.consumer_id-id.result in
    let q = c.consumer_id-id.ensures in
    let s = decode a.store.now in
    let d = c.shared_dispatcher-d.result in
    let f = c.shared_dispatcher-d.ensures.0 in
    let l = c.shared_dispatcher-d.ensures.1 in
    let g = slot_of s a.i id (live_slot h) q in
    let there_in = dispatcher_in (live_canon h) d l in
    let v = dispatcher_found_valid s d (consumer_nth s a.i).pair f (live_valid h) l in
    let m = close_member s a.i id g q (live_valid h) h.there c.requires.kind d c.total_without-total.result f l c.total_without-total.ensures (live_consumer h) in
    let r = room_for_all a.e s (dispatcher_nth s d) v there_in.lists_fit.marks_fit in
    (there_in, m, r)

pub remove_consumer-requires : goal.remove_consumer-requires
remove_consumer-requires c =
    let a = c.args in
    let h = c.requires.live in
    let id = c.consumer_id-id.result in
    let q = c.consumer_id-id.ensures in
    let s = decode a.store.now in
    let d = c.shared_dispatcher-d.result in
    let f = c.shared_dispatcher-d.ensures.0 in
    let l = c.shared_dispatcher-d.ensures.1 in
    let g = slot_of s a.i id (live_slot h) q in
    let there_in = dispatcher_in (live_canon h) d l in
    let v = dispatcher_found_valid s d (consumer_nth s a.i).pair f (live_valid h) l in
    let m = close_member s a.i id g q (live_valid h) h.there c.requires.kind d c.total_without-total.result f l c.total_without-total.ensures (live_consumer h) in
    let r = room_for_all a.e s (dispatcher_nth s d) v there_in.lists_fit.marks_fit in
    consumer_kept_in a.store.now a.i d (left_by id c.total_without-total.result (dispatcher_nth s d)) (live_canon h) (left_fits id d there_in m r c.total_without-total.result) (canon_entries (live_canon h)) c.leave.ensures h.there

pub returns-then-in_range : goal.returns-then-in_range
returns-then-in_range c =
    let a = c.args in
    let h = c.requires.live in
    let id = c.consumer_id-id.result in
    let q = c.consumer_id-id.ensures in
    let s = decode a.store.now in
    let d = c.shared_dispatcher-d.result in
    let f = c.shared_dispatcher-d.ensures.0 in
    let l = c.shared_dispatcher-d.ensures.1 in
    let g = slot_of s a.i id (live_slot h) q in
    let there_in = dispatcher_in (live_canon h) d l in
    let v = dispatcher_found_valid s d (consumer_nth s a.i).pair f (live_valid h) l in
    let m = close_member s a.i id g q (live_valid h) h.there c.requires.kind d c.total_without-total.result f l c.total_without-total.ensures (live_consumer h) in
    let r = room_for_all a.e s (dispatcher_nth s d) v there_in.lists_fit.marks_fit in
    let t = c.total_without-total.result in
    let o = sym c.in_range.ensures ∙ c.if-in_range.true in
    rw (← q) (done_with a.store.now _ h.opened.spelt 1 256
    (close_shared s a.i id g q (live_valid h) h.there c.requires.kind d t f l c.total_without-total.ensures o)
    value_closed refl
    (closed_words a.store.now a.i d (left_by id t (dispatcher_nth s d)) (live_canon h) (left_fits id d there_in m r t) (canon_entries (live_canon h)) c.leave.ensures c.remove_consumer.ensures))

pub returns : goal.returns
returns c =
    let a = c.args in
    let h = c.requires.live in
    let id = c.consumer_id-id.result in
    let q = c.consumer_id-id.ensures in
    let s = decode a.store.now in
    let o = sym c.in_range.ensures ∙ c.if-in_range.false in
    rw (← q) (refused_with a.store.now _ h.opened.spelt
    (close_over s a.i id (slot_of s a.i id (live_slot h) q) q (live_valid h) h.there c.requires.kind c.shared_dispatcher-d.result c.total_without-total.result c.shared_dispatcher-d.ensures.0 c.shared_dispatcher-d.ensures.1 c.total_without-total.ensures o))
