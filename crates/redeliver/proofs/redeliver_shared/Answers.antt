-- `redeliver::redeliver_shared` meets its contract: what it holds of the list is handed back.
use Rattle.layout.specs.Layout.{decode}
use Rattle.layout.proofs.Placed.{dispatcher_in}
use Rattle.groups.specs.Lent.{groups_in}
use Rattle.groups.proofs.Lists.{groups_read}
use Rattle.operation_laws.proofs.Frame.{done_with_nothing, dispatcher_found_valid, dispatcher_found_pair}
use Rattle.consumer.proofs.Found.{live_canon, live_in, live_valid, live_slot}
use Rattle.redeliver.proofs.Shared.{shared_hands}
use Rattle.redeliver.proofs.redeliver_shared.Goals as goal

pub shared_dispatcher-d-requires : goal.shared_dispatcher-d-requires
shared_dispatcher-d-requires c = c.requires

pub consumer_id-id-requires : goal.consumer_id-id-requires
consumer_id-id-requires c = live_in c.requires.live

pub hand_back_all-requires : goal.hand_back_all-requires
hand_back_all-requires c =
    let h = c.requires.live in
    let d = c.shared_dispatcher-d in
    let g = d.ensures.1 in
    (dispatcher_in (live_canon h) d.result g, dispatcher_found_valid (decode c.args.store.now) d.result _ d.ensures.0 (live_valid h) g)

pub returns : goal.returns
returns c =
    let a = c.args in
    let h = c.requires.live in
    let s = decode a.store.now in
    let d = c.shared_dispatcher-d in
    let g = d.ensures.1 in
    let p = dispatcher_found_pair s d.result _ d.ensures.0 g in
    done_with_nothing a.store.now _ h.opened.spelt
    (shared_hands s a.i _ a.groups.list.now (live_slot h) (live_valid h) h.there (groups_in a.groups) (groups_read a.groups) c.requires.kind d.result d.ensures.0 g)
    (rw (← c.consumer_id-id.ensures, ← p) c.hand_back_all.ensures)
