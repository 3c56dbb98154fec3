-- `flow::flow_shared` meets its contract: over the limit, or the consumer and then the dispatcher written.
use mathlib.Core.Path.{refl, sym, ap}
use Prim.Native.Nat.{ℕ, ◌+◌}
use native.Mathlib.Omega.{arith}
use Rattle.layout.specs.Layout.{decode}
use Rattle.layout.specs.Fields.{consumer_nth}
use Rattle.rules.specs.State.{Dispatcher}
use Rattle.layout.proofs.Placed.{dispatcher_in, shaped_permits}
use Rattle.rules.specs.Dispatcher.{with_total}
use Rattle.rules.specs.Commands.{with_permits}
use Rattle.operation_laws.proofs.Frame.{refused_with, done_with, value_permits, dispatcher_found_valid, dispatcher_still_in, consumer_then_dispatcher}
use Rattle.consumer.proofs.Found.{live_canon, live_in, live_valid, live_slot}
use Rattle.flow.proofs.Grants.{flow_total_over, flow_shared}
use Rattle.flow.proofs.flow_shared.Goals as goal

pub shared_dispatcher-d-requires : goal.shared_dispatcher-d-requires
shared_dispatcher-d-requires c = c.requires.0

pub total_available_permits-requires : goal.total_available_permits-requires
total_available_permits-requires c =
    let d = c.shared_dispatcher-d in
    dispatcher_in (live_canon c.requires.0.live) d.result d.ensures.1

pub overflow_add-total : goal.overflow_add-total
overflow_add-total c =
    let h = c.requires.0.live in
    let d = c.shared_dispatcher-d in
    let l = d.ensures.1 in
    let m = (dispatcher_found_valid (decode c.args.store.now) d.result _ d.ensures.0 (live_valid h) l).total_to in
    let t = c.total_available_permits.ensures in
    let g = c.requires.1 in
    omega arith

pub returns-then-total-gt-MOST_TOTAL : goal.returns-then-total-gt-MOST_TOTAL
returns-then-total-gt-MOST_TOTAL c =
    let a = c.args in
    let p = c.requires in
    let h = p.0.live in
    let d = c.shared_dispatcher-d in
    let t = c.total_available_permits in
    refused_with a.store.now _ h.opened.spelt
    (flow_total_over (decode a.store.now) a.i _ a.grant (live_slot h) refl (live_valid h) h.there a.granted p.2 p.3 p.0.kind
    d.result (t.result + a.grant) d.ensures.0 d.ensures.1 (ap (λ (n : ℕ). n + a.grant) t.ensures) c.if-total-gt-MOST_TOTAL.true)

pub set_permits-requires : goal.set_permits-requires
set_permits-requires c = live_in c.requires.0.live

pub set_total_available_permits-requires : goal.set_total_available_permits-requires
set_total_available_permits-requires c =
    let a = c.args in
    let h = c.requires.0.live in
    let d = c.shared_dispatcher-d in
    dispatcher_still_in a.store.now (decode a.store.now) a.i d.result _ (live_canon h).shaped (sym h.opened.E)
    (shaped_permits (consumer_nth (decode a.store.now) a.i) a.granted (live_in h).nacked_fit) c.set_permits.ensures d.ensures.1

pub returns : goal.returns
returns c =
    let a = c.args in
    let p = c.requires in
    let h = p.0.live in
    let s = decode a.store.now in
    let d = c.shared_dispatcher-d in
    let t = c.total_available_permits in
    let left = c.if-total-gt-MOST_TOTAL.false in
    done_with a.store.now _ h.opened.spelt a.granted _
    (flow_shared s a.i _ a.grant (live_slot h) refl (live_valid h) h.there a.granted p.2 p.3 p.0.kind
    d.result (t.result + a.grant) d.ensures.0 d.ensures.1 (ap (λ (n : ℕ). n + a.grant) t.ensures) (omega arith))
    (value_permits a.granted) refl
    (consumer_then_dispatcher a.store.now s a.i d.result (with_permits (consumer_nth s a.i) a.granted)
    (λ (x : Dispatcher). with_total x (t.result + a.grant)) (live_canon h).shaped
    (shaped_permits (consumer_nth s a.i) a.granted (live_in h).nacked_fit)
    c.set_permits.ensures c.set_total_available_permits.ensures)
