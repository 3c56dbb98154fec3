-- `ack::ack_shared` meets its contract: 64 outside ids are passed, or the dispatcher after the ack is written.
use mathlib.Core.Path.{sym, ap, ◌∙◌}
use Prim.Native.Nat.{ℕ, ◌*◌, ◌%◌, ◌^◌}
use native.Mathlib.Omega.{arith}
use borrow.Author.Tests.{ltb-false}
use Rattle.layout.specs.Layout.{decode}
use Rattle.groups.specs.Lent.{groups_in}
use Rattle.groups.proofs.Lists.{groups_read}
use Rattle.operation_laws.proofs.Frame.{refused_with, done_with}
use Rattle.consumer.proofs.Found.{live_in, live_slot}
use Rattle.ack.proofs.Shared.{ackable, marked, ended_within, ended_in, ended_is}
use Rattle.ack.proofs.Outcomes.{value_moved, ack_over, ack_done}
use Rattle.ack.proofs.ack_shared.Goals as goal

pub shared_dispatcher-d-requires : goal.shared_dispatcher-d-requires
shared_dispatcher-d-requires c = c.requires

pub topic-number-requires : goal.topic-number-requires
topic-number-requires c = live_in c.requires.live

pub passes_64-requires : goal.passes_64-requires
passes_64-requires c = (ackable c.args.i _ _ c.requires.live c.shared_dispatcher-d.ensures c.topic-number.ensures).within

pub returns-then-passes_64 : goal.returns-then-passes_64
returns-then-passes_64 c =
    let a = c.args in
    let p = c.requires in
    let h = p.live in
    refused_with a.store.now _ h.opened.spelt
    (ack_over (decode a.store.now) a.i _ a.groups.list.now (live_slot h) h.there (groups_in a.groups) (groups_read a.groups) p.kind
    _ _ c.shared_dispatcher-d.ensures.0 c.shared_dispatcher-d.ensures.1 c.topic-number.ensures (sym c.passes_64.ensures ∙ c.if-passes_64.true))

pub mark_delete-from-requires : goal.mark_delete-from-requires
mark_delete-from-requires c = (ackable c.args.i _ _ c.requires.live c.shared_dispatcher-d.ensures c.topic-number.ensures).within

pub consumer_id-id-requires : goal.consumer_id-id-requires
consumer_id-id-requires c = live_in c.requires.live

pub complete-requires : goal.complete-requires
complete-requires c =
    let f = c.shared_dispatcher-d.ensures in
    let n = c.topic-number.ensures in (
      ackable c.args.i _ _ c.requires.live f n,
      ltb-false 64 _ (sym c.passes_64.ensures ∙ c.if-passes_64.false),
      marked c.args.i _ _ c.requires.live f n,
    )

pub mark_delete-requires : goal.mark_delete-requires
mark_delete-requires c =
    ended_in c.args.i _ _ c.requires.live c.shared_dispatcher-d.ensures c.topic-number.ensures c.consumer_id-id.result (groups_in c.args.groups)
    (ltb-false 64 _ (sym c.passes_64.ensures ∙ c.if-passes_64.false)) c.complete.ensures

pub moved-requires : goal.moved-requires
moved-requires c =
    let few = ltb-false 64 _ (sym c.passes_64.ensures ∙ c.if-passes_64.false) in
    let f = c.shared_dispatcher-d.ensures in
    let n = c.topic-number.ensures in
    let w = ended_within c.args.i _ _ c.requires.live f n c.consumer_id-id.result (groups_in c.args.groups) few in
    let r = c.mark_delete.ensures ∙ ended_is c.args.i _ _ c.requires.live f n c.consumer_id-id.result (groups_in c.args.groups) few c.complete.ensures in
    omega arith

pub returns : goal.returns
returns c =
    let a = c.args in
    let p = c.requires in
    let h = p.live in
    let few = ltb-false 64 _ (sym c.passes_64.ensures ∙ c.if-passes_64.false) in
    let f = c.shared_dispatcher-d.ensures in
    let n = c.topic-number.ensures in
    let id = c.consumer_id-id.ensures in
    let from = c.mark_delete-from.ensures in
    let to = c.mark_delete.ensures ∙ ended_is a.i _ _ h f n c.consumer_id-id.result (groups_in a.groups) few c.complete.ensures in
    done_with a.store.now _ h.opened.spelt _ _
    (ack_done (decode a.store.now) a.i _ a.groups.list.now (live_slot h) h.there (groups_in a.groups) (groups_read a.groups) p.kind
    _ _ f.0 f.1 n (sym c.passes_64.ensures ∙ c.if-passes_64.false))
    (value_moved _ _) (ap (λ (n : ℕ). n % 2 ^ 56 * 256) (c.moved.ensures ∙ rw (from, to, id))) (rw id at c.complete.ensures)
