-- `balance::add_permits` meets its contract: the consumer is missing, live elsewhere, or live under the dispatcher.
use mathlib.Core.Path.{refl, sym, ◌∙◌}
use native.Mathlib.Omega.{arith}
use Rattle.rules.specs.State.{by_id}
use Rattle.layout.specs.Layout.{decode}
use Rattle.layout.specs.Fields.{consumer_nth, dispatcher_nth}
use Rattle.layout.proofs.Placed.{consumer_in}
use Rattle.store.specs.Find.{slot}
use Rattle.store.proofs.Tests.{answered_no, answered_yes}
use Rattle.store.proofs.Founds.{found_some, found_none}
use Rattle.operation_laws.proofs.Frame.{valid_now, consumer_found, consumer_missing}
use Rattle.balance.proofs.Balances.{adds_none, adds_nothing, adds_permits, found_range}
use Rattle.balance.proofs.add_permits.Goals as goal

pub returns-in_default : goal.returns-in_default
returns-in_default c =
    let s = decode c.args.store.now in
    let id = c.args.id in
    adds_none (dispatcher_nth s c.args.d).pair c.args.sum
    (consumer_missing s (slot by_id id s.consumers) id refl (found_none by_id id s.consumers (sym c.in_default.is ∙ c.find_consumer.ensures.slot)))

pub is_under-requires : goal.is_under-requires
is_under-requires c =
    let f = found_some by_id c.args.id (decode c.args.store.now).consumers (sym c.in-Some.is ∙ c.find_consumer.ensures.slot) in
    (c.requires.0, consumer_in c.requires.0.canon c.in-Some.i f.1)

pub returns-then-not-is_under : goal.returns-then-not-is_under
returns-then-not-is_under c =
    let s = decode c.args.store.now in
    let f = found_some by_id c.args.id s.consumers (sym c.in-Some.is ∙ c.find_consumer.ensures.slot) in
    adds_nothing (dispatcher_nth s c.args.d).pair c.args.sum
    (consumer_found s c.in-Some.i c.args.id f.0 f.1) (answered_no c.is_under.ensures c.if-not-is_under.true)

pub permits-requires : goal.permits-requires
permits-requires c =
    let f = found_some by_id c.args.id (decode c.args.store.now).consumers (sym c.in-Some.is ∙ c.find_consumer.ensures.slot) in
    consumer_in c.requires.0.canon c.in-Some.i f.1

pub overflow_add-result : goal.overflow_add-result
overflow_add-result c =
    let s = decode c.args.store.now in
    let f = found_some by_id c.args.id s.consumers (sym c.in-Some.is ∙ c.find_consumer.ensures.slot) in
    let r = found_range s c.args.id (consumer_nth s c.in-Some.i) (valid_now c.args.store.now c.requires.1) (consumer_found s c.in-Some.i c.args.id f.0 f.1) in
    let p = c.permits.ensures in
    let h = c.requires.3 in
    omega (arith, r.1)

pub overflow_sub-result : goal.overflow_sub-result
overflow_sub-result c =
    let s = decode c.args.store.now in
    let f = found_some by_id c.args.id s.consumers (sym c.in-Some.is ∙ c.find_consumer.ensures.slot) in
    let r = found_range s c.args.id (consumer_nth s c.in-Some.i) (valid_now c.args.store.now c.requires.1) (consumer_found s c.in-Some.i c.args.id f.0 f.1) in
    let p = c.permits.ensures in
    let h = c.requires.2 in
    omega (arith, r.0)

pub returns : goal.returns
returns c =
    let s = decode c.args.store.now in
    let f = found_some by_id c.args.id s.consumers (sym c.in-Some.is ∙ c.find_consumer.ensures.slot) in
    adds_permits (dispatcher_nth s c.args.d).pair c.args.sum
    (consumer_found s c.in-Some.i c.args.id f.0 f.1) (answered_yes c.is_under.ensures c.if-not-is_under.false) c.permits.ensures
