-- `subscribe::seat::insert_consumer` meets its contract: a gap at its place, then the new consumer there.
use Prim.Native.Nat.{◌≤◌}
use native.Mathlib.Omega.{arith}
use lib.ListN.{length}
use Rattle.rules.specs.Commands.{new_consumer}
use Rattle.layout.specs.Layout.{decode}
use Rattle.dispatcher.specs.Pairs.{pair_in}
use Rattle.store.proofs.Finding.{slot_le}
use Rattle.operation_laws.specs.Place.{by_above}
use Rattle.command_parts.specs.Parts.{kind_of}
use Rattle.subscribe.proofs.Seating.{opened_in, seated_new}
use Rattle.subscribe.proofs.seat.insert_consumer.Goals as goal

pub open_consumer-requires : goal.open_consumer-requires
open_consumer-requires c =
    let p = c.place_of-i.ensures in
    let l = slot_le by_above c.args.id (decode c.args.store.now).consumers in
    (c.requires.0, omega arith, c.requires.2)

pub make_consumer-requires : goal.make_consumer-requires
make_consumer-requires c =
    let l : c.place_of-i.result ≤ length (decode c.args.store.now).consumers = let p = c.place_of-i.ensures in omega (arith, slot_le by_above c.args.id (decode c.args.store.now).consumers) in
    opened_in c.place_of-i.result c.requires.0 l c.requires.2 c.open_consumer.ensures

pub returns : goal.returns
unfolding new_consumer
returns c =
    let a = c.args in
    let l : c.place_of-i.result ≤ length (decode a.store.now).consumers = let p = c.place_of-i.ensures in omega (arith, slot_le by_above a.id (decode a.store.now).consumers) in
    seated_new c.place_of-i.result c.requires.0 l c.requires.2 (new_consumer a.id (kind_of a.kind) (pair_in a.pair))
    c.open_consumer.ensures c.make_consumer.ensures c.place_of-i.ensures c.requires.1
