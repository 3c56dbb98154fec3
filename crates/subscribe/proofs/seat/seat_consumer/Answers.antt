-- `subscribe::seat::seat_consumer` meets its contract: the id is not live, or its record is made anew.
use mathlib.Core.Path.{sym, ap, ◌∙◌}
use Rattle.rules.specs.State.{by_id}
use Rattle.rules.specs.Commands.{new_consumer}
use Rattle.layout.specs.Layout.{decode, put}
use Rattle.dispatcher.specs.Pairs.{pair_in}
use Rattle.layout.proofs.Placed.{consumer_in}
use Rattle.store.proofs.Founds.{found_some, found_none}
use Rattle.command_parts.specs.Parts.{kind_of}
use Rattle.subscribe.proofs.Seating.{seated_again}
use Rattle.subscribe.proofs.seat.seat_consumer.Goals as goal

pub insert_consumer-requires : goal.insert_consumer-requires
insert_consumer-requires c =
    let m = found_none by_id c.args.id (decode c.args.store.now).consumers (sym c.in_default.is ∙ c.find_consumer.ensures.slot) in
    (c.requires.canon, m, c.requires.room m)

pub make_consumer-requires : goal.make_consumer-requires
make_consumer-requires c =
    let f = found_some by_id c.args.id (decode c.args.store.now).consumers (sym c.in-Some.is ∙ c.find_consumer.ensures.slot) in
    consumer_in c.requires.canon c.in-Some.i f.1

pub returns : goal.returns
unfolding new_consumer
returns c =
    let a = c.args in
    let f = found_some by_id a.id (decode a.store.now).consumers (sym c.in-Some.is ∙ c.find_consumer.ensures.slot) in
    c.make_consumer.ensures
    ∙ ap (put a.store.now) (seated_again (decode a.store.now) c.in-Some.i (new_consumer a.id (kind_of a.kind) (pair_in a.pair)) c.requires.ascending f.0 f.1)
