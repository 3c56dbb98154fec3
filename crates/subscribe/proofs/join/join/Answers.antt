-- `subscribe::join::join` meets its contract: the pair has a dispatcher, or one is made.
use mathlib.Core.Path.{sym, ap, ◌∙◌}
use Rattle.rules.specs.State.{by_pair}
use Rattle.layout.specs.Layout.{decode, put}
use Rattle.dispatcher.specs.Pairs.{pair_in}
use Rattle.store.proofs.Founds.{found_some, found_none}
use Rattle.subscribe.proofs.Joining.{joins_there, joined_there}
use Rattle.subscribe.proofs.join.join.Goals as goal

pub join_ring-requires : goal.join_ring-requires
join_ring-requires c =
    let p = pair_in c.args.pair in
    let f = found_some by_pair p (decode c.args.store.now).dispatchers (sym c.in-Some.is ∙ c.find_dispatcher.ensures) in
    joins_there c.in-Some.d c.args.id p c.requires f.0 f.1

pub returns-in-Some : goal.returns-in-Some
returns-in-Some c =
    let p = pair_in c.args.pair in
    let f = found_some by_pair p (decode c.args.store.now).dispatchers (sym c.in-Some.is ∙ c.find_dispatcher.ensures) in
    c.join_ring.ensures ∙ ap (put c.args.store.now) (joined_there c.in-Some.d c.args.id p c.requires f.0 f.1)

pub join_new-requires : goal.join_new-requires
join_new-requires c =
    let m = found_none by_pair (pair_in c.args.pair) (decode c.args.store.now).dispatchers (sym c.in-None.is ∙ c.find_dispatcher.ensures) in
    (c.requires.canon, m, c.requires.dispatcher_room m)
