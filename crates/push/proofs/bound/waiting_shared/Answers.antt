-- `push::bound::waiting_shared` meets its contract: the numbers of all dispatchers are added up.
use Rattle.std.proofs.Common.{◌≡◌, ◌<◌, length, arith, rules, of_calls}
use Rattle.layout.specs.Layout.{decode}
use Rattle.layout.specs.Fields.{zero_dispatcher, dispatcher_nth}
use Rattle.layout.proofs.Placed.{dispatcher_in}
use Rattle.push.specs.Bound.{waiting_at}
use Rattle.push.proofs.Most.{added_all, dispatcher_small}
use Rattle.push.proofs.bound.waiting_shared.Goals as goal

pub added_up-requires-clause-callable : goal.added_up-requires-clause-callable
added_up-requires-clause-callable c =
    λ i h. let there = dispatcher_in c.requires i (rw (← c.dispatcher_count.ensures) h) in search (of_calls, there)

pub added_up-requires-clause-small : goal.added_up-requires-clause-small
added_up-requires-clause-small c =
    λ i r h p.
    let there : i < length (decode c.args.store.now).dispatchers = rw (← c.dispatcher_count.ensures) h in
    let f = dispatcher_small (decode c.args.store.now) c.requires.shaped i there in
    let q : r ≡ waiting_at (decode c.args.store.now) (dispatcher_nth (decode c.args.store.now) i) = search rules in
    omega (arith, f, q)

pub added_up-requires-clause-few : goal.added_up-requires-clause-few
added_up-requires-clause-few c = let n = c.dispatcher_count.ensures in let f = c.requires.shaped.dispatchers_fit in omega (arith, n, f)

pub returns : goal.returns
returns c =
    let s = decode c.args.store.now in
    added_all (waiting_at s) s.dispatchers zero_dispatcher
    (λ i r h p. search rules) c.dispatcher_count.result c.added_up.result c.dispatcher_count.ensures c.added_up.ensures
