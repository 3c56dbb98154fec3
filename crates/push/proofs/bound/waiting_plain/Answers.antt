-- `push::bound::waiting_plain` meets its contract: the numbers of all consumers are added up.
use Rattle.std.proofs.Common.{◌≡◌, ◌<◌, length, arith, rules, of_calls}
use Rattle.layout.specs.Layout.{decode}
use Rattle.layout.specs.Fields.{zero_consumer, consumer_nth}
use Rattle.layout.proofs.Placed.{consumer_in}
use Rattle.push_plain.specs.Reading.{waiting_for}
use Rattle.push.proofs.Most.{added_all, consumer_small}
use Rattle.push.proofs.bound.waiting_plain.Goals as goal

pub added_up-requires-clause-callable : goal.added_up-requires-clause-callable
added_up-requires-clause-callable c =
    λ i h. let there = consumer_in c.requires i (rw (← c.consumer_count.ensures) h) in search (of_calls, there)

pub added_up-requires-clause-small : goal.added_up-requires-clause-small
added_up-requires-clause-small c =
    λ i r h p.
    let there : i < length (decode c.args.store.now).consumers = rw (← c.consumer_count.ensures) h in
    let f = consumer_small (decode c.args.store.now) c.requires.shaped i there in
    let q : r ≡ waiting_for (decode c.args.store.now) (consumer_nth (decode c.args.store.now) i) = search rules in
    omega (arith, f, q)

pub added_up-requires-clause-few : goal.added_up-requires-clause-few
added_up-requires-clause-few c = let n = c.consumer_count.ensures in let f = c.requires.shaped.consumers_fit in omega (arith, n, f)

pub returns : goal.returns
returns c =
    let s = decode c.args.store.now in
    added_all (waiting_for s) s.consumers zero_consumer
    (λ i r h p. search rules) c.consumer_count.result c.added_up.result c.consumer_count.ensures c.added_up.ensures
