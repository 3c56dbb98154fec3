-- `push_plain::due::due_plain` meets its contract: the numbers of all consumers are added up.
use Rattle.std.proofs.Common.{◌≡◌, ◌<◌, length, get_or, arith, rules, of_calls}
use Rattle.layout.specs.Layout.{decode}
use Rattle.layout.proofs.Placed.{consumer_in}
use Rattle.operation_laws.proofs.Frame.{canon_of}
use Rattle.push_plain.proofs.Parts.{due_of, added_all_due, due_few}
use Rattle.push_plain.proofs.due.due_plain.Goals as goal

pub added_up-requires-clause-callable : goal.added_up-requires-clause-callable
added_up-requires-clause-callable c =
    λ i h.
    let p = c.requires in
    let n = p.2 in
    let t : i < length (decode c.args.store.now).consumers = omega (arith, n, h) in
    let there = consumer_in (canon_of c.args.e c.args.store.now p.0 p.1) i t in
    search (of_calls, there, h)

pub added_up-requires-clause-small : goal.added_up-requires-clause-small
added_up-requires-clause-small c =
    λ i r h k.
    let p = c.requires in
    let s = decode c.args.store.now in
    let n = p.2 in
    let t : i < length s.consumers = omega (arith, n, h) in
    let f = due_few (canon_of c.args.e c.args.store.now p.0 p.1) i (get_or c.args.permits.now i 0) t in
    let q : r ≡ due_of s c.args.permits.now i = search rules in
    omega (arith, f, q)

pub added_up-requires-clause-few : goal.added_up-requires-clause-few
added_up-requires-clause-few c =
    let p = c.requires in
    let n = p.2 in
    let f = (canon_of c.args.e c.args.store.now p.0 p.1).shaped.consumers_fit in
    omega (arith, n, f)

pub returns : goal.returns
returns c =
    added_all_due (decode c.args.store.now) c.args.permits.now (λ i r h k. search rules) _ c.added_up.result c.requires.2 c.added_up.ensures
