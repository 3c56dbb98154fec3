-- `push_plain::serve::serve_plain` meets its contract: each consumer is served where it is as it was.
use Prim.Native.Nat.{◌+◌, ◌≤◌, ◌<◌}
use native.Mathlib.Omega.{arith}
use lib.ListN.{length}
use Rattle.layout.specs.Layout.{decode}
use Rattle.push_plain.specs.Reading.{all_served}
use Rattle.push_plain.proofs.Served.{going_first, going_in, going_whole, going_room, going_on, going_long, going_count, going_words, going_records}
use borrow.Author.Rules.{rules}
use Rattle.push_plain.proofs.serve.serve_plain.Goals as goal

pub loop-i-init : goal.loop-i-init
loop-i-init c = going_first c.requires.0 c.args.permits.now c.args.list.now

pub serve_consumer-made-requires : goal.serve_consumer-made-requires
serve_consumer-made-requires c =
    let p = c.requires in
    let g = c.loop-i.invariant in
    let h : c.loop-i.i < length (decode c.args.store.now).consumers = omega (arith, p.2) in
    (going_in p.0 g h p.1, going_room p.0 g h p.3)

pub overflow_add-made : goal.overflow_add-made
overflow_add-made c =
    let p = c.requires in
    let g = c.loop-i.invariant in
    let h : c.loop-i.i < length (decode c.args.store.now).consumers = omega (arith, p.2) in
    let room = going_whole p.0 g h p.3 in
    let due = c.serve_consumer-made.ensures.value in
    let within : c.loop-i.made + c.serve_consumer-made.result ≤ length c.args.list.now = omega (arith, room, due, g.long) in
    search rules

pub loop-i-preserved : goal.loop-i-preserved
loop-i-preserved c =
    let p = c.requires in
    let g = c.loop-i.invariant in
    let h : c.loop-i.i < length (decode c.args.store.now).consumers = omega (arith, p.2) in
    let e = c.serve_consumer-made.ensures in
    going_on p.0 g h p.3 e.value e.words e.records

pub shape_of-store : goal.shape_of-store
shape_of-store c = going_long c.requires.0 c.loop-i.invariant

pub shape_of-list : goal.shape_of-list
shape_of-list c = c.loop-i.invariant.long

pub returns : goal.returns
unfolding all_served
returns c =
    let p = c.requires in
    let g = c.loop-i.invariant in
    let h : length (decode c.args.store.now).consumers ≤ c.loop-i.i = omega (arith, p.2) in
    record { value = going_count g h; words = going_words g h; records = going_records g h }
