-- `dispatcher::returns::return_held` meets its contract: one pass over what is in flight.
use mathlib.Core.Path.{◌≡◌, ◌∙◌}
use Prim.Native.Nat.{◌+◌, ◌<◌}
use native.Mathlib.Omega.{arith}
use lib.Dec.{eqb}
use lib.ListN.{length, get_or}
use Rattle.rules.proofs.Table.{by_test}
use Rattle.layout.specs.Layout.{decode}
use Rattle.layout.specs.Fields.{zero_held, dispatcher_nth}
use Rattle.operation_laws.proofs.Moved.{moved_length}
use Rattle.dispatcher.proofs.Returning.{return_start, there_now, room_now, return_own, return_other, kept_there, return_end}
use borrow.Author.Rules.{rules}
use Rattle.dispatcher.proofs.returns.return_held.Goals as goal

pub flight_count-n-requires : goal.flight_count-n-requires
flight_count-n-requires c = c.requires.0

pub loop-j-init : goal.loop-j-init
loop-j-init c = return_start c.args.id c.args.d c.requires.0 c.requires.1

pub return_or_keep-kept-requires : goal.return_or_keep-kept-requires
return_or_keep-kept-requires c =
    let r = c.loop-j.invariant in
    let h = c.requires.0 in
    let l : c.loop-j.j < length (dispatcher_nth (decode c.args.store.now) c.args.d).in_flight = omega arith in
    (r.moved.here, there_now c.args.id c.args.d h r l, r.thinning.behind, room_now c.args.id c.args.d h r l)

pub loop-j-preserved : goal.loop-j-preserved
loop-j-preserved c =
    let r = c.loop-j.invariant in
    let i = c.args.id in
    let d = c.args.d in
    let h = c.requires.0 in
    let l : c.loop-j.j < length (dispatcher_nth (decode c.args.store.now) c.args.d).in_flight = omega arith in
    let k = c.return_or_keep-kept.ensures.count in
    let v = c.return_or_keep-kept.ensures.words in
    let held = get_or (dispatcher_nth (decode c.loop-j.store) d).in_flight c.loop-j.j zero_held in
    by_test (eqb i held.holder)
    (λ t. let q : c.return_or_keep-kept.result ≡ c.loop-j.kept = k ∙ rw t in rw q (return_own i d h r l v t))
    (λ t. let q : c.return_or_keep-kept.result ≡ c.loop-j.kept + 1 = k ∙ rw t in rw q (return_other i d h r l v t))

pub keep_flight-requires : goal.keep_flight-requires
keep_flight-requires c = (c.loop-j.invariant.moved.here, kept_there c.args.id c.args.d c.requires.0 c.loop-j.invariant)

pub shape_of-store : goal.shape_of-store
shape_of-store c = let n = moved_length c.requires.0 c.loop-j.invariant.moved in search (rules, n)

pub returns : goal.returns
returns c = return_end c.args.id c.args.d c.requires.0 c.loop-j.invariant (omega arith) c.keep_flight.ensures
