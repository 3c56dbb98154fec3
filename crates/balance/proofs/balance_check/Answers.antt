-- `balance::balance_check` meets its contract. The loop's invariant: the sum so far, with what is left of the ring,
-- is the whole; and the sum is in the range of as many consumers.
use mathlib.Core.Path.{◌≡◌, refl, sym, ap, ◌∙◌}
use Prim.Native.Nat.{ℕ, ◌<◌}
use native.Mathlib.Omega.{arith}
use lib.ListN.{length, get_or}
use Rattle.rules.specs.State.{consumer_of}
use Rattle.rules.specs.Dispatcher.{add_permits, balance_check}
use Rattle.layout.specs.Layout.{decode}
use Rattle.layout.specs.Fields.{dispatcher_nth}
use Rattle.operation_laws.proofs.Frame.{valid_now}
use Rattle.balance.proofs.Balances.{range_on, found_range, sum_on, sum_end}
use Rattle.balance.proofs.balance_check.Goals as goal

pub loop-j-init : goal.loop-j-init
unfolding balance_check
loop-j-init c = (refl, record { from = omega arith; to = omega arith })

pub ring_id-requires : goal.ring_id-requires
ring_id-requires c =
    let here : c.loop-j.j < length (dispatcher_nth (decode c.args.store.now) c.args.d).attached = let n = c.ring_count-n.ensures in omega arith in
    (c.requires.0, here)

pub add_permits-sum-requires : goal.add_permits-sum-requires
add_permits-sum-requires c =
    let here : c.loop-j.j < length (dispatcher_nth (decode c.args.store.now) c.args.d).attached = let n = c.ring_count-n.ensures in omega arith in
    let few : c.loop-j.j < 32 = let h = here in let f = c.requires.0.lists_fit.ring_fits in omega arith in
    let f = few in
    let x = c.loop-j.invariant.1.from in
    let y = c.loop-j.invariant.1.to in
    (c.requires.0, c.requires.1, omega arith, omega arith)

pub loop-j-preserved : goal.loop-j-preserved
loop-j-preserved c =
    let here : c.loop-j.j < length (dispatcher_nth (decode c.args.store.now) c.args.d).attached = let n = c.ring_count-n.ensures in omega arith in
    let few : c.loop-j.j < 32 = let h = here in let f = c.requires.0.lists_fit.ring_fits in omega arith in
    let added : c.add_permits-sum.result ≡ add_permits (dispatcher_nth (decode c.args.store.now) c.args.d).pair c.loop-j.sum (consumer_of (decode c.args.store.now) (get_or (dispatcher_nth (decode c.args.store.now) c.args.d).attached c.loop-j.j 0)) = let ws = c.args.store.now in
    let d = c.args.d in
    c.add_permits-sum.ensures
    ∙ ap (λ (x : ℕ). add_permits (dispatcher_nth (decode ws) d).pair c.loop-j.sum (consumer_of (decode ws) x))
    c.ring_id.ensures in
    let s = decode c.args.store.now in
    let d = dispatcher_nth s c.args.d in
    let j = c.loop-j.j in
    let id = get_or d.attached j 0 in (
      rw added (sym (sum_on s d.pair c.loop-j.sum d.attached j here) ∙ c.loop-j.invariant.0),
      rw added (range_on d.pair c.loop-j.sum j (consumer_of s id) (λ x q. found_range s id x (valid_now c.args.store.now c.requires.1) q) few c.loop-j.invariant.1),
    )

pub returns : goal.returns
returns c =
    let s = decode c.args.store.now in
    let d = dispatcher_nth s c.args.d in
    let n = c.ring_count-n.ensures in
    sum_end s d.pair c.loop-j.sum d.attached c.loop-j.j (omega arith) ∙ c.loop-j.invariant.0
