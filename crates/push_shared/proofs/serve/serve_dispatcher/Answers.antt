-- `push_shared::serve::serve_dispatcher` meets its contract: a ring of at most 32 lies in a local array; the ring is written, and
-- the dispatcher is served by it.
use mathlib.Core.Path.{ap}
use mathlib.Core.List.{List}
use Prim.Native.Nat.{ℕ, ◌≤◌}
use native.Mathlib.Omega.{arith}
use lib.ListN.{length}
use Rattle.layout.specs.Layout.{decode}
use Rattle.layout.specs.Fields.{dispatcher_nth}
use Rattle.push_turn.proofs.Served.{ring_length, next_valid}
use Rattle.push_turn.proofs.Zeros.{zeros_enough, zeros_lent, zeros_sized}
use Rattle.push_turn.specs.Turns.{served_in}
use Rattle.push_shared.proofs.Readied.{ready_serving, ready_room}
use Rattle.push_shared.proofs.serve.serve_dispatcher.Goals as goal

pub find_served-served-requires : goal.find_served-served-requires
find_served-served-requires c = c.requires.0.here

pub slice_bounds-all-end : goal.slice_bounds-all-end
slice_bounds-all-end c = zeros_enough c.ring_count-size.ensures c.requires.0.here.lists_fit.ring_fits

pub slice_bounds-ring-end : goal.slice_bounds-ring-end
slice_bounds-ring-end c = zeros_lent c.ring_count-size.ensures c.requires.0.here.lists_fit.ring_fits

pub ring_slots-requires : goal.ring_slots-requires
ring_slots-requires c = (c.requires.0.here, zeros_sized c.ring_count-size.ensures c.requires.0.here.lists_fit.ring_fits)

pub serve_turns-requires : goal.serve_turns-requires
unfolding served_in
serve_turns-requires c =
    let a = c.args in
    let p = c.requires in
    let s = decode a.store.now in
    let r = c.ring_slots.ensures in
    let l = ap (λ (k : List ℕ). length k) r in
    let m = ring_length s (dispatcher_nth s a.d) in
    let x = next_valid p.0.here p.0.dispatcher_valid in
    let h : (dispatcher_nth s a.d).next ≤ length c.ring_slots.new.ring = omega (arith, l, m, x) in
    rw c.find_served-served.ensures (ready_serving p.0, r, h, p.1, ready_room p.0, p.2)

pub returns : goal.returns
unfolding served_in
returns c = rw c.find_served-served.ensures at c.serve_turns.ensures
