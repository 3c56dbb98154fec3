-- `push_turn::due::due_of` meets its contract: a ring of at most 32 lies in a local array; the ring is written, and the dispatcher is served by it.
use mathlib.Core.Path.{◌≡◌, sym, ap, ◌∙◌}
use mathlib.Core.List.{List}
use Prim.Native.Nat.{ℕ, ◌≤◌}
use native.Mathlib.Omega.{arith}
use lib.ListN.{length}
use Rattle.layout.specs.Layout.{decode}
use Rattle.layout.specs.Fields.{dispatcher_nth}
use Rattle.push_laws.specs.Local.{fixed_of, served}
use Rattle.push_turn.proofs.Served.{served_here, serving_found, found_at, next_in_ring, ring_length, ring_short}
use Rattle.push_turn.proofs.Zeros.{zeros_enough, zeros_lent, zeros_sized}
use Rattle.push_turn.proofs.due.due_of.Goals as goal

pub find_served-served-requires : goal.find_served-served-requires
find_served-served-requires c = served_here c.args.store.now c.args.d c.requires.0 c.requires.2 c.args.e c.requires.1

pub ring_count-size-requires : goal.ring_count-size-requires
ring_count-size-requires c = served_here c.args.store.now c.args.d c.requires.0 c.requires.2 c.args.e c.requires.1

pub slice_bounds-all-end : goal.slice_bounds-all-end
slice_bounds-all-end c = zeros_enough c.ring_count-size.ensures (ring_short c.args.store.now c.args.d c.requires.0 c.requires.2 c.args.e c.requires.1)

pub slice_bounds-ring-end : goal.slice_bounds-ring-end
slice_bounds-ring-end c = zeros_lent c.ring_count-size.ensures (ring_short c.args.store.now c.args.d c.requires.0 c.requires.2 c.args.e c.requires.1)

pub ring_slots-requires : goal.ring_slots-requires
ring_slots-requires c =
    let short = ring_short c.args.store.now c.args.d c.requires.0 c.requires.2 c.args.e c.requires.1 in
    (served_here c.args.store.now c.args.d c.requires.0 c.requires.2 c.args.e c.requires.1, zeros_sized c.ring_count-size.ensures short)

pub due_turns-requires : goal.due_turns-requires
due_turns-requires c =
    let a = c.args in
    let p = c.requires in
    let ws = a.store.now in
    let s = decode ws in
    let x = c.find_served-served.result in
    let g : x.d ≡ a.d = found_at s a.e a.d c.find_served-served.ensures in
    let r = c.ring_slots.ensures in
    let n = ap (λ (l : List ℕ). length l) r in
    let m = ring_length s (dispatcher_nth s a.d) in
    let i = next_in_ring ws a.d p.0 p.2 a.e p.1 in
    let h : (dispatcher_nth s a.d).next ≤ length c.ring_slots.new.ring = omega arith in (
      serving_found ws a.d p.0 p.2 a.e p.1 x c.find_served-served.ensures,
      r ∙ ap (λ (k : ℕ). (fixed_of s (dispatcher_nth s k)).ring) (sym g),
      rw g h,
    )

pub returns : goal.returns
returns c =
    let s = decode c.args.store.now in
    let g : c.find_served-served.result.d ≡ c.args.d = found_at s c.args.e c.args.d c.find_served-served.ensures in
    record {
      count = c.due_turns.ensures.count ∙ ap (λ (k : ℕ). length (served s (dispatcher_nth s k) c.args.permits.now).made) g;
      permits = c.due_turns.ensures.permits ∙ ap (λ (k : ℕ). (served s (dispatcher_nth s k) c.args.permits.now).after.permits) g;
    }
