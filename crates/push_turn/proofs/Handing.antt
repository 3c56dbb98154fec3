-- A turn by its cases: which place is chosen, whether an entry is queued or waits in the ledger, and what its hand-over is.
use mathlib.Core.Path.{◌≡◌, refl, sym, ap}
use mathlib.Core.Bool.{false}
use mathlib.Core.List.{List, [], ◌∷◌}
use mathlib.Core.Option.{none, some}
use Prim.Native.Nat.{ℕ, zero, suc, ◌-◌, ◌≤◌, ◌<◌}
use native.Mathlib.Omega.{arith}
use lib.ListN.{length, get_or, set}
use borrow.Author.Tests.{lt-ltb, le-ltb}
use Rattle.std.specs.Prelude.{Some, None}
use Rattle.rules.specs.Permits.{zero_permits, above_zero}
use Rattle.rules.specs.Table.{is_empty}
use Rattle.rules.specs.Push.{slot_after}
use Rattle.rules.proofs.Table.{by_test}
use Rattle.push_laws.specs.Local.{Fixed, Local, Place, price_of, hand_over, take_entry, serve_place, choose_place, local_turn}
use Rattle.push_laws.specs.Local.LocalTurn.{stop, move}
use Rattle.push_turn.specs.Turns.{place_named, first_place}
use Rattle.push_turn.proofs.Choosing.{chosen_ready}

-- permits above none are those of a slot
pub above_in : (permits : List ℕ) (c : ℕ) → zero_permits < get_or permits c 0 → c < length permits
above_in [] c h = absurd (omega arith)
above_in (p ∷ permits) zero h = omega arith
above_in (p ∷ permits) (suc c) h = let r = above_in permits c h in omega arith

-- a hand-over at a price
pub handed : (f : Fixed) (permits : List ℕ) (next cursor total taken c k price : ℕ) → price ≡ price_of f k
    → move (record { consumer = c; position = k; price = price; permits = get_or permits c 0 - price })
    (record { permits = set permits c (get_or permits c 0 - price); next = next; cursor = cursor; total = total - price; taken = taken })
    ≡ hand_over f permits next cursor total taken c k
unfolding hand_over
handed f permits next cursor total taken c k price e = rw e

module _ (f : Fixed) (l : Local) (next c : ℕ) where
  -- an entry is queued
  pub entry_queued : (taken k : ℕ) → l.taken < length f.queue → taken ≡ suc l.taken → k ≡ get_or f.queue l.taken 0
      → hand_over f l.permits next l.cursor l.total taken c k ≡ take_entry f l next c
  unfolding take_entry
  entry_queued taken k h e g = rw (lt-ltb l.taken (length f.queue) h, e, g)

  -- one waits in the ledger
  pub entry_waiting : (cursor : ℕ) → length f.queue ≤ l.taken → l.cursor < length f.ledger → cursor ≡ suc l.cursor
      → hand_over f l.permits next cursor l.total l.taken c l.cursor ≡ take_entry f l next c
  unfolding take_entry
  entry_waiting cursor h k e =
      rw (le-ltb l.taken (length f.queue) h, lt-ltb l.cursor (length f.ledger) k, e)

  -- there is none, and nothing is paid
  pub entry_none : length f.queue ≤ l.taken → length f.ledger ≤ l.cursor
      → stop (record { permits = l.permits; next = next; cursor = l.cursor; total = l.total - 0; taken = l.taken }) ≡ take_entry f l next c
  unfolding take_entry
  entry_none h k =
      let nothing : l.total - 0 ≡ l.total = omega arith in
      rw (nothing, le-ltb l.taken (length f.queue) h, le-ltb l.cursor (length f.ledger) k)

-- a list with elements is not empty
not_empty : (l : List ℕ) → 0 < length l → is_empty l ≡ false
unfolding is_empty
not_empty [] h = absurd (omega arith)
not_empty (a ∷ l) h = refl

module _ (f : Fixed) (l : Local) where
  -- the total allows none
  pub turn_spent : l.total ≤ zero_permits → stop l ≡ local_turn f l
  unfolding local_turn above_zero
  turn_spent h = by_test (is_empty f.ring) (λ t. rw t) (λ t. rw (t, le-ltb zero_permits l.total h))

  module _ (allowed : zero_permits < l.total) where
    -- no place is ready
    turn_idle : first_place f.ring l.permits l.next ≡ none → stop l ≡ local_turn f l
    unfolding local_turn above_zero choose_place serve_place first_place
    turn_idle e =
        by_test (is_empty f.ring) (λ t. rw t) (λ t. rw (t, lt-ltb zero_permits l.total allowed, e))

    -- a place is
    turn_served : 0 < length f.ring → (p : Place) → first_place f.ring l.permits l.next ≡ some p
        → take_entry f l (slot_after p.place f.ring) p.consumer ≡ local_turn f l
    unfolding local_turn above_zero choose_place serve_place first_place
    turn_served some_ring p e = rw (not_empty f.ring some_ring, lt-ltb zero_permits l.total allowed, e)

-- the same by the ring that code has, and the place that it chose
module _ (f : Fixed) (l : Local) (ring : List ℕ) (same : ring ≡ f.ring) where
  -- no place was
  pub no_place : place_named ring None ≡ first_place ring l.permits l.next → zero_permits < l.total → stop l ≡ local_turn f l
  unfolding place_named
  no_place e allowed = turn_idle f l allowed (sym (rw same at e))

  module _ (r : ℕ) (chosen : place_named ring (Some r) ≡ first_place ring l.permits l.next) where
    -- one was, and next is the one after it
    pub at_place : {next : ℕ} → next ≡ slot_after r ring → zero_permits < l.total → r < length ring
        → take_entry f l next (get_or ring r 0) ≡ local_turn f l
    unfolding place_named
    at_place e allowed h =
        let n = ap (λ (m : List ℕ). length m) same in
        rw (e, same) (turn_served f l allowed (omega arith) (record { place = r; consumer = get_or f.ring r 0 }) (sym (rw same at chosen)))

    -- its consumer has permits
    pub place_ready : zero_permits < get_or l.permits (get_or ring r 0) 0
    unfolding place_named
    place_ready = chosen_ready l.permits (record { place = r; consumer = get_or ring r 0 }) ring l.next (sym chosen)
