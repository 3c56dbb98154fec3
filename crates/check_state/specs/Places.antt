-- The places of a dispatcher, tested over words: positions in flight and queued, told apart by the stamps that a pass puts
-- on them.
use Rattle.std.specs.Prelude.{ℕ, ◌+◌, ◌<◌, ◌≡◌, Bool, true, false, not, ◌&&◌, ◌||◌, List, ltb, get_or, set}
use Rattle.layout.specs.Offsets.{ring_in, queue_in, flight_in, held_in}
use Rattle.check_rows.specs.Below.{each_below}
use Rattle.check_rows.specs.Rows.{row, among}
use Rattle.check_state.specs.Stamps.{stamped, Under}
use Rattle.check_rows.specs.declared.Rows.{Rows}
use Rattle.check_rows.specs.declared.PairRows.{PairRows}
use Rattle.check_state.specs.declared.stamps.Stamps.{Stamps}

-- whether the holder of entry j is a ring id
abbrev pub held_right : List ℕ → ℕ → ℕ → ℕ → ℕ → Bool
held_right ws ring count first j = among ws ring 1 count (row ws first 2 j)

-- whether n holders are ring ids
unfoldable pub holders_right : List ℕ → ℕ → ℕ → ℕ → ℕ → Bool
holders_right ws ring count first n = each_below (held_right ws ring count first) n

-- whether position j is below the cursor, was not seen before, and differs from each before it
abbrev pub fresh_place : List ℕ → ℕ → ℕ → ℕ → (ℕ → Bool) → ℕ → Bool
fresh_place ws first w cursor seen j =
    ltb (row ws first w j) cursor && not (seen (row ws first w j) || among ws first w j (row ws first w j))

-- whether n positions are and do
unfoldable pub fresh_places : List ℕ → ℕ → ℕ → ℕ → ℕ → (ℕ → Bool) → Bool
fresh_places ws first w n cursor seen = each_below (fresh_place ws first w cursor seen) n

-- no position carries the stamp that is put on now
abbrev pub Unused : Stamps → Type 0
Unused s = Under s.list s.stamp

-- what is answered of one position and left: a fresh one is stamped
pub record Stepped (p cursor : ℕ) (before after : Stamps) (r : Bool) : Type 0 where
  pub answer : r ≡ (ltb p cursor && not (stamped before.list before.stamp p))
  pub put : r ≡ true → after.list ≡ set before.list p before.stamp
  pub same : after.stamp ≡ before.stamp

-- what a pass over n positions answers and leaves: where all are fresh, they are stamped besides those that were
pub record Placed (ws : List ℕ) (first w n cursor : ℕ) (before after : Stamps) (r : Bool) : Type 0 where
  pub answer : r ≡ fresh_places ws first w n cursor (stamped before.list before.stamp)
  pub seen : r ≡ true → (p : ℕ) → p < 4096
      → stamped after.list after.stamp p ≡ (stamped before.list before.stamp p || among ws first w n p)
  pub same : after.stamp ≡ before.stamp

-- what a pass over n entries in flight, a holder and a position each, answers and leaves
pub record Flown (ws : List ℕ) (ring count first n cursor : ℕ) (before after : Stamps) (r : Bool) : Type 0 where
  pub answer : r ≡ (holders_right ws ring count first n && fresh_places ws (first + 1) 2 n cursor (stamped before.list before.stamp))
  pub placed : r ≡ true → Placed ws (first + 1) 2 n cursor before after true
  pub same : after.stamp ≡ before.stamp

-- the two of values that stand for rows
abbrev pub PlacedRows : Rows → ℕ → Stamps → Stamps → Bool → Type 0
PlacedRows places cursor before after r = Placed places.store.now places.first places.width places.count cursor before after r

abbrev pub FlownRows : Rows → PairRows → ℕ → Stamps → Stamps → Bool → Type 0
FlownRows ring flight cursor before after r =
    Flown ring.store.now ring.first ring.count flight.rows.first flight.rows.count cursor before after r

-- the places of the dispatcher at an offset: holders in the ring, positions in flight and then queued fresh
unfoldable pub places_right : List ℕ → ℕ → ℕ → Bool
places_right ws e at =
    holders_right ws (at + (ring_in + 1)) (get_or ws (at + ring_in) 0) (at + held_in e 0) (get_or ws (at + flight_in e) 0)
    && (fresh_places ws (at + held_in e 0 + 1) 2 (get_or ws (at + flight_in e) 0) (get_or ws (at + 3) 0) (λ p. false)
    && fresh_places ws (at + (queue_in + 1)) 1 (get_or ws (at + queue_in) 0) (get_or ws (at + 3) 0)
    (λ p. among ws (at + held_in e 0 + 1) 2 (get_or ws (at + flight_in e) 0) p))

-- what a test that stamps positions answers, and that it keeps to its stamp
pub record Tested (before after : Stamps) (r right : Bool) : Type 0 where
  pub answer : r ≡ right
  pub same : after.stamp ≡ before.stamp

-- what the test of dispatcher d answers, and that it took the next stamp
pub record Counted (d : ℕ) (after : Stamps) (r right : Bool) : Type 0 where
  pub answer : r ≡ right
  pub stamp : after.stamp ≡ d + 1
