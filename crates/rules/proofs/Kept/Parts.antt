-- A dispatcher with one part changed is valid where the new part is. The ring and the places, what is in flight or
-- queued, are seen as records of their own; of the places by counts, so that a move between the two is arithmetic.
use Prim.Native.Nat.{ℕ, ◌+◌, ◌^◌, ◌≤◌, ◌<◌}
use mathlib.Core.Path.{◌≡◌, refl}
use mathlib.Core.Bool.{Bool, false}
use mathlib.Core.List.Memᴰ
use mathlib.Core.List.{List, [], ◌∷◌, ◌++◌, map, Memᴰ}
use native.Mathlib.Omega.{arith}
use lib.Dec.{eqb, leb-zero}
use lib.ListN.{length, length-replicate, get_or-replicate}
use Rattle.bits.specs.Bits.{bits_empty, bits_below}
use Rattle.rules.specs.Permits.{least_total, most_total}
use Rattle.rules.specs.Table.{Every, Distinct, count}
use Rattle.rules.specs.State.{StoredMessage, Pair, Mark, Held, Dispatcher, State, Id, no_bits, new_mark, new_dispatcher, ledger_of, dispatcher}
use Rattle.rules.specs.Ledger.{message_at}
use Rattle.rules.specs.Dispatcher.{with_attached, with_next, with_cursor, with_mark_delete, with_total, with_places, with_marks}
use Rattle.rules.specs.Valid.{ValidRing, ValidPlaces, ValidMark, ValidMarks, AscendingIds, ValidOutside, ValidDispatcher, Sound}
use Rattle.rules.proofs.Table.{count_append}
use Rattle.rules.proofs.Kept.Counts.{element_counted, counted_element, distinct_counts, counts_distinct}
use Rattle.rules.proofs.Kept.Frame.{dispatcher_cases, found_valid}

-- ---- the ring

pub record Ring (ring : List ℕ) (next : ℕ) : Type 0 where
  pub small : length ring ≤ 32
  pub different : Distinct eqb ring
  pub each_word : Every (λ (i : ℕ). i < 2 ^ 64) ring
  pub next_below : 0 < length ring → next < length ring
  pub next_zero : length ring ≡ 0 → next ≡ 0

-- a dispatcher's ring so seen, and back
pub ring_of : (d : Dispatcher) → ValidRing d → Ring d.attached d.next
ring_of d v =
    record {
      small = v.ring_count;
      different = v.ring_distinct;
      each_word = v.ring_words;
      next_below = v.next_in_range;
      next_zero = v.next_if_empty;
    }

pub of_ring : (d : Dispatcher) → Ring d.attached d.next → ValidRing d
of_ring d v =
    record {
      ring_count = v.small;
      ring_distinct = v.different;
      ring_words = v.each_word;
      next_in_range = v.next_below;
      next_if_empty = v.next_zero;
    }

-- next is the ring's length at most
pub next_most : (ring : List ℕ) (next : ℕ) → Ring ring next → next ≤ length ring
next_most [] next r = let e = r.next_zero refl in omega arith
next_most (i ∷ ring) next r = let h = r.next_below (omega arith) in omega arith

-- ---- the places

-- the positions in flight
abbrev pub positions : List Held → List ℕ
positions held = map (λ (h : Held). h.position) held

pub record Places (ring : List ℕ) (cursor : ℕ) (held : List Held) (queue : List ℕ) : Type 0 where
  pub holders : Every (λ (h : Held). Memᴰ h.holder ring) held
  pub once : (k : ℕ) → count k (positions held) + count k queue ≤ 1
  pub below : (k : ℕ) → 0 < count k (positions held) + count k queue → k < cursor

-- a dispatcher's places so seen, and back
pub places_of : (d : Dispatcher) → ValidPlaces d → Places d.attached d.cursor d.in_flight d.redelivery
places_of d v =
    record {
      holders = v.holders_in_ring;
      once = λ k.
          let e = count_append k (positions d.in_flight) d.redelivery in
          let h = distinct_counts (positions d.in_flight ++ d.redelivery) v.places_distinct k in
          omega arith;
      below = λ k h.
          let e = count_append k (positions d.in_flight) d.redelivery in
          v.places_below_cursor k (counted_element k (positions d.in_flight ++ d.redelivery) (omega arith));
    }

pub of_places : (d : Dispatcher) → Places d.attached d.cursor d.in_flight d.redelivery → ValidPlaces d
of_places d v =
    record {
      holders_in_ring = v.holders;
      places_distinct = counts_distinct (positions d.in_flight ++ d.redelivery)
          (λ k. let e = count_append k (positions d.in_flight) d.redelivery in let h = v.once k in omega arith);
      places_below_cursor = λ k m.
          let e = count_append k (positions d.in_flight) d.redelivery in
          let h = element_counted k (positions d.in_flight ++ d.redelivery) m in
          v.below k (omega arith);
    }

-- other places where no position is counted more often
pub fewer_places : (ring : List ℕ) (cursor : ℕ) (held : List Held) (queue : List ℕ) (held' : List Held) (queue' : List ℕ) → Places ring cursor held queue
    → Every (λ (h : Held). Memᴰ h.holder ring) held'
    → ((k : ℕ) → count k (positions held') + count k queue' ≤ count k (positions held) + count k queue)
    → Places ring cursor held' queue'
fewer_places ring cursor held queue held' queue' p h f =
    record {
      holders = h;
      once = λ k. let a = p.once k in let b = f k in omega arith;
      below = λ k c. let b = f k in p.below k (omega arith);
    }

-- ---- one part changed

-- a dispatcher is valid by its parts
pub by_parts : (s : State) (d : Dispatcher) → d.pair.topic < 256 → d.pair.subscription < 256 → Ring d.attached d.next
    → least_total ≤ d.total_available_permits → d.total_available_permits ≤ most_total
    → d.cursor ≤ length (ledger_of s d.pair.topic) → d.mark_delete ≤ length (ledger_of s d.pair.topic)
    → Places d.attached d.cursor d.in_flight d.redelivery
    → ValidMarks (ledger_of s d.pair.topic) d.marks → ValidOutside (ledger_of s d.pair.topic) d.outside
    → ValidDispatcher s d
by_parts s d topic subscription ring from to cursor mark_delete places marks outside =
    record {
      pair_topic_byte = topic;
      pair_subscription_byte = subscription;
      ring = of_ring d ring;
      total_from = from;
      total_to = to;
      cursor_in_ledger = cursor;
      mark_delete_in_ledger = mark_delete;
      places = of_places d places;
      entry_marks = marks;
      outside_ids = outside;
    }

module _ (s : State) (d : Dispatcher) (v : ValidDispatcher s d) where
  -- another total
  pub valid_with_total : (n : ℕ) → least_total ≤ n → n ≤ most_total → ValidDispatcher s (with_total d n)
  unfolding with_total
  valid_with_total n from to =
      by_parts s (with_total d n) v.pair_topic_byte v.pair_subscription_byte (ring_of d v.ring) from to
      v.cursor_in_ledger v.mark_delete_in_ledger (places_of d v.places) v.entry_marks v.outside_ids

  -- another next slot, of the ring
  pub valid_with_next : (n : ℕ) → n < length d.attached → ValidDispatcher s (with_next d n)
  unfolding with_next
  valid_with_next n h =
      by_parts s (with_next d n) v.pair_topic_byte v.pair_subscription_byte
      (record {
        small = v.ring.ring_count;
        different = v.ring.ring_distinct;
        each_word = v.ring.ring_words;
        next_below = λ z. h;
        next_zero = λ z. absurd (omega arith);
      })
      v.total_from v.total_to v.cursor_in_ledger v.mark_delete_in_ledger (places_of d v.places) v.entry_marks v.outside_ids

  -- a cursor further on
  pub valid_with_cursor : (n : ℕ) → d.cursor ≤ n → n ≤ length (ledger_of s d.pair.topic) → ValidDispatcher s (with_cursor d n)
  unfolding with_cursor
  valid_with_cursor n h k =
      let p = places_of d v.places in
      by_parts s (with_cursor d n) v.pair_topic_byte v.pair_subscription_byte (ring_of d v.ring) v.total_from v.total_to
      k v.mark_delete_in_ledger
      (record { holders = p.holders; once = p.once; below = λ k c. let b = p.below k c in omega arith })
      v.entry_marks v.outside_ids

  -- another mark-delete
  pub valid_with_mark_delete : (n : ℕ) → n ≤ length (ledger_of s d.pair.topic) → ValidDispatcher s (with_mark_delete d n)
  unfolding with_mark_delete
  valid_with_mark_delete n h =
      by_parts s (with_mark_delete d n) v.pair_topic_byte v.pair_subscription_byte (ring_of d v.ring) v.total_from v.total_to
      v.cursor_in_ledger h (places_of d v.places) v.entry_marks v.outside_ids

  -- other places
  pub valid_with_places : (queue : List ℕ) (held : List Held) → Places d.attached d.cursor held queue → ValidDispatcher s (with_places d queue held)
  unfolding with_places
  valid_with_places queue held h =
      by_parts s (with_places d queue held) v.pair_topic_byte v.pair_subscription_byte (ring_of d v.ring) v.total_from v.total_to
      v.cursor_in_ledger v.mark_delete_in_ledger h v.entry_marks v.outside_ids

  -- other marks and other ids outside the ledger
  pub valid_with_marks : (marks : List Mark) (ids : List Id) → ValidMarks (ledger_of s d.pair.topic) marks
      → ValidOutside (ledger_of s d.pair.topic) ids → ValidDispatcher s (with_marks d marks ids)
  unfolding with_marks
  valid_with_marks marks ids h k =
      by_parts s (with_marks d marks ids) v.pair_topic_byte v.pair_subscription_byte (ring_of d v.ring) v.total_from v.total_to
      v.cursor_in_ledger v.mark_delete_in_ledger (places_of d v.places) h k

  -- a ring with more ids
  pub valid_with_attached : (ring : List ℕ) → Ring ring d.next → ((i : ℕ) → Memᴰ i d.attached → Memᴰ i ring)
      → ValidDispatcher s (with_attached d ring)
  unfolding with_attached
  valid_with_attached ring h more =
      let p = places_of d v.places in
      by_parts s (with_attached d ring) v.pair_topic_byte v.pair_subscription_byte h v.total_from v.total_to
      v.cursor_in_ledger v.mark_delete_in_ledger
      (record { holders = λ a m. more a.holder (p.holders a m); once = p.once; below = p.below })
      v.entry_marks v.outside_ids

-- ---- the dispatcher of a pair

-- a mark without stored bits is valid for any message
pub valid_no_bits : (m : StoredMessage) (complete : Bool) (n : ℕ) → n < 2 ^ 32
    → ValidMark m (record { acked = record { complete = complete; unacked = no_bits }; redelivery_count = n })
unfolding bits_empty bits_below
valid_no_bits m complete n h =
    record {
      count_range = h;
      no_bits_below_2 = λ z. refl;
      bits_in_batch = λ z. simp leb-zero;
    }

-- a new dispatcher is valid
pub valid_new_dispatcher : (s : State) (p : Pair) → p.topic < 256 → p.subscription < 256
    → ValidDispatcher s (new_dispatcher p (length (ledger_of s p.topic)))
unfolding new_dispatcher Distinct AscendingIds
valid_new_dispatcher s p h k =
    let n : ℕ = length (ledger_of s p.topic) in
    record {
      pair_topic_byte = h;
      pair_subscription_byte = k;
      ring =
          record {
            ring_count = omega arith;
            ring_distinct = tt;
            ring_words = λ a m. absurd (Memᴰ.not-nil m);
            next_in_range = λ z. z;
            next_if_empty = λ z. z;
          };
      total_from = omega arith;
      total_to = omega arith;
      cursor_in_ledger = omega arith;
      mark_delete_in_ledger = omega arith;
      places =
          record {
            holders_in_ring = λ a m. absurd (Memᴰ.not-nil m);
            places_distinct = tt;
            places_below_cursor = λ a m. absurd (Memᴰ.not-nil m);
          };
      entry_marks =
          record {
            one_each = length-replicate n new_mark;
            each_mark = λ j g. rw (get_or-replicate n j new_mark new_mark g) (valid_no_bits (message_at (ledger_of s p.topic) j) false 0 (omega arith));
          };
      outside_ids =
          record {
            outside_count = omega arith;
            outside_ascending = tt;
            outside_words = λ a m. absurd (Memᴰ.not-nil m);
            not_in_ledger = λ a m. absurd (Memᴰ.not-nil m);
          };
    }

-- the dispatcher of a pair is valid, found or new
pub dispatcher_valid : (s : State) (p : Pair) → Sound s → p.topic < 256 → p.subscription < 256 → ValidDispatcher s (dispatcher s p)
dispatcher_valid s p v h k = dispatcher_cases (ValidDispatcher s) s p (λ e. valid_new_dispatcher s p h k) (λ d e. found_valid s p d v e)
