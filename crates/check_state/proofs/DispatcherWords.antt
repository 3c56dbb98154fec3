-- The tests of a dispatcher's words are the rules' tests of the dispatcher that they spell: its room, head, ring and places.
use mathlib.Core.Path.{◌≡◌, sym, ap, ap₂, ◌∙◌, subst}
use mathlib.Core.Bool.{Bool, true, false, ◌&&◌, ◌||◌, and-true, and_assoc}
use mathlib.Core.List.{List, ◌++◌, map}
use Prim.Native.Nat.{ℕ, ◌+◌, ◌*◌, ◌^◌, ◌<◌}
use native.Mathlib.Omega.{arith}
use lib.Dec.{eqb, leb, ltb}
use lib.ListN.{length, get_or, length-map, get_or-map}
use borrow.Author.Tests.{le-leb, lt-ltb}
use Rattle.bits.specs.Bits.{AreWords}
use Rattle.rules.specs.Permits.{least_total, most_total}
use Rattle.rules.specs.Table.{all, distinct, member}
use Rattle.rules.specs.State.{Held, Dispatcher}
use Rattle.rules.specs.Valid.{is_byte, is_word, valid_ring, valid_places}
use Rattle.layout.specs.Layout.{decode}
use Rattle.layout.specs.Canon.{CanonStore}
use Rattle.layout.specs.Offsets.{dispatcher_at, flight_in, held_in}
use Rattle.layout.specs.Fields.{zero_held, dispatcher_nth}
use Rattle.layout.proofs.GetsDispatcher.{dispatcher_short, read_dispatcher_topic, read_dispatcher_subscription, read_next, read_cursor, read_mark_delete, read_total, read_ring_count, read_outside_count, read_queue_count, read_flight_count, read_ring, read_queue, read_holder, read_position}
use Rattle.check_rows.specs.Rows.{row, among}
use Rattle.check_state.specs.Places.{held_right, holders_right, fresh_places, places_right}
use Rattle.check_state.specs.Dispatchers.{DispatcherRoom, head_right, next_right, ring_right}
use Rattle.check_rows.proofs.Below.{each_given, each_same}
use Rattle.check_rows.proofs.Elements.{all_each}
use Rattle.store.proofs.Rooms.{slot_le}
use Rattle.check_rows.proofs.RowLists.{empty_length, by_place, Spell, among_list, distinct_list}
use Rattle.check_state.proofs.FreshLists.{fresh_lists}

module _ {e : ℕ} {ws : List ℕ} (h : CanonStore e ws) (d : ℕ) (k : d < length (decode ws).dispatchers) where
  -- the dispatcher
  abbrev the : Dispatcher
  the = dispatcher_nth (decode ws) d

  -- where it stands
  abbrev here : ℕ
  here = dispatcher_at e d

  -- how many entries are in flight
  flight_count : get_or ws (here + flight_in e) 0 ≡ length the.in_flight
  flight_count = by_place ws (omega arith) (read_flight_count h d k)

  -- its words lie in the store, and its counts in their room
  pub dispatcher_room : DispatcherRoom e ws here
  dispatcher_room =
      let s = slot_le d (length (decode ws).dispatchers) 8 (176 + 9 * e) k h.shaped.dispatchers_fit in
      let l = h.long in
      let f = dispatcher_short h d k in
      record {
        E_most = h.E_to;
        room = omega arith;
        ring_count = rw (read_ring_count h d k) f.ring_fits;
        outside_count = rw (read_outside_count h d k) f.outside_fits;
        queue_count = rw (read_queue_count h d k) f.queue_fits;
        flight_count = rw flight_count f.flight_fits;
      }

  -- ---- head and ring

  -- the head's words
  pub head_reads : (n : ℕ)
      → head_right ws here n
      ≡ (is_byte the.pair.topic
      && (is_byte the.pair.subscription
      && (leb least_total the.total_available_permits
      && (leb the.total_available_permits most_total && (leb the.cursor n && leb the.mark_delete n)))))
  unfolding head_right
  head_reads n =
      rw (read_dispatcher_topic h d k, read_dispatcher_subscription h d k, read_total h d k, read_cursor h d k, read_mark_delete h d k)

  -- the ring's ids
  ring_spell : Spell ws (here + 12) 1 the.attached
  ring_spell j l = by_place ws (omega arith) (read_ring h d k j l)

  module _ (are_words : AreWords ws) where
    -- they are words, since all are
    ring_words : all is_word the.attached ≡ true
    unfolding is_word
    ring_words =
        all_each is_word the.attached 0
        ∙ each_given (λ j. is_word (get_or the.attached j 0)) (length the.attached)
        (λ j l. lt-ltb (get_or the.attached j 0) (2 ^ 64) (subst (λ (v : ℕ). v < 2 ^ 64) (read_ring h d k j l) (are_words (here + 12 + j))))

    -- the ring's test
    pub ring_reads : ring_right ws here ≡ valid_ring the
    unfolding ring_right next_right valid_ring
    ring_reads =
        let f = le-leb (length the.attached) 32 (dispatcher_short h d k).ring_fits in
        rw (read_ring_count h d k, read_next h d k, f, ring_words, empty_length the.attached)
        (ap (λ (b : Bool). b && (ltb the.next (length the.attached) || (eqb (length the.attached) 0 && eqb the.next 0)))
        (distinct_list ws (here + 12) 1 the.attached ring_spell ∙ sym (and-true (distinct eqb the.attached))))

  -- ---- places

  -- the positions in flight
  abbrev positions : List ℕ
  positions = map (λ (x : Held). x.position) the.in_flight

  -- each stands second in its row
  position_spell : Spell ws (here + held_in e 0 + 1) 2 positions
  position_spell j l =
      let m : j < length the.in_flight = rw (length-map the.in_flight (λ (x : Held). x.position)) at l in
      by_place ws (omega arith) (read_position h d k j m) ∙ sym (get_or-map (λ (x : Held). x.position) the.in_flight j zero_held)

  -- the positions queued
  queue_spell : Spell ws (here + 174) 1 the.redelivery
  queue_spell j l = by_place ws (omega arith) (read_queue h d k j l)

  -- the holders' test
  holders_reads : holders_right ws (here + 12) (length the.attached) (here + held_in e 0) (length the.in_flight)
      ≡ all (λ (x : Held). member x.holder the.attached) the.in_flight
  unfolding holders_right
  holders_reads =
      each_same (held_right ws (here + 12) (length the.attached) (here + held_in e 0)) (λ j. member (get_or the.in_flight j zero_held).holder the.attached)
      (length the.in_flight)
      (λ j l.
      among_list ws (here + 12) 1 the.attached ring_spell (row ws (here + held_in e 0) 2 j)
      ∙ ap (λ (v : ℕ). member v the.attached) (by_place ws (omega arith) (read_holder h d k j l)))
      ∙ sym (all_each (λ (x : Held). member x.holder the.attached) the.in_flight zero_held)

  -- the places' test
  pub places_reads : places_right ws e here ≡ valid_places the
  unfolding places_right valid_places
  places_reads =
      rw (read_ring_count h d k, flight_count, read_queue_count h d k, read_cursor h d k)
      (ap₂ ◌&&◌ holders_reads
      (subst (λ (n : ℕ). (fresh_places ws (here + held_in e 0 + 1) 2 n the.cursor (λ p. false) && fresh_places ws (here + 174) 1 (length the.redelivery) the.cursor
      (λ p. among ws (here + held_in e 0 + 1) 2 n p))
      ≡ (distinct eqb (positions ++ the.redelivery) && all (λ (p : ℕ). ltb p the.cursor) (positions ++ the.redelivery)))
      (length-map the.in_flight (λ (x : Held). x.position))
      (fresh_lists ws (here + held_in e 0 + 1) 2 (here + 174) 1 the.cursor positions the.redelivery position_spell queue_spell))
      ∙ sym (and_assoc (all (λ (x : Held). member x.holder the.attached) the.in_flight) (distinct eqb (positions ++ the.redelivery))
      (all (λ (p : ℕ). ltb p the.cursor) (positions ++ the.redelivery))))
