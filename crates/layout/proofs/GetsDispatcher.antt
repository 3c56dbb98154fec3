-- What each word of a dispatcher says of the state that a store decodes to, by offset: its head, its ring, its outside ids,
-- its queue, what is in flight, its marks.
use mathlib.Core.Path.{◌≡◌, subst}
use mathlib.Core.List.{List}
use Prim.Native.Nat.{ℕ, ◌+◌, ◌<◌}
use native.Mathlib.Nat.{add-zero}
use native.Mathlib.Omega.{arith}
use lib.ListN.{length, get_or}
use Rattle.words.specs.Codec.{Codec, word, bit}
use Rattle.words.specs.Field.{Reads}
use Rattle.words.proofs.Each.{all_get_d}
use Rattle.words.proofs.Field.{reads_flag}
use Rattle.words.proofs.Lists.{reads_count}
use Rattle.words.proofs.Entries.{reads_entry}
use Rattle.rules.specs.State.{Mark, Dispatcher, new_mark}
use Rattle.layout.specs.Records.{id_codec, mark_codec, held_codec, dispatcher_codec}
use Rattle.layout.specs.Layout.{decode}
use Rattle.layout.specs.Whole.{ShapedDispatcher}
use Rattle.layout.specs.Canon.{CanonStore}
use Rattle.layout.specs.Offsets.{dispatcher_at, ring_in, outside_in, outside_id_in, queue_in, flight_in, held_in, marks_in, mark_in}
use Rattle.layout.specs.Fields.{zero_id, zero_held, zero_dispatcher, set_dispatcher, dispatcher_now}
use Rattle.layout.proofs.Store.{canon_entries}
use Rattle.layout.proofs.Part.{Part, part_in, reads_part, reads_one}
use Rattle.layout.proofs.Parts.{ledger_part, entry_part, w0_part, w1_part, w2_part, w3_part, complete_part, count_part, bits_part, holder_part, position_part, topic_part, subscription_part, dispatcher_pair_part, next_part, cursor_part, mark_delete_part, total_part, ring_part, outside_part, queue_part, flight_part, marks_part, outside_id_part, held_part, mark_part}
use Rattle.layout.proofs.Spot.{Spot, spot_in, looks, reads_field, dispatcher_spot}

module _ {e : ℕ} {ws : List ℕ} (h : CanonStore e ws) (d : ℕ) (k : d < length (decode ws).dispatchers) where
  -- where it stands
  pub dispatcher_here : Spot e (decode ws) (dispatcher_at e d) (dispatcher_codec e) (dispatcher_now ws d) (set_dispatcher (decode ws) d)
  dispatcher_here = dispatcher_spot e (decode ws) d k h.shaped.dispatchers_fit

  -- its lists fit
  pub dispatcher_short : ShapedDispatcher e (dispatcher_now ws d)
  dispatcher_short =
      subst (λ (n : ℕ). ShapedDispatcher n (dispatcher_now ws d)) (canon_entries h)
      (all_get_d (ShapedDispatcher (decode ws).entries) (decode ws).dispatchers d zero_dispatcher h.shaped.each_dispatcher k)

  -- a field of one word
  read_one : {n v : ℕ} {f : ℕ → Dispatcher} → Part (dispatcher_codec e) (dispatcher_now ws d) n word v f
      → get_or ws (dispatcher_at e d + n) 0 ≡ v
  read_one p = reads_field h (spot_in dispatcher_here p)

  module _ {B : Type 0} {c : Codec B} {n : ℕ} {b : B} {f : B → Dispatcher}
      (p : Part (dispatcher_codec e) (dispatcher_now ws d) n c b f) where
    -- the first word of a part
    read_first : {v : ℕ} → Reads c b 0 v → get_or ws (dispatcher_at e d + n) 0 ≡ v
    read_first r = looks h dispatcher_here (dispatcher_at e d + n) (omega arith) (reads_part p r)

    -- another word of it
    read_in : {j v : ℕ} → Reads c b j v → get_or ws (dispatcher_at e d + n + j) 0 ≡ v
    read_in {j} r = looks h dispatcher_here (dispatcher_at e d + n + j) (omega arith) (reads_part p r)

  -- ---- the head

  -- the topic
  pub read_dispatcher_topic : get_or ws (dispatcher_at e d) 0 ≡ (dispatcher_now ws d).pair.topic
  read_dispatcher_topic =
      looks h dispatcher_here (dispatcher_at e d) (add-zero (dispatcher_at e d))
      (reads_one (part_in (dispatcher_pair_part e (dispatcher_now ws d)) (topic_part _)))

  -- the subscription
  pub read_dispatcher_subscription : get_or ws (dispatcher_at e d + 1) 0 ≡ (dispatcher_now ws d).pair.subscription
  read_dispatcher_subscription = read_one (part_in (dispatcher_pair_part e _) (subscription_part _))

  -- the next slot of the ring
  pub read_next : get_or ws (dispatcher_at e d + 2) 0 ≡ (dispatcher_now ws d).next
  read_next = read_one (next_part e _)

  -- the cursor
  pub read_cursor : get_or ws (dispatcher_at e d + 3) 0 ≡ (dispatcher_now ws d).cursor
  read_cursor = read_one (cursor_part e _)

  -- mark-delete
  pub read_mark_delete : get_or ws (dispatcher_at e d + 4) 0 ≡ (dispatcher_now ws d).mark_delete
  read_mark_delete = read_one (mark_delete_part e _)

  -- the total of permits
  pub read_total : get_or ws (dispatcher_at e d + 5) 0 ≡ (dispatcher_now ws d).total_available_permits
  read_total = read_one (total_part e _)

  -- ---- the counts of its lists

  -- how many ring ids
  pub read_ring_count : get_or ws (dispatcher_at e d + ring_in) 0 ≡ length (dispatcher_now ws d).attached
  read_ring_count = read_first (ring_part e _) (reads_count word 32 (dispatcher_now ws d).attached dispatcher_short.ring_fits)

  -- how many outside ids
  pub read_outside_count : get_or ws (dispatcher_at e d + outside_in) 0 ≡ length (dispatcher_now ws d).outside
  read_outside_count =
      read_first (outside_part e _) (reads_count id_codec 64 (dispatcher_now ws d).outside dispatcher_short.outside_fits)

  -- how many queued positions
  pub read_queue_count : get_or ws (dispatcher_at e d + queue_in) 0 ≡ length (dispatcher_now ws d).redelivery
  read_queue_count =
      read_first (queue_part e _) (reads_count word e (dispatcher_now ws d).redelivery dispatcher_short.queue_fits)

  -- how many entries in flight
  pub read_flight_count : get_or ws (dispatcher_at e d + flight_in e) 0 ≡ length (dispatcher_now ws d).in_flight
  read_flight_count =
      read_first (flight_part e _) (reads_count held_codec e (dispatcher_now ws d).in_flight dispatcher_short.flight_fits)

  -- how many marks
  pub read_mark_count : get_or ws (dispatcher_at e d + marks_in e) 0 ≡ length (dispatcher_now ws d).marks
  read_mark_count =
      read_first (marks_part e _) (reads_count mark_codec e (dispatcher_now ws d).marks dispatcher_short.marks_fit)

  -- ---- the elements of its lists

  -- ring id j
  pub read_ring : (j : ℕ) → j < length (dispatcher_now ws d).attached
      → get_or ws (dispatcher_at e d + 12 + j) 0 ≡ get_or (dispatcher_now ws d).attached j 0
  read_ring j l =
      looks h dispatcher_here (dispatcher_at e d + 12 + j) (omega arith)
      (reads_part (ring_part e (dispatcher_now ws d)) (reads_entry 32 (dispatcher_now ws d).attached j l dispatcher_short.ring_fits))

  -- queued position j
  pub read_queue : (j : ℕ) → j < length (dispatcher_now ws d).redelivery
      → get_or ws (dispatcher_at e d + 174 + j) 0 ≡ get_or (dispatcher_now ws d).redelivery j 0
  read_queue j l =
      looks h dispatcher_here (dispatcher_at e d + 174 + j) (omega arith)
      (reads_part (queue_part e (dispatcher_now ws d)) (reads_entry e (dispatcher_now ws d).redelivery j l dispatcher_short.queue_fits))

  module _ (j : ℕ) (l : j < length (dispatcher_now ws d).outside) where
    -- the ledger of outside id j
    pub read_outside_ledger : get_or ws (dispatcher_at e d + outside_id_in j) 0 ≡ (get_or (dispatcher_now ws d).outside j zero_id).ledger
    read_outside_ledger =
        read_first (outside_id_part e _ j l dispatcher_short.outside_fits) (reads_one (ledger_part _))

    -- the entry of outside id j
    pub read_outside_entry : get_or ws (dispatcher_at e d + outside_id_in j + 1) 0 ≡ (get_or (dispatcher_now ws d).outside j zero_id).entry
    read_outside_entry =
        read_in (outside_id_part e _ j l dispatcher_short.outside_fits) (reads_one (entry_part _))

  module _ (j : ℕ) (l : j < length (dispatcher_now ws d).in_flight) where
    -- the holder of entry j in flight
    pub read_holder : get_or ws (dispatcher_at e d + held_in e j) 0 ≡ (get_or (dispatcher_now ws d).in_flight j zero_held).holder
    read_holder = read_first (held_part e _ j l dispatcher_short.flight_fits) (reads_one (holder_part _))

    -- the position of entry j in flight
    pub read_position : get_or ws (dispatcher_at e d + held_in e j + 1) 0 ≡ (get_or (dispatcher_now ws d).in_flight j zero_held).position
    read_position = read_in (held_part e _ j l dispatcher_short.flight_fits) (reads_one (position_part _))

  module _ (m : ℕ) (l : m < length (dispatcher_now ws d).marks) where
    -- 1 for complete, 0 for not
    pub read_mark_complete : get_or ws (dispatcher_at e d + mark_in e m) 0
        ≡ bit (get_or (dispatcher_now ws d).marks m new_mark).acked.complete
    read_mark_complete =
        read_first (mark_part e _ m l dispatcher_short.marks_fit)
        (reads_part (complete_part (get_or (dispatcher_now ws d).marks m new_mark))
        (reads_flag (get_or (dispatcher_now ws d).marks m new_mark).acked.complete))

    read_mark : {n v : ℕ} {f : ℕ → Mark} → Part mark_codec (get_or (dispatcher_now ws d).marks m new_mark) n word v f
        → get_or ws (dispatcher_at e d + mark_in e m + n) 0 ≡ v
    read_mark p = read_in (mark_part e _ m l dispatcher_short.marks_fit) (reads_one p)

    -- the redelivery count of mark m
    pub read_redelivery_count : get_or ws (dispatcher_at e d + mark_in e m + 1) 0
        ≡ (get_or (dispatcher_now ws d).marks m new_mark).redelivery_count
    read_redelivery_count = read_mark (count_part _)

    -- the four words of its bits
    pub read_w0 : get_or ws (dispatcher_at e d + mark_in e m + 2) 0 ≡ (get_or (dispatcher_now ws d).marks m new_mark).acked.unacked.w0
    read_w0 = read_mark (part_in (bits_part _) (w0_part _))

    -- the second
    pub read_w1 : get_or ws (dispatcher_at e d + mark_in e m + 3) 0 ≡ (get_or (dispatcher_now ws d).marks m new_mark).acked.unacked.w1
    read_w1 = read_mark (part_in (bits_part _) (w1_part _))

    -- the third
    pub read_w2 : get_or ws (dispatcher_at e d + mark_in e m + 4) 0 ≡ (get_or (dispatcher_now ws d).marks m new_mark).acked.unacked.w2
    read_w2 = read_mark (part_in (bits_part _) (w2_part _))

    -- the fourth
    pub read_w3 : get_or ws (dispatcher_at e d + mark_in e m + 5) 0 ≡ (get_or (dispatcher_now ws d).marks m new_mark).acked.unacked.w3
    read_w3 = read_mark (part_in (bits_part _) (w3_part _))
