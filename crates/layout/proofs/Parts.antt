-- The parts of each record: where every field and every list stands in the record's words. Each gives both how the field is
-- read and how it is written.
use mathlib.Core.Path.{◌≡◌, refl}
use Prim.Native.Nat.{ℕ, ◌≤◌, ◌<◌}
use native.Mathlib.Omega.{arith}
use lib.ListN.{length, get_or, set}
use Rattle.words.specs.Codec.{word, pair, via, flag, asFlag, upto, bit}
use Rattle.words.specs.Field.{Reads}
use Rattle.words.proofs.Width.{width_word, width_flag, width_zeros, width_pair, width_upto}
use Rattle.words.proofs.Field.{reads_via, reads_flag}
use Rattle.bits.specs.declared.UnackedBits.{UnackedBits}
use Rattle.rules.specs.State.{Id, StoredMessage, Topic, Pair, Kind, Consumer, Mark, Held, Dispatcher, new_mark}
use Rattle.rules.specs.Ledger.{no_message}
use Rattle.rules.specs.Dispatcher.{with_attached, with_next, with_cursor, with_mark_delete, with_total, with_places, with_marks}
use Rattle.rules.specs.Commands.{with_permits, with_reading}
use Rattle.layout.specs.Records.{as_id, id_codec, as_message, message_codec, as_bits, bits_codec, as_mark, mark_codec, as_held, held_codec, as_pair, pair_codec, flag_of, as_kind, kind_codec, as_consumer, consumer_codec, as_topic, topic_codec, as_dispatcher, dispatcher_codec}
use Rattle.layout.specs.Offsets.{message_in, ring_in, outside_in, outside_id_in, queue_in, flight_in, held_in, marks_in, mark_in}
use Rattle.layout.specs.Fields.{zero_id, zero_held, with_id, with_pair, with_kind, of_topic, of_subscription, with_number, with_messages, for_pair, with_complete, with_count, with_bits}
use Rattle.layout.proofs.Widths.{width_id, width_message, width_mark, width_held, width_of_pair, width_kind, width_numbers}
use Rattle.layout.proofs.Part.{Part, part_at, part_in, first, second, in_first, beyond, by_change, nth}

-- ---- ids, messages, bits, marks, entries in flight, pairs

-- an id's ledger
pub ledger_part : (i : Id) → Part id_codec i 0 word i.ledger (λ v. record { ledger = v; entry = i.entry })
unfolding id_codec
ledger_part i = by_change as_id (λ y. refl) (first _ _)

-- an id's entry
pub entry_part : (i : Id) → Part id_codec i 1 word i.entry (λ v. record { ledger = i.ledger; entry = v })
unfolding id_codec
entry_part i = by_change as_id (λ y. refl) (second _ _ width_word)

-- a message's id
pub message_id_part : (m : StoredMessage)
    → Part message_codec m 0 id_codec m.id (λ v. record { id = v; handle = m.handle; batch_size = m.batch_size })
unfolding message_codec
message_id_part m = by_change as_message (λ y. refl) (first _ _)

-- a message's handle
pub handle_part : (m : StoredMessage)
    → Part message_codec m 2 word m.handle (λ v. record { id = m.id; handle = v; batch_size = m.batch_size })
unfolding message_codec
handle_part m = by_change as_message (λ y. refl) (beyond _ _ width_id (first _ _))

-- a message's batch size
pub batch_part : (m : StoredMessage)
    → Part message_codec m 3 word m.batch_size (λ v. record { id = m.id; handle = m.handle; batch_size = v })
unfolding message_codec
batch_part m = by_change as_message (λ y. refl) (beyond _ _ width_id (second _ _ width_word))

-- the first word of bits
pub w0_part : (b : UnackedBits) → Part bits_codec b 0 word b.w0 (λ v. record { w0 = v; w1 = b.w1; w2 = b.w2; w3 = b.w3 })
unfolding bits_codec
w0_part b = by_change as_bits (λ y. refl) (in_first _ _ (first _ _))

-- the second
pub w1_part : (b : UnackedBits) → Part bits_codec b 1 word b.w1 (λ v. record { w0 = b.w0; w1 = v; w2 = b.w2; w3 = b.w3 })
unfolding bits_codec
w1_part b = by_change as_bits (λ y. refl) (in_first _ _ (second _ _ width_word))

-- the third
pub w2_part : (b : UnackedBits) → Part bits_codec b 2 word b.w2 (λ v. record { w0 = b.w0; w1 = b.w1; w2 = v; w3 = b.w3 })
unfolding bits_codec
w2_part b = by_change as_bits (λ y. refl) (beyond _ _ (width_pair _ _ width_word width_word) (first _ _))

-- the fourth
pub w3_part : (b : UnackedBits) → Part bits_codec b 3 word b.w3 (λ v. record { w0 = b.w0; w1 = b.w1; w2 = b.w2; w3 = v })
unfolding bits_codec
w3_part b = by_change as_bits (λ y. refl) (beyond _ _ (width_pair _ _ width_word width_word) (second _ _ width_word))

-- a mark's complete flag
pub complete_part : (m : Mark) → Part mark_codec m 0 flag m.acked.complete (with_complete m)
unfolding mark_codec with_complete
complete_part m = by_change as_mark (λ y. refl) (first _ _)

-- a mark's redelivery count
pub count_part : (m : Mark) → Part mark_codec m 1 word m.redelivery_count (with_count m)
unfolding mark_codec with_count
count_part m = by_change as_mark (λ y. refl) (beyond _ _ width_flag (first _ _))

-- a mark's bits
pub bits_part : (m : Mark) → Part mark_codec m 2 bits_codec m.acked.unacked (with_bits m)
unfolding mark_codec with_bits
bits_part m = by_change as_mark (λ y. refl) (beyond _ _ width_flag (second _ _ width_word))

-- the holder of an entry in flight
pub holder_part : (h : Held) → Part held_codec h 0 word h.holder (λ v. record { holder = v; position = h.position })
unfolding held_codec
holder_part h = by_change as_held (λ y. refl) (first _ _)

-- the position of an entry in flight
pub position_part : (h : Held) → Part held_codec h 1 word h.position (λ v. record { holder = h.holder; position = v })
unfolding held_codec
position_part h = by_change as_held (λ y. refl) (second _ _ width_word)

-- a pair's topic
pub topic_part : (p : Pair) → Part pair_codec p 0 word p.topic (of_topic p)
unfolding pair_codec of_topic
topic_part p = by_change as_pair (λ y. refl) (first _ _)

-- a pair's subscription
pub subscription_part : (p : Pair) → Part pair_codec p 1 word p.subscription (of_subscription p)
unfolding pair_codec of_subscription
subscription_part p = by_change as_pair (λ y. refl) (second _ _ width_word)

-- a kind's word
pub reads_kind : (k : Kind) → Reads kind_codec k 0 (bit (flag_of k))
unfolding kind_codec flag asFlag via
reads_kind k = reads_via as_kind (reads_flag (flag_of k))

-- ---- consumers

module _ (c : Consumer) where
  -- the id
  pub id_part : Part consumer_codec c 0 word c.id (with_id c)
  unfolding consumer_codec with_id
  id_part = by_change as_consumer (λ y. refl) (first _ _)

  -- the pair
  pub consumer_pair_part : Part consumer_codec c 1 pair_codec c.pair (with_pair c)
  unfolding consumer_codec with_pair
  consumer_pair_part = by_change as_consumer (λ y. refl) (beyond _ _ width_word (first _ _))

  -- the kind
  pub kind_part : Part consumer_codec c 3 kind_codec c.kind (with_kind c)
  unfolding consumer_codec with_kind
  kind_part = by_change as_consumer (λ y. refl) (beyond _ _ width_word (beyond _ _ width_of_pair (first _ _)))

  -- the permits
  pub permits_part : Part consumer_codec c 4 word c.permits (with_permits c)
  unfolding consumer_codec with_permits
  permits_part =
      by_change as_consumer (λ y. refl)
      (beyond _ _ width_word (beyond _ _ width_of_pair (beyond _ _ width_kind (first _ _))))

  -- the cursor
  pub consumer_cursor_part : Part consumer_codec c 5 word c.cursor (λ v. with_reading c v c.nacked)
  unfolding consumer_codec with_reading
  consumer_cursor_part =
      by_change as_consumer (λ y. refl)
      (beyond _ _ width_word (beyond _ _ width_of_pair (beyond _ _ width_kind (beyond _ _ width_word (first _ _)))))

  -- the nacked positions
  pub nacked_part : Part consumer_codec c 6 (upto word 64) c.nacked (with_reading c c.cursor)
  unfolding consumer_codec with_reading
  nacked_part =
      by_change as_consumer (λ y. refl)
      (beyond _ _ width_word
      (beyond _ _ width_of_pair (beyond _ _ width_kind (beyond _ _ width_word (beyond _ _ width_word (first _ _))))))

-- ---- topics

module _ (e : ℕ) (t : Topic) where
  -- the number
  pub number_part : Part (topic_codec e) t 0 word t.number (with_number t)
  unfolding topic_codec with_number
  number_part = by_change (as_topic e) (λ y. refl) (first _ _)

  -- the messages
  pub messages_part : Part (topic_codec e) t 3 (upto message_codec e) t.messages (with_messages t)
  unfolding topic_codec with_messages
  messages_part = by_change (as_topic e) (λ y. refl) (beyond _ _ width_word (second _ _ (width_zeros 2)))

  -- message k
  pub message_part : (k : ℕ) → k < length t.messages → length t.messages ≤ e
      → Part (topic_codec e) t (message_in k) message_codec (get_or t.messages k no_message) (λ m. with_messages t (set t.messages k m))
  message_part k h l =
      part_at (omega arith) (part_in messages_part (nth message_codec width_message e t.messages k no_message h l))

-- ---- dispatchers

width_numbers_four : (pair (pair word word) (pair word word)).width ≡ 4
width_numbers_four = width_pair _ _ (width_pair _ _ width_word width_word) (width_pair _ _ width_word width_word)

module _ (e : ℕ) (d : Dispatcher) where
  -- the pair
  pub dispatcher_pair_part : Part (dispatcher_codec e) d 0 pair_codec d.pair (for_pair d)
  unfolding dispatcher_codec for_pair
  dispatcher_pair_part = by_change (as_dispatcher e) (λ y. refl) (first _ _)

  -- the next slot of the ring
  pub next_part : Part (dispatcher_codec e) d 2 word d.next (with_next d)
  unfolding dispatcher_codec with_next
  next_part =
      by_change (as_dispatcher e) (λ y. refl) (beyond _ _ width_of_pair (in_first _ _ (in_first _ _ (first _ _))))

  -- the cursor
  pub cursor_part : Part (dispatcher_codec e) d 3 word d.cursor (with_cursor d)
  unfolding dispatcher_codec with_cursor
  cursor_part =
      by_change (as_dispatcher e) (λ y. refl)
      (beyond _ _ width_of_pair (in_first _ _ (in_first _ _ (second _ _ width_word))))

  -- mark-delete
  pub mark_delete_part : Part (dispatcher_codec e) d 4 word d.mark_delete (with_mark_delete d)
  unfolding dispatcher_codec with_mark_delete
  mark_delete_part =
      by_change (as_dispatcher e) (λ y. refl)
      (beyond _ _ width_of_pair (in_first _ _ (beyond _ _ (width_pair _ _ width_word width_word) (first _ _))))

  -- the total of permits
  pub total_part : Part (dispatcher_codec e) d 5 word d.total_available_permits (with_total d)
  unfolding dispatcher_codec with_total
  total_part =
      by_change (as_dispatcher e) (λ y. refl)
      (beyond _ _ width_of_pair (in_first _ _ (beyond _ _ (width_pair _ _ width_word width_word) (second _ _ width_word))))

  -- the ring
  pub ring_part : Part (dispatcher_codec e) d ring_in (upto word 32) d.attached (with_attached d)
  unfolding dispatcher_codec with_attached
  ring_part =
      by_change (as_dispatcher e) (λ y. refl)
      (beyond _ _ width_of_pair (beyond _ _ width_numbers_four (beyond _ _ (width_zeros 5) (first _ _))))

  -- the outside ids
  pub outside_part : Part (dispatcher_codec e) d outside_in (upto id_codec 64) d.outside (with_marks d d.marks)
  unfolding dispatcher_codec with_marks
  outside_part =
      by_change (as_dispatcher e) (λ y. refl)
      (beyond _ _ width_of_pair
      (beyond _ _ width_numbers_four (beyond _ _ (width_zeros 5) (beyond _ _ (width_numbers 32) (first _ _)))))

  -- the queue
  pub queue_part : Part (dispatcher_codec e) d queue_in (upto word e) d.redelivery (λ l. with_places d l d.in_flight)
  unfolding dispatcher_codec with_places
  queue_part =
      by_change (as_dispatcher e) (λ y. refl)
      (beyond _ _ width_of_pair
      (beyond _ _ width_numbers_four
      (beyond _ _ (width_zeros 5)
      (beyond _ _ (width_numbers 32) (beyond _ _ (width_upto id_codec 64 width_id) (first _ _))))))

  -- what is in flight
  pub flight_part : Part (dispatcher_codec e) d (flight_in e) (upto held_codec e) d.in_flight (with_places d d.redelivery)
  unfolding dispatcher_codec with_places
  flight_part =
      part_at (omega arith)
      (by_change (as_dispatcher e) (λ y. refl)
      (beyond _ _ width_of_pair
      (beyond _ _ width_numbers_four
      (beyond _ _ (width_zeros 5)
      (beyond _ _ (width_numbers 32)
      (beyond _ _ (width_upto id_codec 64 width_id) (beyond _ _ (width_numbers e) (first _ _))))))))

  -- the marks
  pub marks_part : Part (dispatcher_codec e) d (marks_in e) (upto mark_codec e) d.marks (λ l. with_marks d l d.outside)
  unfolding dispatcher_codec with_marks
  marks_part =
      part_at (omega arith)
      (by_change (as_dispatcher e) (λ y. refl)
      (beyond _ _ width_of_pair
      (beyond _ _ width_numbers_four
      (beyond _ _ (width_zeros 5)
      (beyond _ _ (width_numbers 32)
      (beyond _ _ (width_upto id_codec 64 width_id)
      (beyond _ _ (width_numbers e) (second _ _ (width_upto held_codec e width_held)))))))))

  -- outside id j
  pub outside_id_part : (j : ℕ) → j < length d.outside → length d.outside ≤ 64
      → Part (dispatcher_codec e) d (outside_id_in j) id_codec (get_or d.outside j zero_id)
      (λ i. with_marks d d.marks (set d.outside j i))
  outside_id_part j h l = part_at (omega arith) (part_in outside_part (nth id_codec width_id 64 d.outside j zero_id h l))

  -- entry j in flight
  pub held_part : (j : ℕ) → j < length d.in_flight → length d.in_flight ≤ e
      → Part (dispatcher_codec e) d (held_in e j) held_codec (get_or d.in_flight j zero_held)
      (λ x. with_places d d.redelivery (set d.in_flight j x))
  held_part j h l = part_at (omega arith) (part_in flight_part (nth held_codec width_held e d.in_flight j zero_held h l))

  -- mark k
  pub mark_part : (k : ℕ) → k < length d.marks → length d.marks ≤ e
      → Part (dispatcher_codec e) d (mark_in e k) mark_codec (get_or d.marks k new_mark)
      (λ m. with_marks d (set d.marks k m) d.outside)
  mark_part k h l = part_at (omega arith) (part_in marks_part (nth mark_codec width_mark e d.marks k new_mark h l))
