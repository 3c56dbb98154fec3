-- What each word of a store says of the state it decodes to, by offset: the switches, the counts of the tables, and every
-- field of a consumer, of a message and of a dispatcher. The store need only be spelt as it should be; it need not be valid.
use mathlib.Core.Path.{◌≡◌, refl, subst}
use mathlib.Core.List.{List}
use Prim.Native.Nat.{ℕ, ◌+◌, ◌≤◌, ◌<◌}
use native.Mathlib.Nat.{add-zero}
use native.Mathlib.Omega.{arith}
use lib.ListN.{length, get_or, set}
use Rattle.words.specs.Codec.{word, bit}
use Rattle.words.specs.Field.{Reads}
use Rattle.words.proofs.Each.{all_get_d}
use Rattle.words.proofs.Field.{reads_left, reads_via}
use Rattle.words.proofs.Lists.{reads_count}
use Rattle.words.proofs.Entries.{reads_entry}
use Rattle.rules.specs.State.{Consumer}
use Rattle.rules.specs.Ledger.{no_message}
use Rattle.layout.specs.Records.{message_codec, flag_of, consumer_codec, topic_codec, dispatcher_codec}
use Rattle.layout.specs.Layout.{header_codec, header_of, decode}
use Rattle.layout.specs.Whole.{as_state, state_codec, ShapedTopic, ShapedConsumer}
use Rattle.layout.specs.Canon.{CanonStore}
use Rattle.layout.specs.Offsets.{consumer_count_at, consumer_at, topic_count_at, topic_at, message_in, dispatcher_count_at}
use Rattle.layout.specs.Fields.{zero_consumer, zero_topic, set_consumer, set_topic, with_messages, consumer_now, topic_now}
use Rattle.layout.proofs.Header.{reads_leak, reads_noop}
use Rattle.layout.proofs.Store.{canon_entries}
use Rattle.layout.proofs.Part.{Part, part_in, reads_part, reads_one}
use Rattle.layout.proofs.Parts.{ledger_part, entry_part, message_id_part, handle_part, batch_part, topic_part, subscription_part, reads_kind, id_part, consumer_pair_part, kind_part, permits_part, consumer_cursor_part, nacked_part, number_part, messages_part, message_part}
use Rattle.layout.proofs.Spot.{Spot, spot_in, state_reads, looks, reads_field, consumers_spot, topics_spot, dispatchers_spot, consumer_spot, topic_spot}

module _ {e : ℕ} {ws : List ℕ} (h : CanonStore e ws) where
  -- ---- the header

  -- a word of it
  pub read_header : {off v : ℕ} → Reads header_codec (header_of (decode ws)) off v → get_or ws off 0 ≡ v
  unfolding state_codec
  read_header r = state_reads h (reads_via (as_state e) (reads_left _ _ r))

  -- the leak switch
  pub read_leak : get_or ws 2 0 ≡ bit (decode ws).leak_shared_permits_on_churn
  read_leak = read_header (reads_leak (header_of (decode ws)))

  -- the no-op switch
  pub read_noop : get_or ws 3 0 ≡ bit (decode ws).live_id_subscribe_is_noop
  read_noop = read_header (reads_noop (header_of (decode ws)))

  -- ---- the counts of the tables

  -- how many consumers
  pub read_consumer_count : get_or ws consumer_count_at 0 ≡ length (decode ws).consumers
  read_consumer_count =
      looks h (consumers_spot e (decode ws)) consumer_count_at refl
      (reads_count consumer_codec 32 (decode ws).consumers h.shaped.consumers_fit)

  -- how many topics
  pub read_topic_count : get_or ws topic_count_at 0 ≡ length (decode ws).topics
  read_topic_count =
      looks h (topics_spot e (decode ws)) topic_count_at refl (reads_count (topic_codec e) 8 (decode ws).topics h.shaped.topics_fit)

  -- how many dispatchers
  pub read_dispatcher_count : get_or ws (dispatcher_count_at e) 0 ≡ length (decode ws).dispatchers
  read_dispatcher_count =
      looks h (dispatchers_spot e (decode ws)) (dispatcher_count_at e) (omega arith)
      (reads_count (dispatcher_codec e) 8 (decode ws).dispatchers h.shaped.dispatchers_fit)

  -- ---- a consumer

  module _ (i : ℕ) (k : i < length (decode ws).consumers) where
    -- where it stands
    pub consumer_here : Spot e (decode ws) (consumer_at i) consumer_codec (consumer_now ws i) (set_consumer (decode ws) i)
    consumer_here = consumer_spot e (decode ws) i k h.shaped.consumers_fit

    -- its list fits
    pub nacked_short : length (consumer_now ws i).nacked ≤ 64
    nacked_short = all_get_d ShapedConsumer (decode ws).consumers i zero_consumer h.shaped.each_consumer k

    read_consumer : {n v : ℕ} {f : ℕ → Consumer} → Part consumer_codec (consumer_now ws i) n word v f → get_or ws (consumer_at i + n) 0 ≡ v
    read_consumer p = reads_field h (spot_in consumer_here p)

    -- its id
    pub read_consumer_id : get_or ws (consumer_at i) 0 ≡ (consumer_now ws i).id
    read_consumer_id = looks h consumer_here (consumer_at i) (add-zero (consumer_at i)) (reads_one (id_part (consumer_now ws i)))

    -- its topic
    pub read_consumer_topic : get_or ws (consumer_at i + 1) 0 ≡ (consumer_now ws i).pair.topic
    read_consumer_topic = read_consumer (part_in (consumer_pair_part _) (topic_part _))

    -- its subscription
    pub read_consumer_subscription : get_or ws (consumer_at i + 2) 0 ≡ (consumer_now ws i).pair.subscription
    read_consumer_subscription = read_consumer (part_in (consumer_pair_part _) (subscription_part _))

    -- 0 for plain, 1 for shared
    pub read_consumer_kind : get_or ws (consumer_at i + 3) 0 ≡ bit (flag_of (consumer_now ws i).kind)
    read_consumer_kind =
        looks h consumer_here (consumer_at i + 3) refl
        (reads_part (kind_part (consumer_now ws i)) (reads_kind (consumer_now ws i).kind))

    -- its permits
    pub read_consumer_permits : get_or ws (consumer_at i + 4) 0 ≡ (consumer_now ws i).permits
    read_consumer_permits = read_consumer (permits_part _)

    -- its cursor
    pub read_consumer_cursor : get_or ws (consumer_at i + 5) 0 ≡ (consumer_now ws i).cursor
    read_consumer_cursor = read_consumer (consumer_cursor_part _)

    -- how many nacked positions
    pub read_nacked_count : get_or ws (consumer_at i + 6) 0 ≡ length (consumer_now ws i).nacked
    read_nacked_count =
        looks h consumer_here (consumer_at i + 6) refl
        (reads_part (nacked_part (consumer_now ws i)) (reads_count word 64 (consumer_now ws i).nacked nacked_short))

    -- nacked position j
    pub read_nacked : (j : ℕ) → j < length (consumer_now ws i).nacked
        → get_or ws (consumer_at i + 7 + j) 0 ≡ get_or (consumer_now ws i).nacked j 0
    read_nacked j l =
        looks h consumer_here (consumer_at i + 7 + j) (omega arith)
        (reads_part (nacked_part (consumer_now ws i)) (reads_entry 64 (consumer_now ws i).nacked j l nacked_short))

  -- ---- a topic

  module _ (t : ℕ) (k : t < length (decode ws).topics) where
    -- where it stands
    pub topic_here : Spot e (decode ws) (topic_at e t) (topic_codec e) (topic_now ws t) (set_topic (decode ws) t)
    topic_here = topic_spot e (decode ws) t k h.shaped.topics_fit

    -- its ledger fits
    pub messages_short : length (topic_now ws t).messages ≤ e
    messages_short =
        subst (λ (n : ℕ). length (topic_now ws t).messages ≤ n) (canon_entries h)
        (all_get_d (ShapedTopic (decode ws).entries) (decode ws).topics t zero_topic h.shaped.each_topic k)

    -- its number
    pub read_topic_number : get_or ws (topic_at e t) 0 ≡ (topic_now ws t).number
    read_topic_number =
        looks h topic_here (topic_at e t) (add-zero (topic_at e t)) (reads_one (number_part e (topic_now ws t)))

    -- how many messages
    pub read_message_count : get_or ws (topic_at e t + 3) 0 ≡ length (topic_now ws t).messages
    read_message_count =
        looks h topic_here (topic_at e t + 3) refl
        (reads_part (messages_part e (topic_now ws t)) (reads_count message_codec e (topic_now ws t).messages messages_short))

    module _ (m : ℕ) (l : m < length (topic_now ws t).messages) where
      -- where the message stands
      pub message_here :
          Part (topic_codec e) (topic_now ws t) (message_in m) message_codec (get_or (topic_now ws t).messages m no_message)
          (λ x. with_messages (topic_now ws t) (set (topic_now ws t).messages m x))
      message_here = message_part e (topic_now ws t) m l messages_short

      read_message : {j v : ℕ} → Reads message_codec (get_or (topic_now ws t).messages m no_message) j v
          → get_or ws (topic_at e t + message_in m + j) 0 ≡ v
      read_message {j} r = looks h topic_here (topic_at e t + message_in m + j) (omega arith) (reads_part message_here r)

      -- the ledger of the message's id
      pub read_message_ledger : get_or ws (topic_at e t + message_in m) 0 ≡ (get_or (topic_now ws t).messages m no_message).id.ledger
      read_message_ledger =
          looks h topic_here (topic_at e t + message_in m) (omega arith)
          (reads_part message_here (reads_one (part_in (message_id_part _) (ledger_part _))))

      -- the entry of the message's id
      pub read_message_entry : get_or ws (topic_at e t + message_in m + 1) 0 ≡ (get_or (topic_now ws t).messages m no_message).id.entry
      read_message_entry = read_message (reads_one (part_in (message_id_part _) (entry_part _)))

      -- its handle
      pub read_message_handle : get_or ws (topic_at e t + message_in m + 2) 0 ≡ (get_or (topic_now ws t).messages m no_message).handle
      read_message_handle = read_message (reads_one (handle_part _))

      -- its batch size
      pub read_message_batch : get_or ws (topic_at e t + message_in m + 3) 0 ≡ (get_or (topic_now ws t).messages m no_message).batch_size
      read_message_batch = read_message (reads_one (batch_part _))
