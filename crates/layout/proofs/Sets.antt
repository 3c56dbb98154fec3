-- What writing a word, or a run of words, of a store does to the state it decodes to: the fields and the nacked positions of
-- a consumer, a topic's number and its messages, and the tables as wholes. Each write is a put of the changed state.
use mathlib.Core.Path.{◌≡◌, refl, sym, ap, ◌∙◌}
use mathlib.Core.List.{List, [], ◌∷◌, ◌++◌}
use Prim.Native.Nat.{ℕ, ◌+◌, ◌-◌, ◌*◌, ◌≤◌, ◌<◌}
use native.Mathlib.Nat.{add-zero}
use native.Mathlib.Omega.{arith}
use lib.ListN.{length, set, take, drop, replicate}
use Rattle.words.specs.Act.{store, lay, clear, both, up, close}
use Rattle.words.specs.Codec.{word, zeros, pair, via, flag, asFlag, upto, spell, bit}
use Rattle.words.specs.Words.{fit}
use Rattle.words.specs.Field.{Writes}
use Rattle.words.proofs.Field.{writes_via, writes_flag}
use Rattle.words.proofs.Lists.{writes_append, writes_insert, writes_remove}
use Rattle.words.proofs.Entries.{appends_entry}
use Rattle.rules.specs.State.{StoredMessage, Pair, Kind, Consumer, Dispatcher, with_topics, with_consumers, with_dispatchers}
use Rattle.rules.specs.Ledger.{appended}
use Rattle.rules.specs.Commands.{with_permits, with_reading}
use Rattle.layout.specs.Records.{id_codec, message_codec, pair_codec, flag_of, as_kind, kind_codec, consumer_codec, dispatcher_codec}
use Rattle.layout.specs.Layout.{decode, put}
use Rattle.layout.specs.Canon.{CanonStore}
use Rattle.layout.specs.Offsets.{consumer_count_at, consumer_at, topic_count_at, topic_at, message_in, dispatcher_count_at, dispatcher_at}
use Rattle.layout.specs.Fields.{zero_topic, zero_dispatcher, with_id, with_pair, with_kind, of_topic, of_subscription, with_number, with_messages, consumer_now, put_consumer_at, put_topic_at, topic_now}
use Rattle.layout.proofs.Widths.{width_message, width_consumer, width_dispatcher}
use Rattle.layout.proofs.Part.{Part, part_in}
use Rattle.layout.proofs.Parts.{topic_part, subscription_part, id_part, consumer_pair_part, kind_part, permits_part, consumer_cursor_part, nacked_part, number_part, messages_part}
use Rattle.layout.proofs.Spot.{spot_in, spot_at, runs, writes_field, lists, raises, consumers_spot, topics_spot, dispatchers_spot}
use Rattle.layout.proofs.Blank.{blank_topic, blank_dispatcher, writes_raise, drops_entries, empties_entries}
use Rattle.layout.proofs.Gets.{consumer_here, nacked_short, topic_here}

-- ---- how records are spelt, word by word

-- a message
pub enc_message : (m : StoredMessage) → message_codec.enc m ≡ m.id.ledger ∷ m.id.entry ∷ m.handle ∷ m.batch_size ∷ []
unfolding message_codec id_codec via pair word
enc_message m = refl

-- a consumer with nothing nacked
pub enc_consumer : (i : ℕ) (p : Pair) (kind : Kind) (permits cursor : ℕ)
    → consumer_codec.enc (record { id = i; pair = p; kind = kind; permits = permits; cursor = cursor; nacked = [] })
    ≡ i ∷ p.topic ∷ p.subscription ∷ bit (flag_of kind) ∷ permits ∷ cursor ∷ replicate 66 0
unfolding consumer_codec pair_codec kind_codec flag asFlag via pair word zeros upto spell fit
enc_consumer i p kind permits cursor = refl

-- a kind's word is written
writes_kind : (k x : Kind) → Writes kind_codec k 0 (store (bit (flag_of x))) x
unfolding kind_codec flag asFlag via
writes_kind k x = writes_via as_kind (writes_flag (flag_of k) (flag_of x))

module _ {e : ℕ} {ws : List ℕ} (h : CanonStore e ws) where
  -- ---- the tables

  -- consumer x is put before consumer i: those from i on move up, x is laid in, the count is stored
  pub insert_consumer : (i : ℕ) (x : Consumer) → i ≤ length (decode ws).consumers → length (decode ws).consumers < 32
      → set ((both (up 72 ((length (decode ws).consumers - i) * 72)) (lay (consumer_codec.enc x))).run
      (consumer_at i) ws) consumer_count_at (length (decode ws).consumers + 1)
      ≡ put ws (with_consumers (decode ws) (take i (decode ws).consumers ++ x ∷ drop i (decode ws).consumers))
  insert_consumer i x k l =
      lists h (consumers_spot e (decode ws)) _ (i * 72) _ (writes_insert consumer_codec width_consumer 32 (decode ws).consumers i x k l)
      (consumer_at i) (omega arith)

  -- consumer i is taken out: those after it move down, the slot that they leave is cleared, the count is stored
  pub remove_consumer : (i : ℕ) → i < length (decode ws).consumers
      → set ((close 72 ((length (decode ws).consumers - (i + 1)) * 72)).run (consumer_at i) ws) consumer_count_at
      (length (decode ws).consumers - 1)
      ≡ put ws (with_consumers (decode ws) (take i (decode ws).consumers ++ drop (i + 1) (decode ws).consumers))
  remove_consumer i k =
      lists h (consumers_spot e (decode ws)) _ (i * 72) _
      (writes_remove consumer_codec width_consumer 32 (decode ws).consumers i k h.shaped.consumers_fit) (consumer_at i) (omega arith)

  -- one more topic, of zeros: the count is stored
  pub raise_topics : length (decode ws).topics < 8
      → set ws topic_count_at (length (decode ws).topics + 1) ≡ put ws (with_topics (decode ws) ((decode ws).topics ++ zero_topic ∷ []))
  raise_topics k =
      raises h (topics_spot e (decode ws)) (length (decode ws).topics + 1)
      (writes_raise (blank_topic e) 8 (decode ws).topics 1 (omega arith))

  -- one more dispatcher, of zeros: the count is stored
  pub raise_dispatchers : length (decode ws).dispatchers < 8
      → set ws (dispatcher_count_at e) (length (decode ws).dispatchers + 1)
      ≡ put ws (with_dispatchers (decode ws) ((decode ws).dispatchers ++ zero_dispatcher ∷ []))
  raise_dispatchers k =
      raises h (dispatchers_spot e (decode ws)) (length (decode ws).dispatchers + 1)
      (writes_raise (blank_dispatcher e) 8 (decode ws).dispatchers 1 (omega arith))

  -- one more dispatcher, laid in whole
  pub append_dispatcher : (x : Dispatcher) → length (decode ws).dispatchers < 8
      → set ((lay ((dispatcher_codec e).enc x)).run (dispatcher_at e (length (decode ws).dispatchers)) ws) (dispatcher_count_at e)
      (length (decode ws).dispatchers + 1)
      ≡ put ws (with_dispatchers (decode ws) ((decode ws).dispatchers ++ x ∷ []))
  append_dispatcher x k =
      lists h (dispatchers_spot e (decode ws)) _ _ _
      (writes_append (dispatcher_codec e) (width_dispatcher e) 8 (decode ws).dispatchers x k)
      (dispatcher_at e (length (decode ws).dispatchers)) (omega arith)

  -- ---- a consumer

  module _ (i : ℕ) (k : i < length (decode ws).consumers) where
    write_consumer : {n v : ℕ} {f : ℕ → Consumer} → Part consumer_codec (consumer_now ws i) n word v f
        → (x : ℕ) → set ws (consumer_at i + n) x ≡ put_consumer_at ws i (f x)
    write_consumer p x = writes_field h (spot_in (consumer_here h i k) p) x

    -- its id
    pub write_consumer_id : (x : ℕ) → set ws (consumer_at i) x ≡ put_consumer_at ws i (with_id (consumer_now ws i) x)
    write_consumer_id x = writes_field h (spot_at (add-zero (consumer_at i)) (spot_in (consumer_here h i k) (id_part _))) x

    -- its topic
    pub write_consumer_topic : (x : ℕ) → set ws (consumer_at i + 1) x
        ≡ put_consumer_at ws i (with_pair (consumer_now ws i) (of_topic (consumer_now ws i).pair x))
    write_consumer_topic x = write_consumer (part_in (consumer_pair_part _) (topic_part _)) x

    -- its subscription
    pub write_consumer_subscription : (x : ℕ) → set ws (consumer_at i + 2) x
        ≡ put_consumer_at ws i (with_pair (consumer_now ws i) (of_subscription (consumer_now ws i).pair x))
    write_consumer_subscription x = write_consumer (part_in (consumer_pair_part _) (subscription_part _)) x

    -- its kind, 0 for plain and 1 for shared
    pub write_consumer_kind : (x : Kind) → set ws (consumer_at i + 3) (bit (flag_of x))
        ≡ put_consumer_at ws i (with_kind (consumer_now ws i) x)
    unfolding store
    write_consumer_kind x =
        runs h (spot_in (consumer_here h i k) (kind_part _)) {act = store (bit (flag_of x))} (writes_kind (consumer_now ws i).kind x)

    -- its permits
    pub write_consumer_permits : (x : ℕ) → set ws (consumer_at i + 4) x
        ≡ put_consumer_at ws i (with_permits (consumer_now ws i) x)
    write_consumer_permits x = write_consumer (permits_part _) x

    -- its cursor
    pub write_consumer_cursor : (x : ℕ) → set ws (consumer_at i + 5) x
        ≡ put_consumer_at ws i (with_reading (consumer_now ws i) x (consumer_now ws i).nacked)
    write_consumer_cursor x = write_consumer (consumer_cursor_part _) x

    -- one more nacked position
    pub append_nacked : (x : ℕ) → length (consumer_now ws i).nacked < 64
        → set (set ws (consumer_at i + 7 + length (consumer_now ws i).nacked) x) (consumer_at i + 6)
        (length (consumer_now ws i).nacked + 1)
        ≡ put_consumer_at ws i (with_reading (consumer_now ws i) (consumer_now ws i).cursor ((consumer_now ws i).nacked ++ x ∷ []))
    unfolding store
    append_nacked x l =
        lists h (spot_in (consumer_here h i k) (nacked_part _)) (store x) _ _ (appends_entry 64 (consumer_now ws i).nacked x l)
        (consumer_at i + 7 + length (consumer_now ws i).nacked) (omega arith)

    -- the first n nacked positions are taken out
    pub drop_nacked : (n : ℕ) → n ≤ length (consumer_now ws i).nacked
        → set ((close n (length (consumer_now ws i).nacked - n)).run (consumer_at i + 7) ws) (consumer_at i + 6)
        (length (consumer_now ws i).nacked - n)
        ≡ put_consumer_at ws i (with_reading (consumer_now ws i) (consumer_now ws i).cursor (drop n (consumer_now ws i).nacked))
    drop_nacked n l =
        lists h (spot_in (consumer_here h i k) (nacked_part _)) (close n (length (consumer_now ws i).nacked - n)) 0 _
        (drops_entries 64 (consumer_now ws i).nacked n l (nacked_short h i k)) (consumer_at i + 7) (omega arith)

    -- all nacked positions are taken out
    pub clear_nacked :
        set ((clear (length (consumer_now ws i).nacked)).run (consumer_at i + 7) ws) (consumer_at i + 6) 0
        ≡ put_consumer_at ws i (with_reading (consumer_now ws i) (consumer_now ws i).cursor [])
    clear_nacked =
        lists h (spot_in (consumer_here h i k) (nacked_part _)) (clear (length (consumer_now ws i).nacked)) 0 _
        (empties_entries 64 (consumer_now ws i).nacked (nacked_short h i k)) (consumer_at i + 7) (omega arith)

  -- ---- a topic

  module _ (t : ℕ) (k : t < length (decode ws).topics) where
    -- its number
    pub write_topic_number : (x : ℕ) → set ws (topic_at e t) x ≡ put_topic_at ws t (with_number (topic_now ws t) x)
    write_topic_number x = writes_field h (spot_at (add-zero (topic_at e t)) (spot_in (topic_here h t k) (number_part e _))) x

    -- one more message
    pub append_message : (m : StoredMessage) → length (topic_now ws t).messages < e
        → set ((lay (m.id.ledger ∷ m.id.entry ∷ m.handle ∷ m.batch_size ∷ [])).run
        (topic_at e t + message_in (length (topic_now ws t).messages)) ws) (topic_at e t + 3) (length (topic_now ws t).messages + 1)
        ≡ put_topic_at ws t (appended m (topic_now ws t))
    unfolding appended with_messages
    append_message m l =
        ap (λ (vs : List ℕ). set ((lay vs).run (topic_at e t + message_in (length (topic_now ws t).messages)) ws) (topic_at e t + 3)
        (length (topic_now ws t).messages + 1)) (sym (enc_message m))
        ∙ lists h (spot_in (topic_here h t k) (messages_part e _)) (lay (message_codec.enc m)) _ _
        (writes_append message_codec width_message e (topic_now ws t).messages m l)
        (topic_at e t + message_in (length (topic_now ws t).messages)) (omega arith)
