-- Which states a store may spell: the rules under "What a store spells" of document 01, no more and no fewer, sentence by
-- sentence. A state that obeys them is one even where no call can reach it. `valid` computes; each record beside it says
-- the same as a proposition, and proofs/Valid.antt shows both directions.
use Rattle.std.specs.Prelude.{ℕ, ◌^◌, ◌≤◌, ◌<◌, ◌≡◌, Bool, true, false, cond, not, ◌&&◌, ◌||◌, eqb, leb, ltb, length, get_or}
use mathlib.Core.List.{List, [], ◌∷◌, ◌++◌, map, Memᴰ}
use Rattle.bits.specs.Bits.{bits_empty, bits_below}
use Rattle.bits.specs.Four.{words}
use Rattle.rules.specs.Permits.{least_permits, most_permits, least_total, most_total, total_in_range}
use Rattle.rules.specs.Table.{all, Every, distinct, Distinct, member, is_empty}
use Rattle.rules.specs.State.{Id, same_id, StoredMessage, Topic, same_pair, by_kind, Consumer, Mark, Held, Dispatcher, State, new_mark, ledger_of}
use Rattle.rules.specs.State.{dispatcher}
use Rattle.rules.specs.State.Kind.{shared}
use Rattle.rules.specs.Ledger.{holds_id, message_at, after_id}

-- a topic or subscription number: a byte
unfoldable pub is_byte : ℕ → Bool
is_byte n = ltb n 256

-- a 64-bit number
unfoldable pub is_word : ℕ → Bool
is_word n = ltb n (2 ^ 64)

-- the numbers of an id are 64-bit
unfoldable pub valid_id : Id → Bool
valid_id i = is_word i.ledger && is_word i.entry

-- the same as a proposition
pub record ValidId (i : Id) : Type 0 where
  pub ledger_word : i.ledger < 2 ^ 64
  pub entry_word : i.entry < 2 ^ 64

-- "batch size 0 to 256"
unfoldable pub valid_message : StoredMessage → Bool
valid_message m = valid_id m.id && is_word m.handle && leb m.batch_size 256

-- the same as a proposition
pub record ValidMessage (m : StoredMessage) : Type 0 where
  pub id_words : ValidId m.id
  pub handle_word : m.handle < 2 ^ 64
  pub batch_range : m.batch_size ≤ 256

-- "topics made by append" (so with an entry), "at most E entries each", "(ledger, entry) pairs distinct"
unfoldable pub valid_topic : ℕ → Topic → Bool
valid_topic e t =
    is_byte t.number && leb 1 (length t.messages) && leb (length t.messages) e
    && all valid_message t.messages && distinct same_id (map (λ (m : StoredMessage). m.id) t.messages)

-- the same as a proposition
pub record ValidTopic (e : ℕ) (t : Topic) : Type 0 where
  pub number_byte : t.number < 256
  pub some_entry : 1 ≤ length t.messages
  pub at_most_E : length t.messages ≤ e
  pub each_message : Every ValidMessage t.messages
  pub ids_distinct : Distinct same_id (map (λ (m : StoredMessage). m.id) t.messages)

-- the ids of live consumers are "distinct": each is below all later ones
unfoldable pub ascending : List Consumer → Bool
ascending [] = true
ascending (c ∷ l) = all (λ (d : Consumer). ltb c.id d.id) l && ascending l

-- the same as a proposition
unfoldable pub Ascending : List Consumer → Type 0
Ascending [] = Unit {0}
Ascending (c ∷ l) = Every (λ (d : Consumer). c.id < d.id) l × Ascending l

-- "a balance from -255 to 2^40, a cursor not past its ledger, and up to 64 nacked entries of its topic. A shared one names
-- an existing dispatcher and is in its ring" (a pair without a dispatcher has an empty ring)
unfoldable pub valid_consumer : State → Consumer → Bool
valid_consumer s c =
    is_word c.id && is_byte c.pair.topic && is_byte c.pair.subscription
    && leb least_permits c.permits && leb c.permits most_permits
    && leb c.cursor (length (ledger_of s c.pair.topic))
    && leb (length c.nacked) 64 && all (λ (k : ℕ). ltb k (length (ledger_of s c.pair.topic))) c.nacked
    && by_kind c.kind true (member c.id (dispatcher s c.pair).attached)

-- the same as a proposition
pub record ValidConsumer (s : State) (c : Consumer) : Type 0 where
  pub id_word : c.id < 2 ^ 64
  pub topic_byte : c.pair.topic < 256
  pub subscription_byte : c.pair.subscription < 256
  pub permits_from : least_permits ≤ c.permits
  pub permits_to : c.permits ≤ most_permits
  pub cursor_in_ledger : c.cursor ≤ length (ledger_of s c.pair.topic)
  pub nacked_count : length c.nacked ≤ 64
  pub nacked_in_ledger : Every (λ (k : ℕ). k < length (ledger_of s c.pair.topic)) c.nacked
  pub shared_in_ring : c.kind ≡ shared → Memᴰ c.id (dispatcher s c.pair).attached

-- "a 32-bit redelivery count; bits only for entries of batch above 1, only below the batch size"
unfoldable pub valid_mark : StoredMessage → Mark → Bool
valid_mark m k =
    ltb k.redelivery_count (2 ^ 32)
    && cond (ltb 1 m.batch_size) (bits_below m.batch_size (words k.acked.unacked))
    (bits_empty (words k.acked.unacked))

-- the same as a proposition
pub record ValidMark (m : StoredMessage) (k : Mark) : Type 0 where
  pub count_range : k.redelivery_count < 2 ^ 32
  pub no_bits_below_2 : m.batch_size ≤ 1 → bits_empty (words k.acked.unacked) ≡ true
  pub bits_in_batch : 1 < m.batch_size → bits_below m.batch_size (words k.acked.unacked) ≡ true

-- "per entry of its topic" a mark
unfoldable pub valid_marks : List StoredMessage → List Mark → Bool
valid_marks [] [] = true
valid_marks [] (k ∷ ks) = false
valid_marks (m ∷ ms) [] = false
valid_marks (m ∷ ms) (k ∷ ks) = valid_mark m k && valid_marks ms ks

-- the same as a proposition
pub record ValidMarks (ledger : List StoredMessage) (marks : List Mark) : Type 0 where
  pub one_each : length marks ≡ length ledger
  pub each_mark : (k : ℕ) → k < length ledger → ValidMark (message_at ledger k) (get_or marks k new_mark)

-- "Ring: at most 32 distinct ids; next below its length, 0 if empty"
unfoldable pub valid_ring : Dispatcher → Bool
valid_ring d =
    leb (length d.attached) 32 && distinct eqb d.attached && all is_word d.attached
    && (ltb d.next (length d.attached) || (is_empty d.attached && eqb d.next 0))

-- the same as a proposition
pub record ValidRing (d : Dispatcher) : Type 0 where
  pub ring_count : length d.attached ≤ 32
  pub ring_distinct : Distinct eqb d.attached
  pub ring_words : Every (λ (i : ℕ). i < 2 ^ 64) d.attached
  pub next_in_range : 0 < length d.attached → d.next < length d.attached
  pub next_if_empty : length d.attached ≡ 0 → d.next ≡ 0

-- "Only ring ids hold entries. A position below the cursor is in flight or queued at most once; none at or past it"
unfoldable pub valid_places : Dispatcher → Bool
valid_places d =
    all (λ (h : Held). member h.holder d.attached) d.in_flight
    && distinct eqb (map (λ (h : Held). h.position) d.in_flight ++ d.redelivery)
    && all (λ (k : ℕ). ltb k d.cursor) (map (λ (h : Held). h.position) d.in_flight ++ d.redelivery)

-- the same as a proposition
pub record ValidPlaces (d : Dispatcher) : Type 0 where
  pub holders_in_ring : Every (λ (h : Held). Memᴰ h.holder d.attached) d.in_flight
  pub places_distinct : Distinct eqb (map (λ (h : Held). h.position) d.in_flight ++ d.redelivery)
  pub places_below_cursor : Every (λ (k : ℕ). k < d.cursor) (map (λ (h : Held). h.position) d.in_flight ++ d.redelivery)

-- the ids outside the ledger are "distinct": all later ones come after each
unfoldable pub ascending_ids : List Id → Bool
ascending_ids [] = true
ascending_ids (i ∷ l) = all (λ (j : Id). after_id j i) l && ascending_ids l

-- the same as a proposition
unfoldable pub AscendingIds : List Id → Type 0
AscendingIds [] = Unit {0}
AscendingIds (i ∷ l) = Every (λ (j : Id). after_id j i ≡ true) l × AscendingIds l

-- "at most 64 complete ids outside the ledger, distinct"
unfoldable pub valid_outside : List StoredMessage → List Id → Bool
valid_outside ledger ids =
    leb (length ids) 64 && ascending_ids ids && all valid_id ids && all (λ (i : Id). not (holds_id i ledger)) ids

-- the same as a proposition
pub record ValidOutside (ledger : List StoredMessage) (ids : List Id) : Type 0 where
  pub outside_count : length ids ≤ 64
  pub outside_ascending : AscendingIds ids
  pub outside_words : Every ValidId ids
  pub not_in_ledger : Every (λ (i : Id). holds_id i ledger ≡ false) ids

-- "Balance within ±2^60. Cursor and mark-delete not past the ledger", and the parts above
unfoldable pub valid_dispatcher : State → Dispatcher → Bool
valid_dispatcher s d =
    is_byte d.pair.topic && is_byte d.pair.subscription && valid_ring d
    && total_in_range d.total_available_permits
    && leb d.cursor (length (ledger_of s d.pair.topic)) && leb d.mark_delete (length (ledger_of s d.pair.topic))
    && valid_places d && valid_marks (ledger_of s d.pair.topic) d.marks
    && valid_outside (ledger_of s d.pair.topic) d.outside

-- the same as a proposition
pub record ValidDispatcher (s : State) (d : Dispatcher) : Type 0 where
  pub pair_topic_byte : d.pair.topic < 256
  pub pair_subscription_byte : d.pair.subscription < 256
  pub ring : ValidRing d
  pub total_from : least_total ≤ d.total_available_permits
  pub total_to : d.total_available_permits ≤ most_total
  pub cursor_in_ledger : d.cursor ≤ length (ledger_of s d.pair.topic)
  pub mark_delete_in_ledger : d.mark_delete ≤ length (ledger_of s d.pair.topic)
  pub places : ValidPlaces d
  pub entry_marks : ValidMarks (ledger_of s d.pair.topic) d.marks
  pub outside_ids : ValidOutside (ledger_of s d.pair.topic) d.outside

-- the tables: "at most 8 topics, numbers distinct", "at most 32 live consumers", "at most 8 dispatchers, (topic,
-- subscription) distinct"
unfoldable pub sound : State → Bool
sound s =
    leb (length s.topics) 8 && distinct eqb (map (λ (t : Topic). t.number) s.topics)
    && all (valid_topic s.entries) s.topics
    && leb (length s.consumers) 32 && ascending s.consumers && all (valid_consumer s) s.consumers
    && leb (length s.dispatchers) 8 && distinct same_pair (map (λ (d : Dispatcher). d.pair) s.dispatchers)
    && all (valid_dispatcher s) s.dispatchers

-- the same as a proposition
pub record Sound (s : State) : Type 0 where
  pub topic_count : length s.topics ≤ 8
  pub topics_distinct : Distinct eqb (map (λ (t : Topic). t.number) s.topics)
  pub each_topic : Every (ValidTopic s.entries) s.topics
  pub consumer_count : length s.consumers ≤ 32
  pub consumers_ascending : Ascending s.consumers
  pub each_consumer : Every (ValidConsumer s) s.consumers
  pub dispatcher_count : length s.dispatchers ≤ 8
  pub pairs_distinct : Distinct same_pair (map (λ (d : Dispatcher). d.pair) s.dispatchers)
  pub each_dispatcher : Every (ValidDispatcher s) s.dispatchers

-- "E 1 to 4,096", and the tables
unfoldable pub valid : State → Bool
valid s = leb 1 s.entries && leb s.entries 4096 && sound s

-- what a state obeys: the same as a proposition
pub record Valid (s : State) : Type 0 where
  pub E_from : 1 ≤ s.entries
  pub E_to : s.entries ≤ 4096
  pub tables : Sound s
