-- Where things stand in a store, as the numbers that code computes with. Offsets of a record are from the store's first
-- word; those ending in `-in` are from the first word of the record that holds them. The same table as docs/STORE.md.
use Rattle.std.specs.Prelude.{ℕ, ◌+◌, ◌*◌}

-- ---- the header

-- the header's reserved words, which reach to its end
abbrev pub header_reserved_at : ℕ
header_reserved_at = 4

-- how many they are
abbrev pub header_reserved : ℕ
header_reserved = 12

-- ---- the tables

-- the number of consumers
abbrev pub consumer_count_at : ℕ
consumer_count_at = 16

-- the words of a consumer
abbrev pub consumer_words : ℕ
consumer_words = 72

-- consumer i
abbrev pub consumer_at : ℕ → ℕ
consumer_at i = 17 + i * consumer_words

-- the number of topics
abbrev pub topic_count_at : ℕ
topic_count_at = 2321

-- the words of a topic
abbrev pub topic_words : ℕ → ℕ
topic_words e = 4 + 4 * e

-- topic t
abbrev pub topic_at : ℕ → ℕ → ℕ
topic_at e t = 2322 + t * topic_words e

-- the number of dispatchers
abbrev pub dispatcher_count_at : ℕ → ℕ
dispatcher_count_at e = 2354 + 32 * e

-- the words of a dispatcher
abbrev pub dispatcher_words : ℕ → ℕ
dispatcher_words e = 176 + 9 * e

-- dispatcher d
abbrev pub dispatcher_at : ℕ → ℕ → ℕ
dispatcher_at e d = 2355 + 32 * e + d * dispatcher_words e

-- the words reserved at the end
abbrev pub reserved_at : ℕ → ℕ
reserved_at e = 3763 + 104 * e

-- how many they are
abbrev pub reserved : ℕ → ℕ
reserved e = 333 + 24 * e

-- the words that a store needs
abbrev pub needed_words : ℕ → ℕ
needed_words e = 4096 + 128 * e

-- ---- in a consumer

-- the number of nacked positions; they follow it
abbrev pub nacked_in : ℕ
nacked_in = 6

-- ---- in a topic

-- the number of messages
abbrev pub messages_in : ℕ
messages_in = 3

-- message k
abbrev pub message_in : ℕ → ℕ
message_in k = 4 + k * 4

-- ---- in a dispatcher: the counts of its lists, each followed by the list

-- the ring
abbrev pub ring_in : ℕ
ring_in = 11

-- the complete ids outside the ledger
abbrev pub outside_in : ℕ
outside_in = 44

-- outside id j
abbrev pub outside_id_in : ℕ → ℕ
outside_id_in j = 45 + j * 2

-- the redelivery queue
abbrev pub queue_in : ℕ
queue_in = 173

-- the entries in flight
abbrev pub flight_in : ℕ → ℕ
flight_in e = 174 + e

-- entry j in flight
abbrev pub held_in : ℕ → ℕ → ℕ
held_in e j = 175 + e + j * 2

-- the marks
abbrev pub marks_in : ℕ → ℕ
marks_in e = 175 + 3 * e

-- mark k
abbrev pub mark_in : ℕ → ℕ → ℕ
mark_in e k = 176 + 3 * e + k * 6
