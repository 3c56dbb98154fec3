-- How a worked history is written and read: calls in short, states given as they are spelt, and what is looked at.
use Rattle.std.specs.Prelude.{ℕ, zero, suc, Bool, false, List, [], ◌∷◌, ◌++◌, map, ℤ, pos, length}
use Rattle.std.proofs.Math.Option.{Option, none, some}
use Rattle.bits.specs.Bits.{bits_cardinality}
use Rattle.bits.specs.Four.{words}
use Rattle.rules.specs.Permits.{zero_permits, reading}
use Rattle.rules.specs.State.{Id, StoredMessage, Topic, Pair, Kind, by_kind, Consumer, Mark, Held, Dispatcher, State, unacknowledged, consumer_of}
use Rattle.rules.specs.State.{dispatcher, new_dispatcher, state_with}
use Rattle.rules.specs.State.Kind.{plain, shared}
use Rattle.rules.specs.Dispatcher.{of_parts, with_attached, mark_at, balance_check}
use Rattle.rules.specs.Valid.{valid}
use Rattle.rules.specs.Outcome.{Dispatch}
use Rattle.rules.specs.Push.{push_pending, flat_records}
use Rattle.rules.specs.Calls.{Call, rule, state_after, bit_of}
use Rattle.rules.specs.Calls.Call.{Append, Subscribe, Flow}
use Rattle.rules.specs.Readings.{pair_1, append_1, shared_1, after, outcome_numbers, word_numbers, Row, row}

-- ---- calls in short

-- topic 1 under another subscription
abbrev pub pair_2 : Pair
pair_2 = record { topic = 1; subscription = 2 }

-- another topic under subscription 1
abbrev pub other_topic : Pair
other_topic = record { topic = 2; subscription = 1 }

-- a message id
abbrev pub message_id : ℕ → ℕ → Id
message_id ledger entry = record { ledger = ledger; entry = entry }

-- a message: its id, handle and batch size
abbrev pub message : ℕ → ℕ → ℕ → ℕ → StoredMessage
message ledger entry handle batch = record { id = message_id ledger entry; handle = handle; batch_size = batch }

-- an append to a topic
abbrev pub append_to : ℕ → ℕ → ℕ → ℕ → Call
append_to topic ledger entry batch = Append topic (message ledger entry 0 batch)

-- a shared subscribe to pair 2
abbrev pub shared_2 : ℕ → Call
shared_2 i = Subscribe i shared pair_2

-- a plain subscribe to pair 1
abbrev pub plain_1 : ℕ → Call
plain_1 i = Subscribe i plain pair_1

-- n calls that differ in a number, from n down to 1
unfoldable pub each : ℕ → (ℕ → Call) → List Call
each zero call = []
each (suc n) call = call (suc n) ∷ each n call

-- n groups of ids that no ledger has, entries from n down to 1
unfoldable pub unknown_ids : ℕ → List ℕ
unknown_ids zero = []
unknown_ids (suc n) = 9 ∷ suc n ∷ 0 ∷ unknown_ids n

-- the numbers from n down to 1
unfoldable pub down_from : ℕ → List ℕ
down_from zero = []
down_from (suc n) = suc n ∷ down_from n

-- n groups of the id (1,0)
unfoldable pub again : ℕ → List ℕ
again zero = []
again (suc n) = 1 ∷ 0 ∷ 0 ∷ again n

-- three entries of batch 0 in topic 1
abbrev pub three_entries : List Call
three_entries = append_1 1 0 0 ∷ append_1 1 1 0 ∷ append_1 1 2 0 ∷ []

-- ring 7, 8, 9 with two permits each
abbrev pub three_consumers : List Call
three_consumers = shared_1 7 ∷ shared_1 8 ∷ shared_1 9 ∷ Flow 7 2 ∷ Flow 8 2 ∷ Flow 9 2 ∷ []

-- 32 consumers in the ring of pair 1
abbrev pub full_ring : List Call
full_ring = each 32 shared_1

-- ---- what is looked at

-- a row whose numbers due are all natural
abbrev pub gives : List ℤ → List ℕ → Row
gives comes_out must = row comes_out (word_numbers must)

-- what is seen of the state after some calls, with both switches off
abbrev pub seen : (State → List ℤ) → List Call → List ℤ
seen view calls = view (after false false calls)

-- E, the two switches, and how many topics, consumers and dispatchers there are
unfoldable pub settings : State → List ℤ
settings s =
    word_numbers
    (s.entries ∷ bit_of s.leak_shared_permits_on_churn ∷ bit_of s.live_id_subscribe_is_noop ∷ length s.topics
    ∷ length s.consumers ∷ length s.dispatchers ∷ [])

-- a ring
unfoldable pub ring : Pair → State → List ℤ
ring p s = word_numbers (dispatcher s p).attached

-- a dispatcher's next, cursor, mark-delete and total
unfoldable pub head : Pair → State → List ℤ
head p s =
    let d = dispatcher s p in
    pos d.next ∷ pos d.cursor ∷ pos d.mark_delete ∷ reading d.total_available_permits ∷ []

-- a dispatcher's queue
unfoldable pub queue : Pair → State → List ℤ
queue p s = word_numbers (dispatcher s p).redelivery

-- holder and position of each entry in flight
unfoldable pub flight_numbers : List Held → List ℤ
flight_numbers [] = []
flight_numbers (h ∷ l) = pos h.holder ∷ pos h.position ∷ flight_numbers l

-- what is in flight of a dispatcher
unfoldable pub flight : Pair → State → List ℤ
flight p s = flight_numbers (dispatcher s p).in_flight

-- of each mark: how many bits are stored, whether it is complete, the redelivery count
unfoldable pub mark_numbers : List Mark → List ℤ
mark_numbers [] = []
mark_numbers (m ∷ l) =
    pos (bits_cardinality (words m.acked.unacked)) ∷ pos (bit_of m.acked.complete) ∷ pos m.redelivery_count
    ∷ mark_numbers l

-- the marks of a dispatcher
unfoldable pub marks : Pair → State → List ℤ
marks p s = mark_numbers (dispatcher s p).marks

-- the four words stored for entry 0 under pair 1, and whether it is complete
unfoldable pub stored : State → List ℤ
stored s =
    let m = mark_at (dispatcher s pair_1) 0 in
    word_numbers (words m.acked.unacked) ++ pos (bit_of m.acked.complete) ∷ []

-- ids: ledger and entry of each
unfoldable pub id_numbers : List Id → List ℤ
id_numbers [] = []
id_numbers (i ∷ l) = pos i.ledger ∷ pos i.entry ∷ id_numbers l

-- the complete ids outside the ledger that a dispatcher has
unfoldable pub outsiders : Pair → State → List ℤ
outsiders p s = id_numbers (dispatcher s p).outside

-- a live consumer: topic, subscription, kind, permits, cursor, nacked
unfoldable pub consumer_numbers : Option Consumer → List ℤ
consumer_numbers none = []
consumer_numbers (some c) =
    pos c.pair.topic ∷ pos c.pair.subscription ∷ pos (by_kind c.kind 0 1) ∷ reading c.permits ∷ pos c.cursor
    ∷ word_numbers c.nacked

-- the live consumer with an id
unfoldable pub own : ℕ → State → List ℤ
own i s = consumer_numbers (consumer_of s i)

-- consumer and entry of each record
unfoldable pub receivers : List Dispatch → List ℤ
receivers [] = []
receivers (x ∷ l) = pos x.consumer ∷ pos x.message.id.entry ∷ receivers l

-- who is handed what by a push after some calls
unfoldable pub handed : List Call → List ℤ
handed calls = receivers (push_pending (after false false calls)).dispatched

-- the number of ack set words of each record of a push after some calls
unfoldable pub set_words : List Call → List ℤ
set_words calls = map (λ (x : Dispatch). pos x.ack_set_words) (push_pending (after false false calls)).dispatched

-- the flat words of a push after some calls
unfoldable pub flat_words : List Call → List ℤ
flat_words calls = word_numbers (flat_records (push_pending (after false false calls)).dispatched)

-- ---- on a state given as it is spelt: first 1, as a store may spell it

-- what a call comes to
unfoldable pub on : State → Call → List ℤ
on s x = pos (bit_of (valid s)) ∷ outcome_numbers (rule s x)

-- what is seen after a call
unfoldable pub then_seen : (State → List ℤ) → State → Call → List ℤ
then_seen view s x = pos (bit_of (valid s)) ∷ view (state_after s (rule s x))

-- the balance check of a pair's dispatcher
unfoldable pub checked : Pair → State → List ℤ
checked p s = pos (bit_of (valid s)) ∷ reading (balance_check s (dispatcher s p)) ∷ []

-- a state of E = 32 with these tables
abbrev pub spelt_with : Bool → Bool → List Topic → List Consumer → List Dispatcher → State
spelt_with leak noop topics consumers dispatchers = state_with 32 leak noop topics consumers dispatchers

-- a live consumer with these permits
abbrev pub spelt_consumer : ℕ → Pair → Kind → ℕ → Consumer
spelt_consumer i p kind permits =
    record { id = i; pair = p; kind = kind; permits = permits; cursor = 0; nacked = [] }

-- one entry of batch 0 in topic 1
abbrev pub one_topic : List Topic
one_topic = record { number = 1; messages = message 1 0 0 0 ∷ [] } ∷ []

-- an entry of batch 0 that consumer 7 holds, the only one in the ring of pair 1; given are the leak switch, the consumer's
-- kind and permits, the dispatcher's total and the entry's redelivery count
abbrev pub spelt : Bool → Kind → ℕ → ℕ → ℕ → State
spelt leak kind permits total count =
    spelt_with leak false one_topic
    (spelt_consumer 7 pair_1 kind permits ∷ [])
    (of_parts pair_1 (7 ∷ []) 0 1 0 total [] (record { holder = 7; position = 0 } ∷ [])
    (record { acked = unacknowledged; redelivery_count = count } ∷ []) []
    ∷ [])

-- 32 ids in the ring of pair 1, none of them live, and plain consumer 40; given is the no-op switch
abbrev pub spelt_ring : Bool → State
spelt_ring noop =
    spelt_with false noop []
    (spelt_consumer 40 pair_1 plain zero_permits ∷ [])
    (with_attached (new_dispatcher pair_1 0) (down_from 32) ∷ [])
