-- Which states a store may spell, sentence by sentence: a state at the limit that may be, and one past it that may not. The
-- widths of calls' arguments.
use Rattle.std.specs.Prelude.{ℕ, suc, ◌+◌, ◌-◌, ◌^◌, true, false, List, [], ◌∷◌, map, ℤ, pos, replicate}
use Rattle.bits.specs.declared.UnackedBits.{UnackedBits}
use Rattle.rules.specs.Permits.{zero_permits}
use Rattle.rules.specs.State.{Id, StoredMessage, Topic, Kind, Consumer, Mark, Held, Dispatcher, State, state_with, no_bits, new_mark, new_dispatcher}
use Rattle.rules.specs.State.Kind.{plain, shared}
use Rattle.rules.specs.Dispatcher.{of_parts}
use Rattle.rules.specs.Valid.{valid}
use Rattle.rules.specs.Commands.Target.{start, to_id}
use Rattle.rules.specs.Calls.{Call, opened, fits, bit_of}
use Rattle.rules.specs.Calls.Call.{Append, Subscribe, Flow, Ack, Seek, Redeliver, Close}
use Rattle.rules.specs.Readings.{pair_1, Row}
use Rattle.rules.specs.Histories.Views.{pair_2, message_id, message, append_to, down_from, gives, spelt_with, spelt_consumer}

-- ---- rows

-- a state that a store may spell
abbrev pub may : State → Row
may s = gives (pos (bit_of (valid s)) ∷ []) (1 ∷ [])

-- a state that it may not
abbrev pub may_not : State → Row
may_not s = gives (pos (bit_of (valid s)) ∷ []) (0 ∷ [])

-- ---- states in which one thing is given

-- topic 1 with some messages
abbrev pub topic_1 : List StoredMessage → Topic
topic_1 messages = record { number = 1; messages = messages }

-- E and some topics
abbrev pub with_ledgers : ℕ → List Topic → State
with_ledgers e topics = state_with e false false topics [] []

-- topics of one entry, numbered from n down to 1
abbrev pub topics_to : ℕ → List Topic
topics_to n = map (λ (k : ℕ). record { number = k; messages = message 1 0 0 0 ∷ [] }) (down_from n)

-- two entries in topic 1, the first of this batch size
abbrev pub two_of : ℕ → List Topic
two_of batch = topic_1 (message 1 0 0 batch ∷ message 1 1 0 0 ∷ []) ∷ []

-- the dispatcher of pair 1 over two entries, with this ring and next
abbrev pub ringed : List ℕ → ℕ → Dispatcher
ringed ids next = of_parts pair_1 ids next 0 0 zero_permits [] [] (new_mark ∷ new_mark ∷ []) []

-- some consumers over two entries, and a dispatcher with 7 and 8 in its ring
abbrev pub with_live_ones : List Consumer → State
with_live_ones consumers = spelt_with false false (two_of 0) consumers (ringed (7 ∷ 8 ∷ []) 0 ∷ [])

-- plain consumer 7 with these permits, cursor and nacked entries
abbrev pub reading_7 : ℕ → ℕ → List ℕ → State
reading_7 permits cursor nacked =
    with_live_ones (record { id = 7; pair = pair_1; kind = plain; permits = permits; cursor = cursor; nacked = nacked } ∷ [])

-- consumers of a kind, given their ids
abbrev pub live_ones : Kind → List ℕ → List Consumer
live_ones kind ids = map (λ (i : ℕ). spelt_consumer i pair_1 kind zero_permits) ids

-- the numbers from 1 to n
unfoldable pub up_to : ℕ → List ℕ
up_to n = map (λ (k : ℕ). suc n - k) (down_from n)

-- one dispatcher over two entries, the first of this batch size
abbrev pub with_one : ℕ → Dispatcher → State
with_one batch d = spelt_with false false (two_of batch) [] (d ∷ [])

-- a dispatcher with 7 in its ring, and this cursor, mark-delete and total
abbrev pub headed : ℕ → ℕ → ℕ → State
headed cursor mark_delete total =
    with_one 0 (of_parts pair_1 (7 ∷ []) 0 cursor mark_delete total [] [] (new_mark ∷ new_mark ∷ []) [])

-- a dispatcher with 7 in its ring, and this cursor, queue and what is in flight
abbrev pub placed : ℕ → List ℕ → List Held → State
placed cursor queue flight =
    with_one 0 (of_parts pair_1 (7 ∷ []) 0 cursor 0 zero_permits queue flight (new_mark ∷ new_mark ∷ []) [])

-- a position that a consumer holds
abbrev pub held : ℕ → ℕ → Held
held i k = record { holder = i; position = k }

-- a dispatcher with these marks over two entries, the first of this batch size
abbrev pub marked : ℕ → List Mark → State
marked batch marks = with_one batch (of_parts pair_1 [] 0 0 0 zero_permits [] [] marks [])

-- an entry of this batch size with these bits stored
abbrev pub with_bits : ℕ → UnackedBits → State
with_bits batch b =
    marked batch (record { acked = record { complete = false; unacked = b }; redelivery_count = 0 } ∷ new_mark ∷ [])

-- an entry with this redelivery count
abbrev pub with_count : ℕ → State
with_count n =
    marked 0 (record { acked = record { complete = false; unacked = no_bits }; redelivery_count = n } ∷ new_mark ∷ [])

-- a dispatcher with these complete ids outside the ledger
abbrev pub with_outside : List Id → State
with_outside ids = with_one 0 (of_parts pair_1 [] 0 0 0 zero_permits [] [] (new_mark ∷ new_mark ∷ []) ids)

-- dispatchers of topic 1, their subscriptions given
abbrev pub with_pairs : List ℕ → State
with_pairs subscriptions =
    spelt_with false false [] [] (map (λ (n : ℕ). new_dispatcher (record { topic = 1; subscription = n }) 0) subscriptions)

-- ---- the rows

-- topics and consumers
unfoldable pub spelt_rows : List Row
spelt_rows =
    -- E 1 to 4,096
    may_not (opened 0 false false)
    ∷ may (opened 1 false false)
    ∷ may (opened 4096 true true)
    ∷ may_not (opened 4097 false false)
    -- at most 8 topics made by append, numbers distinct
    ∷ may (with_ledgers 1 (topics_to 8))
    ∷ may_not (with_ledgers 1 (topics_to 9))
    ∷ may (with_ledgers 1 (topic_1 (message 1 0 0 0 ∷ []) ∷ record { number = 2; messages = message 1 0 0 0 ∷ [] } ∷ []))
    ∷ may_not (with_ledgers 1 (topic_1 [] ∷ []))
    ∷ may_not (with_ledgers 1 (topic_1 (message 1 0 0 0 ∷ []) ∷ topic_1 (message 1 1 0 0 ∷ []) ∷ []))
    -- at most E entries each, (ledger, entry) pairs distinct, batch size 0 to 256
    ∷ may (with_ledgers 2 (two_of 256))
    ∷ may_not (with_ledgers 1 (two_of 256))
    ∷ may_not (with_ledgers 2 (two_of 257))
    ∷ may_not (with_ledgers 2 (topic_1 (message 1 0 3 0 ∷ message 1 0 4 5 ∷ []) ∷ []))
    -- topics and subscriptions are byte numbers, ids and handles have 64 bits
    ∷ may (with_ledgers 1 (record { number = 255; messages = message (2 ^ 64 - 1) (2 ^ 64 - 1) (2 ^ 64 - 1) 0 ∷ [] } ∷ []))
    ∷ may_not (with_ledgers 1 (record { number = 256; messages = message 1 0 0 0 ∷ [] } ∷ []))
    ∷ may_not (with_ledgers 1 (topic_1 (message (2 ^ 64) 0 0 0 ∷ []) ∷ []))
    ∷ may_not (with_ledgers 1 (topic_1 (message 0 (2 ^ 64) 0 0 ∷ []) ∷ []))
    ∷ may_not (with_ledgers 1 (topic_1 (message 0 0 (2 ^ 64) 0 ∷ []) ∷ []))
    -- at most 32 live consumers, ids (64 bits) distinct
    ∷ may (with_live_ones (live_ones plain (up_to 32)))
    ∷ may_not (with_live_ones (live_ones plain (up_to 33)))
    ∷ may_not (with_live_ones (live_ones plain (7 ∷ 7 ∷ [])))
    ∷ may (with_live_ones (live_ones plain ((2 ^ 64 - 1) ∷ [])))
    ∷ may_not (with_live_ones (live_ones plain ((2 ^ 64) ∷ [])))
    -- each state has just one spelling: by ascending id
    ∷ may_not (with_live_ones (live_ones plain (8 ∷ 7 ∷ [])))
    -- a balance from -255 to 2^40
    ∷ may (reading_7 (zero_permits - 255) 0 [])
    ∷ may_not (reading_7 (zero_permits - 256) 0 [])
    ∷ may (reading_7 (zero_permits + 2 ^ 40) 0 [])
    ∷ may_not (reading_7 (zero_permits + (2 ^ 40 + 1)) 0 [])
    -- a cursor not past its ledger, and up to 64 nacked entries of its topic
    ∷ may (reading_7 zero_permits 2 [])
    ∷ may_not (reading_7 zero_permits 3 [])
    ∷ may (reading_7 zero_permits 0 (replicate 64 1))
    ∷ may_not (reading_7 zero_permits 0 (replicate 65 1))
    ∷ may_not (reading_7 zero_permits 0 (2 ∷ []))
    -- a shared one names an existing dispatcher and is in its ring
    ∷ may (with_live_ones (live_ones shared (7 ∷ 8 ∷ [])))
    ∷ may_not (with_live_ones (live_ones shared (9 ∷ [])))
    ∷ may_not (with_live_ones (spelt_consumer 7 pair_2 shared zero_permits ∷ []))
    ∷ may (with_live_ones (spelt_consumer 7 pair_2 plain zero_permits ∷ []))
    ∷ []

-- dispatchers
unfoldable pub spelt_dispatcher_rows : List Row
spelt_dispatcher_rows =
    -- at most 8 dispatchers, (topic, subscription) distinct
    may (with_pairs (down_from 8))
    ∷ may_not (with_pairs (down_from 9))
    ∷ may_not (with_pairs (3 ∷ 4 ∷ 3 ∷ []))
    ∷ may (with_pairs (255 ∷ []))
    ∷ may_not (with_pairs (256 ∷ []))
    -- ring: at most 32 distinct ids; next below its length, 0 if empty
    ∷ may (with_one 0 (ringed (down_from 32) 31))
    ∷ may_not (with_one 0 (ringed (down_from 33) 0))
    ∷ may_not (with_one 0 (ringed (7 ∷ 8 ∷ 7 ∷ []) 0))
    ∷ may_not (with_one 0 (ringed (down_from 32) 32))
    ∷ may_not (with_one 0 (ringed ((2 ^ 64) ∷ []) 0))
    ∷ may (with_one 0 (ringed [] 0))
    ∷ may_not (with_one 0 (ringed [] 1))
    -- balance within ±2^60
    ∷ may (headed 0 0 (zero_permits + 2 ^ 60))
    ∷ may_not (headed 0 0 (zero_permits + (2 ^ 60 + 1)))
    ∷ may (headed 0 0 (zero_permits - 2 ^ 60))
    ∷ may_not (headed 0 0 (zero_permits - (2 ^ 60 + 1)))
    -- cursor and mark-delete not past the ledger
    ∷ may (headed 2 2 zero_permits)
    ∷ may_not (headed 3 0 zero_permits)
    ∷ may_not (headed 0 3 zero_permits)
    -- only ring ids hold entries, live or not
    ∷ may (placed 2 [] (held 7 1 ∷ held 7 0 ∷ []))
    ∷ may_not (placed 2 [] (held 8 1 ∷ []))
    -- a position below the cursor is in flight or queued at most once
    ∷ may (placed 2 (0 ∷ []) (held 7 1 ∷ []))
    ∷ may (placed 2 (1 ∷ []) (held 7 0 ∷ []))
    ∷ may (placed 2 (1 ∷ 0 ∷ []) [])
    ∷ may_not (placed 2 (1 ∷ []) (held 7 1 ∷ []))
    ∷ may_not (placed 2 [] (held 7 1 ∷ held 7 1 ∷ []))
    ∷ may_not (placed 2 (0 ∷ 0 ∷ []) [])
    -- none at or past it
    ∷ may (placed 1 (0 ∷ []) [])
    ∷ may_not (placed 1 (1 ∷ []) [])
    ∷ may_not (placed 1 [] (held 7 1 ∷ []))
    -- per entry of its topic a complete mark and a 32-bit redelivery count
    ∷ may_not (marked 0 (new_mark ∷ []))
    ∷ may_not (marked 0 (new_mark ∷ new_mark ∷ new_mark ∷ []))
    ∷ may (with_count (2 ^ 32 - 1))
    ∷ may_not (with_count (2 ^ 32))
    -- bits only for entries of batch above 1, only below the batch size
    ∷ may_not (with_bits 1 (record { w0 = 1; w1 = 0; w2 = 0; w3 = 0 }))
    ∷ may (with_bits 2 (record { w0 = 3; w1 = 0; w2 = 0; w3 = 0 }))
    ∷ may_not (with_bits 2 (record { w0 = 4; w1 = 0; w2 = 0; w3 = 0 }))
    ∷ may (with_bits 65 (record { w0 = 0; w1 = 1; w2 = 0; w3 = 0 }))
    ∷ may_not (with_bits 65 (record { w0 = 0; w1 = 2; w2 = 0; w3 = 0 }))
    ∷ may (with_bits 256 (record { w0 = 0; w1 = 0; w2 = 0; w3 = 2 ^ 64 - 1 }))
    ∷ may_not (with_bits 192 (record { w0 = 0; w1 = 0; w2 = 0; w3 = 1 }))
    -- at most 64 complete ids outside the ledger, distinct
    ∷ may (with_outside (map (λ (n : ℕ). message_id 9 n) (up_to 64)))
    ∷ may_not (with_outside (map (λ (n : ℕ). message_id 9 n) (up_to 65)))
    ∷ may_not (with_outside (message_id 9 1 ∷ message_id 9 1 ∷ []))
    -- one spelling of each set of ids: ascending by ledger, then by entry
    ∷ may (with_outside (message_id 8 5 ∷ message_id 9 1 ∷ message_id 9 2 ∷ []))
    ∷ may_not (with_outside (message_id 9 2 ∷ message_id 9 1 ∷ []))
    ∷ may_not (with_outside (message_id 9 1 ∷ message_id 8 5 ∷ []))
    ∷ may_not (with_outside (message_id 8 5 ∷ message_id 9 2 ∷ message_id 9 1 ∷ []))
    ∷ may_not (with_outside (message_id 1 1 ∷ []))
    ∷ may_not (with_outside (message_id (2 ^ 64) 0 ∷ []))
    ∷ may_not (with_outside (message_id 9 (2 ^ 64) ∷ []))
    ∷ []

-- ---- widths

-- whether a call's arguments have their widths
abbrev pub fitting : List Call → List ℤ
fitting calls = map (λ (x : Call). pos (bit_of (fits x))) calls

-- the widths of a call's arguments
unfoldable pub width_rows : List Row
width_rows =
    -- topic and subscription are bytes
    gives (fitting (append_to 255 1 0 0 ∷ append_to 256 1 0 0 ∷ [])) (1 ∷ 0 ∷ [])
    ∷ gives (fitting (Subscribe 7 plain (record { topic = 255; subscription = 255 }) ∷
    Subscribe 7 plain (record { topic = 256; subscription = 0 }) ∷
    Subscribe 7 plain (record { topic = 0; subscription = 256 }) ∷ []))
    (1 ∷ 0 ∷ 0 ∷ [])
    -- a grant has 32 bits
    ∷ gives (fitting (Flow 7 (2 ^ 32 - 1) ∷ Flow 7 (2 ^ 32) ∷ [])) (1 ∷ 0 ∷ [])
    -- ids, handles and words have 64; a batch size may be any such number, and gets 8
    ∷ gives (fitting
    (Append 1 (message (2 ^ 64 - 1) (2 ^ 64 - 1) (2 ^ 64 - 1) (2 ^ 64 - 1)) ∷ Append 1 (message 0 0 (2 ^ 64) 0) ∷ append_to 1 0 0 (2 ^ 64) ∷ []))
    (1 ∷ 0 ∷ 0 ∷ [])
    ∷ gives (fitting (Close (2 ^ 64 - 1) ∷ Close (2 ^ 64) ∷ Ack 7 ((2 ^ 64 - 1) ∷ []) ∷ Ack 7 ((2 ^ 64) ∷ []) ∷
    Redeliver 7 ((2 ^ 64 - 1) ∷ []) ∷ Redeliver 7 ((2 ^ 64) ∷ []) ∷ []))
    (1 ∷ 0 ∷ 1 ∷ 0 ∷ 1 ∷ 0 ∷ [])
    ∷ gives (fitting (Seek 7 start ∷ Seek 7 (to_id (message_id (2 ^ 64 - 1) 0)) ∷ Seek 7 (to_id (message_id 0 (2 ^ 64))) ∷ [])) (1 ∷ 1 ∷ 0 ∷ [])
    ∷ []
