-- Readings of a Message read, of a record written, and of what is read of what was written, by the sentences of the rules.
use Rattle.std.specs.Prelude.{ℕ, ◌-◌, ◌*◌, ◌^◌, List, [], ◌∷◌, ◌++◌, replicate}
use Rattle.wire.specs.Message.{message}
use Rattle.wire.specs.Answers.{record_after, write_message, bytes_answer, buffer_after}
use Rattle.wire.specs.Readings.Rows.{Row, row, message_is, message_16, message_17, written_is, written_16, bytes_written, times}
use Rattle.wire.specs.Readings.Rows.{a_part, minus_1, a_message, message_id, message_read}

-- the greatest word
abbrev pub all_ones : ℕ
all_ones = 2 ^ 64 - 1

-- ---- a Message read

-- a Message of consumer 7 and id (1, 2), then some fields
abbrev pub and_then : List ℕ → List ℕ
and_then bytes = a_message (8 ∷ 7 ∷ 18 ∷ 4 ∷ 8 ∷ 1 ∷ 16 ∷ 2 ∷ bytes)

-- a Message of consumer 7 and id (1, 2) with a batch size in some bytes
abbrev pub of_batch : List ℕ → List ℕ
of_batch bytes = message_id (8 ∷ 1 ∷ 16 ∷ 2 ∷ 48 ∷ bytes)

-- Messages
unfoldable pub message_rows : List Row
message_rows =
    -- consumer_id 1, message_id 2 with ledgerId 1, entryId 2, batch_size 6, redelivery_count 3, ack_set 4: in ascending order,
    -- in another, with fields between that are not read, the type last
    message_is (a_message (8 ∷ 7 ∷ 18 ∷ 6 ∷ 8 ∷ 1 ∷ 16 ∷ 2 ∷ 48 ∷ 3 ∷ 24 ∷ 4 ∷ 32 ∷ 5 ∷ 32 ∷ 6 ∷ [])) (message_read 7 1 2 3 2 5 6 0 0 4)
    ∷ message_is (a_message (32 ∷ 5 ∷ 24 ∷ 4 ∷ 18 ∷ 6 ∷ 48 ∷ 3 ∷ 16 ∷ 2 ∷ 8 ∷ 1 ∷ 32 ∷ 6 ∷ 8 ∷ 7 ∷ [])) (message_read 7 1 2 3 2 5 6 0 0 4)
    ∷ message_is
    (a_message (40 ∷ 1 ∷ 8 ∷ 7 ∷ 50 ∷ 1 ∷ 0 ∷ 18 ∷ 10 ∷ 24 ∷ 9 ∷ 8 ∷ 1 ∷ 32 ∷ 9 ∷ 16 ∷ 2 ∷ 48 ∷ 3 ∷ 24 ∷ 4 ∷ 40 ∷ 2 ∷ 32 ∷ 5 ∷ []))
    (message_read 7 1 2 3 1 5 0 0 0 4)
    ∷ message_is (24 ∷ 1 ∷ a_part (74 ∷ []) (8 ∷ 7 ∷ 18 ∷ 6 ∷ 8 ∷ 1 ∷ 16 ∷ 2 ∷ 48 ∷ 3 ∷ 24 ∷ 4 ∷ []) ++ 8 ∷ 9 ∷ []) (message_read 7 1 2 3 0 0 0 0 0 4)
    -- an absent batch size is 0, an absent redelivery count is 0
    ∷ message_is (and_then []) (message_read 7 1 2 0 0 0 0 0 0 0)
    ∷ message_is (and_then (24 ∷ 4 ∷ [])) (message_read 7 1 2 0 0 0 0 0 0 4)
    ∷ message_is (of_batch (3 ∷ [])) (message_read 7 1 2 3 0 0 0 0 0 0)
    -- a required one absent: consumer_id, message_id, ledgerId, entryId
    ∷ message_16 (a_message (18 ∷ 4 ∷ 8 ∷ 1 ∷ 16 ∷ 2 ∷ []))
    ∷ message_16 (a_message (8 ∷ 7 ∷ []))
    ∷ message_16 (message_id (16 ∷ 2 ∷ 48 ∷ 3 ∷ []))
    ∷ message_16 (message_id (8 ∷ 1 ∷ 48 ∷ 3 ∷ []))
    -- another wire type: each field that is read; a packed ack set
    ∷ message_16 (8 ∷ 9 ∷ 72 ∷ 4 ∷ [])
    ∷ message_16 (a_message (10 ∷ 1 ∷ 7 ∷ 18 ∷ 4 ∷ 8 ∷ 1 ∷ 16 ∷ 2 ∷ []))
    ∷ message_16 (a_message (8 ∷ 7 ∷ 16 ∷ 4 ∷ []))
    ∷ message_16 (and_then (26 ∷ 1 ∷ 4 ∷ []))
    ∷ message_16 (and_then (29 ∷ 4 ∷ 0 ∷ 0 ∷ 0 ∷ []))
    ∷ message_16 (and_then (34 ∷ 2 ∷ 5 ∷ 6 ∷ []))
    ∷ message_16 (and_then (33 ∷ 5 ∷ replicate 7 0))
    ∷ message_16 (message_id (10 ∷ 1 ∷ 1 ∷ 16 ∷ 2 ∷ []))
    ∷ message_16 (message_id (8 ∷ 1 ∷ 18 ∷ 1 ∷ 2 ∷ []))
    ∷ message_16 (message_id (8 ∷ 1 ∷ 16 ∷ 2 ∷ 50 ∷ 1 ∷ 3 ∷ []))
    ∷ message_16 (message_id (8 ∷ 1 ∷ 16 ∷ 2 ∷ 53 ∷ 3 ∷ 0 ∷ 0 ∷ 0 ∷ []))
    -- a singular one twice, also with equal values; the message twice
    ∷ message_16 (and_then (8 ∷ 7 ∷ []))
    ∷ message_16 (and_then (18 ∷ 4 ∷ 8 ∷ 1 ∷ 16 ∷ 2 ∷ []))
    ∷ message_16 (and_then (24 ∷ 4 ∷ 24 ∷ 4 ∷ []))
    ∷ message_16 (message_id (8 ∷ 1 ∷ 8 ∷ 1 ∷ 16 ∷ 2 ∷ []))
    ∷ message_16 (message_id (8 ∷ 1 ∷ 16 ∷ 2 ∷ 16 ∷ 2 ∷ []))
    ∷ message_16 (of_batch (3 ∷ 48 ∷ 3 ∷ []))
    ∷ message_16 (8 ∷ 9 ∷ times 2 (a_part (74 ∷ []) (8 ∷ 7 ∷ 18 ∷ 4 ∷ 8 ∷ 1 ∷ 16 ∷ 2 ∷ [])))
    ∷ message_16 (8 ∷ 9 ∷ and_then [])
    -- uint64 and int64 take any varint
    ∷ message_is (a_message (8 ∷ minus_1 ++ 18 ∷ 22 ∷ 8 ∷ minus_1 ++ 16 ∷ minus_1 ++ 32 ∷ minus_1))
    (message_read all_ones all_ones all_ones 0 1 all_ones 0 0 0 0)
    -- the redelivery count is below 2^32
    ∷ message_is (and_then (24 ∷ 255 ∷ 255 ∷ 255 ∷ 255 ∷ 15 ∷ [])) (message_read 7 1 2 0 0 0 0 0 0 (2 ^ 32 - 1))
    ∷ message_16 (and_then (24 ∷ 128 ∷ 128 ∷ 128 ∷ 128 ∷ 16 ∷ []))
    ∷ message_16 (and_then (24 ∷ minus_1))
    -- the batch size is an int32 from 0 on, with no further limit: not 2^31, -1, -2^31, 2^32 + 3
    ∷ message_is (of_batch (129 ∷ 2 ∷ [])) (message_read 7 1 2 257 0 0 0 0 0 0)
    ∷ message_is (of_batch (255 ∷ 255 ∷ 255 ∷ 255 ∷ 7 ∷ [])) (message_read 7 1 2 (2 ^ 31 - 1) 0 0 0 0 0 0)
    ∷ message_16 (of_batch (128 ∷ 128 ∷ 128 ∷ 128 ∷ 8 ∷ []))
    ∷ message_16 (of_batch minus_1)
    ∷ message_16 (of_batch (128 ∷ 128 ∷ 128 ∷ 128 ∷ 248 ∷ 255 ∷ 255 ∷ 255 ∷ 255 ∷ 1 ∷ []))
    ∷ message_16 (of_batch (131 ∷ 128 ∷ 128 ∷ 128 ∷ 16 ∷ []))
    -- a type below 2^31 or in the ten-byte negative range, else 16
    ∷ message_17 (8 ∷ minus_1)
    ∷ message_17 (8 ∷ 255 ∷ 255 ∷ 255 ∷ 255 ∷ 7 ∷ [])
    ∷ message_16 (8 ∷ 128 ∷ 128 ∷ 128 ∷ 128 ∷ 8 ∷ [])
    -- at most 4 words, in order
    ∷ message_is (and_then (32 ∷ 8 ∷ 32 ∷ 7 ∷ 32 ∷ 6 ∷ 32 ∷ 5 ∷ [])) (message_read 7 1 2 0 4 8 7 6 5 0)
    ∷ message_16 (and_then (times 5 (32 ∷ 0 ∷ [])))
    -- on 16 and 17 the record does not change
    ∷ row (record_after (replicate 13 3) (message (8 ∷ 9 ∷ []))) (replicate 13 3)
    ∷ row (record_after (replicate 13 3) (message (8 ∷ 18 ∷ []))) (replicate 13 3)
    ∷ []

-- ---- a record written

-- a record of consumer 7 and id (1, 2), with a handle, cost and permits: batch size, count, the words, redelivery count
abbrev pub a_record : ℕ → ℕ → List ℕ → ℕ → List ℕ
a_record batch count words redelivery = 7 ∷ 1 ∷ 2 ∷ 99 ∷ batch ∷ count ∷ words ++ redelivery ∷ 98 ∷ 97 ∷ []

-- the bytes of its Message: of the message, of the batch size, and those after the id
abbrev pub its_bytes : ℕ → List ℕ → List ℕ → List ℕ
its_bytes size batch after =
    8 ∷ 9 ∷ 74 ∷ size ∷ 8 ∷ 7 ∷ a_part (18 ∷ []) (8 ∷ 1 ∷ 16 ∷ 2 ∷ 24 ∷ minus_1 ++ 32 ∷ minus_1 ++ 48 ∷ batch) ++ after

-- the largest record
abbrev pub largest : List ℕ
largest = replicate 4 all_ones ++ 256 ∷ 4 ∷ replicate 4 all_ones ++ (2 ^ 32 - 1) ∷ all_ones ∷ all_ones ∷ []

-- the bytes of its Message
abbrev pub largest_bytes : List ℕ
largest_bytes =
    8 ∷ 9 ∷ 74 ∷ 110 ∷ 8 ∷ minus_1 ++ 18 ∷ 47 ∷ 8 ∷ minus_1 ++ 16 ∷ minus_1 ++ 24 ∷ minus_1 ++ 32 ∷ minus_1 ++ 48 ∷ 128 ∷ 2
    ∷ 24 ∷ 255 ∷ 255 ∷ 255 ∷ 255 ∷ 15 ∷ times 4 (32 ∷ minus_1)

-- records
unfoldable pub written_rows : List Row
written_rows =
    -- the type, then the message with consumer, id, redelivery count and ack words; of the id ledger, entry, partition -1 and
    -- batch index -1 in ten bytes each, and the batch size also where it is 0
    written_is (a_record 0 0 (0 ∷ 0 ∷ 0 ∷ 0 ∷ []) 0)
    (8 ∷ 9 ∷ 74 ∷ 34 ∷ 8 ∷ 7 ∷ 18 ∷ 28 ∷ 8 ∷ 1 ∷ 16 ∷ 2
    ∷ 24 ∷ 255 ∷ 255 ∷ 255 ∷ 255 ∷ 255 ∷ 255 ∷ 255 ∷ 255 ∷ 255 ∷ 1
    ∷ 32 ∷ 255 ∷ 255 ∷ 255 ∷ 255 ∷ 255 ∷ 255 ∷ 255 ∷ 255 ∷ 255 ∷ 1 ∷ 48 ∷ 0 ∷ 24 ∷ 0 ∷ [])
    ∷ written_is (a_record 3 2 (5 ∷ 300 ∷ 0 ∷ 0 ∷ []) 4) (its_bytes 39 (3 ∷ []) (24 ∷ 4 ∷ 32 ∷ 5 ∷ 32 ∷ 172 ∷ 2 ∷ []))
    -- a word of 0 is written as well
    ∷ written_is (a_record 65 2 (0 ∷ 1 ∷ 0 ∷ 0 ∷ []) 0) (its_bytes 38 (65 ∷ []) (24 ∷ 0 ∷ 32 ∷ 0 ∷ 32 ∷ 1 ∷ []))
    -- the largest command is 114 bytes
    ∷ written_is largest largest_bytes
    ∷ row (bytes_answer (write_message (replicate 256 0) largest) ∷ []) (29184 ∷ [])
    -- at most 4 words
    ∷ written_is (a_record 0 4 (5 ∷ 6 ∷ 7 ∷ 8 ∷ []) 0) (its_bytes 42 (0 ∷ []) (24 ∷ 0 ∷ 32 ∷ 5 ∷ 32 ∷ 6 ∷ 32 ∷ 7 ∷ 32 ∷ 8 ∷ []))
    ∷ written_16 (a_record 0 5 (5 ∷ 6 ∷ 7 ∷ 8 ∷ []) 0)
    ∷ written_16 (a_record 0 all_ones (5 ∷ 6 ∷ 7 ∷ 8 ∷ []) 0)
    -- a batch size of at most 256
    ∷ written_is (a_record 256 0 (0 ∷ 0 ∷ 0 ∷ 0 ∷ []) 0) (its_bytes 35 (128 ∷ 2 ∷ []) (24 ∷ 0 ∷ []))
    ∷ written_16 (a_record 257 0 (0 ∷ 0 ∷ 0 ∷ 0 ∷ []) 0)
    ∷ written_16 (a_record all_ones 0 (0 ∷ 0 ∷ 0 ∷ 0 ∷ []) 0)
    -- a redelivery count of 32 bits
    ∷ written_is (a_record 0 0 (0 ∷ 0 ∷ 0 ∷ 0 ∷ []) (2 ^ 32 - 1)) (its_bytes 38 (0 ∷ []) (24 ∷ 255 ∷ 255 ∷ 255 ∷ 255 ∷ 15 ∷ []))
    ∷ written_16 (a_record 0 0 (0 ∷ 0 ∷ 0 ∷ 0 ∷ []) (2 ^ 32))
    -- a buffer of at least 256 bytes, however few are written
    ∷ row (bytes_answer (write_message (replicate 256 3) (a_record 0 0 (0 ∷ 0 ∷ 0 ∷ 0 ∷ []) 0)) ∷ []) (38 * 256 ∷ [])
    ∷ row (bytes_answer (write_message (replicate 255 3) (a_record 0 0 (0 ∷ 0 ∷ 0 ∷ 0 ∷ []) 0)) ∷ []) (16 ∷ [])
    -- words past the count are ignored; handle, cost and permits too
    ∷ written_is (a_record 0 1 (5 ∷ 6 ∷ 7 ∷ 8 ∷ []) 0) (its_bytes 36 (0 ∷ []) (24 ∷ 0 ∷ 32 ∷ 5 ∷ []))
    ∷ written_is (a_record 0 0 (5 ∷ 6 ∷ 7 ∷ 8 ∷ []) 0) (its_bytes 34 (0 ∷ []) (24 ∷ 0 ∷ []))
    ∷ written_is (7 ∷ 1 ∷ 2 ∷ all_ones ∷ 0 ∷ 0 ∷ 0 ∷ 0 ∷ 0 ∷ 0 ∷ 0 ∷ all_ones ∷ all_ones ∷ []) (its_bytes 34 (0 ∷ []) (24 ∷ 0 ∷ []))
    -- what follows in the buffer does not change; on 16 nothing does
    ∷ row (buffer_after (replicate 257 3) (write_message (replicate 257 3) largest)) (largest_bytes ++ replicate 143 3)
    ∷ row (buffer_after (replicate 256 3) (write_message (replicate 256 3) (a_record 257 0 (0 ∷ 0 ∷ 0 ∷ 0 ∷ []) 0))) (replicate 256 3)
    ∷ row (buffer_after (replicate 255 3) (write_message (replicate 255 3) (a_record 0 0 (0 ∷ 0 ∷ 0 ∷ 0 ∷ []) 0))) (replicate 255 3)
    -- reading what was written gives consumer, ids, batch size, redelivery count and ack words
    ∷ message_is (bytes_written (write_message (replicate 256 0) (a_record 65 2 (5 ∷ 300 ∷ 8 ∷ 9 ∷ []) 4))) (message_read 7 1 2 65 2 5 300 0 0 4)
    ∷ message_is (bytes_written (write_message (replicate 256 0) largest))
    (message_read all_ones all_ones all_ones 256 4 all_ones all_ones all_ones all_ones (2 ^ 32 - 1))
    ∷ []
