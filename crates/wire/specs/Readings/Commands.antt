-- Readings of the six commands, by the sentences of the rules: what is read, and each way in which a field that is read is
-- refused.
use Rattle.std.specs.Prelude.{ℕ, ◌-◌, ◌^◌, List, [], ◌∷◌, ◌++◌, replicate}
use Rattle.wire.specs.Readings.Rows.{Row, command_is, command_16, command_17, a_part, a_long_part, minus_1}
use Rattle.wire.specs.Readings.Rows.{a_subscribe, an_ack, a_flow, a_close, a_redeliver, a_seek, ack_id, redeliver_id, seek_id}
use Rattle.wire.specs.Readings.Rows.{subscribe_read, ack_read, flow_read, close_read, redeliver_read, seek_read}

-- a Subscribe of topic "ab", subscription "c" and a sub type in some bytes
abbrev pub of_sub_type : List ℕ → List ℕ
of_sub_type sub_type = a_subscribe (10 ∷ 2 ∷ 97 ∷ 98 ∷ 18 ∷ 1 ∷ 99 ∷ 24 ∷ sub_type ++ 32 ∷ 7 ∷ 40 ∷ 9 ∷ [])

-- each command, its fields in ascending order, in another, and with fields between that are not read
unfoldable pub read_rows : List Row
read_rows =
    -- Subscribe: topic 1, subscription 2, subType 3, consumer_id 4, request_id 5
    command_is (a_subscribe (10 ∷ 2 ∷ 97 ∷ 98 ∷ 18 ∷ 1 ∷ 99 ∷ 24 ∷ 1 ∷ 32 ∷ 7 ∷ 40 ∷ 9 ∷ [])) (subscribe_read 7 9 1 6 2 10 1)
    ∷ command_is (a_subscribe (40 ∷ 9 ∷ 32 ∷ 7 ∷ 24 ∷ 1 ∷ 18 ∷ 1 ∷ 99 ∷ 10 ∷ 2 ∷ 97 ∷ 98 ∷ [])) (subscribe_read 7 9 1 15 2 12 1)
    ∷ command_is
    (a_subscribe (50 ∷ 1 ∷ 120 ∷ 10 ∷ 2 ∷ 97 ∷ 98 ∷ 56 ∷ 1 ∷ 18 ∷ 1 ∷ 99 ∷ 56 ∷ 2 ∷ 24 ∷ 1 ∷ 32 ∷ 7 ∷ 64 ∷ 1 ∷ 40 ∷ 9 ∷ 82 ∷ 0 ∷ []))
    (subscribe_read 7 9 1 9 2 15 1)
    -- Flow: consumer_id 1, messagePermits 2
    ∷ command_is (a_flow (8 ∷ 7 ∷ 16 ∷ 5 ∷ [])) (flow_read 7 5)
    ∷ command_is (a_flow (16 ∷ 5 ∷ 8 ∷ 7 ∷ [])) (flow_read 7 5)
    ∷ command_is (a_flow (24 ∷ 1 ∷ 8 ∷ 7 ∷ 34 ∷ 1 ∷ 16 ∷ 16 ∷ 5 ∷ 24 ∷ 2 ∷ [])) (flow_read 7 5)
    -- Ack: consumer_id 1, ack_type 2, message_id 3, of which ledgerId 1, entryId 2, ack_set 5
    ∷ command_is (an_ack (8 ∷ 7 ∷ 16 ∷ 0 ∷ [])) (ack_read 7 [])
    ∷ command_is (an_ack (8 ∷ 7 ∷ 16 ∷ 0 ∷ 26 ∷ 8 ∷ 8 ∷ 1 ∷ 16 ∷ 2 ∷ 40 ∷ 5 ∷ 40 ∷ 6 ∷ 26 ∷ 4 ∷ 8 ∷ 1 ∷ 16 ∷ 3 ∷ []))
    (ack_read 7 (1 ∷ 2 ∷ 2 ∷ 5 ∷ 6 ∷ 1 ∷ 3 ∷ 0 ∷ []))
    ∷ command_is (an_ack (26 ∷ 8 ∷ 40 ∷ 5 ∷ 16 ∷ 2 ∷ 40 ∷ 6 ∷ 8 ∷ 1 ∷ 16 ∷ 0 ∷ 26 ∷ 4 ∷ 16 ∷ 3 ∷ 8 ∷ 1 ∷ 8 ∷ 7 ∷ []))
    (ack_read 7 (1 ∷ 2 ∷ 2 ∷ 5 ∷ 6 ∷ 1 ∷ 3 ∷ 0 ∷ []))
    ∷ command_is (an_ack (32 ∷ 1 ∷ 8 ∷ 7 ∷ 48 ∷ 4 ∷ 16 ∷ 0 ∷ 26 ∷ 6 ∷ 24 ∷ 4 ∷ 8 ∷ 1 ∷ 16 ∷ 2 ∷ 66 ∷ 0 ∷ []))
    (ack_read 7 (1 ∷ 2 ∷ 0 ∷ []))
    -- Seek: consumer_id 1, request_id 2, message_id 3
    ∷ command_is (a_seek (8 ∷ 7 ∷ 16 ∷ 9 ∷ 26 ∷ 4 ∷ 8 ∷ 1 ∷ 16 ∷ 2 ∷ [])) (seek_read 7 9 1 1 2)
    ∷ command_is (a_seek (26 ∷ 4 ∷ 16 ∷ 2 ∷ 8 ∷ 1 ∷ 16 ∷ 9 ∷ 8 ∷ 7 ∷ [])) (seek_read 7 9 1 1 2)
    ∷ command_is (a_seek (40 ∷ 1 ∷ 8 ∷ 7 ∷ 42 ∷ 0 ∷ 16 ∷ 9 ∷ 26 ∷ 6 ∷ 8 ∷ 1 ∷ 32 ∷ 3 ∷ 16 ∷ 2 ∷ [])) (seek_read 7 9 1 1 2)
    -- Redeliver: consumer_id 1, message_ids 2, of which ledgerId 1, entryId 2, ack_set 5
    ∷ command_is (a_redeliver (8 ∷ 7 ∷ [])) (redeliver_read 7 [])
    ∷ command_is (a_redeliver (8 ∷ 7 ∷ 18 ∷ 6 ∷ 8 ∷ 1 ∷ 16 ∷ 2 ∷ 40 ∷ 5 ∷ 18 ∷ 4 ∷ 8 ∷ 1 ∷ 16 ∷ 3 ∷ []))
    (redeliver_read 7 (1 ∷ 2 ∷ 1 ∷ 5 ∷ 1 ∷ 3 ∷ 0 ∷ []))
    ∷ command_is (a_redeliver (18 ∷ 6 ∷ 40 ∷ 5 ∷ 16 ∷ 2 ∷ 8 ∷ 1 ∷ 8 ∷ 7 ∷ 18 ∷ 4 ∷ 16 ∷ 3 ∷ 8 ∷ 1 ∷ []))
    (redeliver_read 7 (1 ∷ 2 ∷ 1 ∷ 5 ∷ 1 ∷ 3 ∷ 0 ∷ []))
    ∷ command_is (a_redeliver (24 ∷ 1 ∷ 8 ∷ 7 ∷ 24 ∷ 2 ∷ 18 ∷ 6 ∷ 8 ∷ 1 ∷ 32 ∷ 3 ∷ 16 ∷ 2 ∷ 26 ∷ 0 ∷ []))
    (redeliver_read 7 (1 ∷ 2 ∷ 0 ∷ []))
    -- CloseConsumer: consumer_id 1, request_id 2
    ∷ command_is (a_close (8 ∷ 7 ∷ 16 ∷ 9 ∷ [])) (close_read 7 9)
    ∷ command_is (a_close (16 ∷ 9 ∷ 8 ∷ 7 ∷ [])) (close_read 7 9)
    ∷ command_is (a_close (26 ∷ 1 ∷ 120 ∷ 8 ∷ 7 ∷ 34 ∷ 0 ∷ 16 ∷ 9 ∷ 40 ∷ 1 ∷ [])) (close_read 7 9)
    -- BaseCommand: the type after its message, fields before, between and after them
    ∷ command_is (a_part (90 ∷ []) (8 ∷ 7 ∷ 16 ∷ 5 ∷ []) ++ 8 ∷ 11 ∷ []) (flow_read 7 5)
    ∷ command_is (26 ∷ 0 ∷ 8 ∷ 11 ∷ 24 ∷ 1 ∷ a_part (90 ∷ []) (8 ∷ 7 ∷ 16 ∷ 5 ∷ []) ++ 248 ∷ 6 ∷ 1 ∷ []) (flow_read 7 5)
    -- names: where they start in the input and how long they are; not tested as UTF-8, and they may be empty
    ∷ command_is (a_part (34 ∷ []) (10 ∷ 2 ∷ 97 ∷ 98 ∷ 18 ∷ 1 ∷ 99 ∷ 24 ∷ 1 ∷ 32 ∷ 7 ∷ 40 ∷ 9 ∷ []) ++ 8 ∷ 4 ∷ []) (subscribe_read 7 9 1 4 2 8 1)
    ∷ command_is (26 ∷ 1 ∷ 0 ∷ a_subscribe (10 ∷ 2 ∷ 97 ∷ 98 ∷ 18 ∷ 1 ∷ 99 ∷ 24 ∷ 1 ∷ 32 ∷ 7 ∷ 40 ∷ 9 ∷ [])) (subscribe_read 7 9 1 9 2 13 1)
    ∷ command_is (8 ∷ 4 ∷ a_long_part (34 ∷ []) (10 ∷ 200 ∷ 1 ∷ replicate 200 97 ++ 18 ∷ 1 ∷ 99 ∷ 24 ∷ 1 ∷ 32 ∷ 7 ∷ 40 ∷ 9 ∷ []))
    (subscribe_read 7 9 1 8 200 210 1)
    ∷ command_is (a_subscribe (10 ∷ 2 ∷ 255 ∷ 192 ∷ 18 ∷ 1 ∷ 128 ∷ 24 ∷ 1 ∷ 32 ∷ 7 ∷ 40 ∷ 9 ∷ [])) (subscribe_read 7 9 1 6 2 10 1)
    ∷ command_is (a_subscribe (24 ∷ 0 ∷ 32 ∷ 7 ∷ 40 ∷ 9 ∷ 10 ∷ 0 ∷ 18 ∷ 0 ∷ [])) (subscribe_read 7 9 0 12 0 14 0)
    ∷ []

-- a field that is read has the wire type of its declaration
unfoldable pub wire_type_rows : List Row
wire_type_rows =
    -- BaseCommand: the type is a varint, the message length-delimited
    command_16 (10 ∷ 1 ∷ 11 ∷ a_part (90 ∷ []) (8 ∷ 7 ∷ 16 ∷ 5 ∷ []))
    ∷ command_16 (13 ∷ 11 ∷ 0 ∷ 0 ∷ 0 ∷ a_part (90 ∷ []) (8 ∷ 7 ∷ 16 ∷ 5 ∷ []))
    ∷ command_16 (8 ∷ 11 ∷ 88 ∷ 4 ∷ [])
    ∷ command_16 (8 ∷ 11 ∷ 89 ∷ replicate 8 0)
    -- of another wire type, also beside the right one
    ∷ command_16 (a_flow (8 ∷ 7 ∷ 10 ∷ 1 ∷ 7 ∷ 16 ∷ 5 ∷ []))
    ∷ command_16 (a_flow (8 ∷ 7 ∷ 16 ∷ 5 ∷ []) ++ 88 ∷ 4 ∷ [])
    -- Subscribe: names are length-delimited, the rest varints
    ∷ command_16 (a_subscribe (8 ∷ 1 ∷ 18 ∷ 1 ∷ 99 ∷ 24 ∷ 1 ∷ 32 ∷ 7 ∷ 40 ∷ 9 ∷ []))
    ∷ command_16 (a_subscribe (10 ∷ 1 ∷ 97 ∷ 16 ∷ 1 ∷ 24 ∷ 1 ∷ 32 ∷ 7 ∷ 40 ∷ 9 ∷ []))
    ∷ command_16 (a_subscribe (10 ∷ 1 ∷ 97 ∷ 18 ∷ 1 ∷ 99 ∷ 26 ∷ 1 ∷ 1 ∷ 32 ∷ 7 ∷ 40 ∷ 9 ∷ []))
    ∷ command_16 (a_subscribe (10 ∷ 1 ∷ 97 ∷ 18 ∷ 1 ∷ 99 ∷ 24 ∷ 1 ∷ 33 ∷ 7 ∷ replicate 7 0 ++ 40 ∷ 9 ∷ []))
    ∷ command_16 (a_subscribe (10 ∷ 1 ∷ 97 ∷ 18 ∷ 1 ∷ 99 ∷ 24 ∷ 1 ∷ 32 ∷ 7 ∷ 45 ∷ 9 ∷ 0 ∷ 0 ∷ 0 ∷ []))
    -- Flow
    ∷ command_16 (a_flow (9 ∷ 7 ∷ replicate 7 0 ++ 16 ∷ 5 ∷ []))
    ∷ command_16 (a_flow (8 ∷ 7 ∷ 21 ∷ 5 ∷ 0 ∷ 0 ∷ 0 ∷ []))
    -- Ack, its ids, and of an id; a packed ack set is length-delimited
    ∷ command_16 (an_ack (10 ∷ 1 ∷ 7 ∷ 16 ∷ 0 ∷ []))
    ∷ command_16 (an_ack (8 ∷ 7 ∷ 21 ∷ 0 ∷ 0 ∷ 0 ∷ 0 ∷ []))
    ∷ command_16 (an_ack (8 ∷ 7 ∷ 16 ∷ 0 ∷ 24 ∷ 1 ∷ []))
    ∷ command_16 (ack_id (10 ∷ 1 ∷ 1 ∷ 16 ∷ 2 ∷ []))
    ∷ command_16 (ack_id (8 ∷ 1 ∷ 17 ∷ replicate 8 2))
    ∷ command_is (ack_id (8 ∷ 1 ∷ 16 ∷ 2 ∷ 40 ∷ 5 ∷ 40 ∷ 6 ∷ [])) (ack_read 7 (1 ∷ 2 ∷ 2 ∷ 5 ∷ 6 ∷ []))
    ∷ command_16 (ack_id (8 ∷ 1 ∷ 16 ∷ 2 ∷ 42 ∷ 2 ∷ 5 ∷ 6 ∷ []))
    ∷ command_16 (ack_id (8 ∷ 1 ∷ 16 ∷ 2 ∷ 42 ∷ 0 ∷ []))
    ∷ command_16 (ack_id (8 ∷ 1 ∷ 16 ∷ 2 ∷ 40 ∷ 5 ∷ 42 ∷ 1 ∷ 6 ∷ []))
    -- Seek, and its id
    ∷ command_16 (a_seek (10 ∷ 1 ∷ 7 ∷ 16 ∷ 9 ∷ []))
    ∷ command_16 (a_seek (8 ∷ 7 ∷ 18 ∷ 1 ∷ 9 ∷ []))
    ∷ command_16 (a_seek (8 ∷ 7 ∷ 16 ∷ 9 ∷ 24 ∷ 1 ∷ []))
    ∷ command_16 (seek_id (13 ∷ 1 ∷ 0 ∷ 0 ∷ 0 ∷ 16 ∷ 2 ∷ []))
    ∷ command_16 (seek_id (8 ∷ 1 ∷ 18 ∷ 1 ∷ 2 ∷ []))
    -- Redeliver, its ids, and of an id
    ∷ command_16 (a_redeliver (10 ∷ 1 ∷ 7 ∷ []))
    ∷ command_16 (a_redeliver (8 ∷ 7 ∷ 16 ∷ 1 ∷ []))
    ∷ command_16 (redeliver_id (10 ∷ 1 ∷ 1 ∷ 16 ∷ 2 ∷ []))
    ∷ command_16 (redeliver_id (8 ∷ 1 ∷ 21 ∷ 2 ∷ 0 ∷ 0 ∷ 0 ∷ []))
    ∷ command_16 (redeliver_id (8 ∷ 1 ∷ 16 ∷ 2 ∷ 42 ∷ 2 ∷ 5 ∷ 6 ∷ []))
    -- CloseConsumer
    ∷ command_16 (a_close (10 ∷ 1 ∷ 7 ∷ 16 ∷ 9 ∷ []))
    ∷ command_16 (a_close (8 ∷ 7 ∷ 18 ∷ 1 ∷ 9 ∷ []))
    ∷ []

-- a singular field that is read stands once
unfoldable pub twice_rows : List Row
twice_rows =
    -- the type, and the message, also with equal values
    command_16 (8 ∷ 11 ∷ a_flow (8 ∷ 7 ∷ 16 ∷ 5 ∷ []))
    ∷ command_16 (a_flow (8 ∷ 7 ∷ 16 ∷ 5 ∷ []) ++ 8 ∷ 10 ∷ [])
    ∷ command_16 (a_flow (8 ∷ 7 ∷ 16 ∷ 5 ∷ []) ++ a_part (90 ∷ []) (8 ∷ 7 ∷ 16 ∷ 5 ∷ []))
    ∷ command_16 (a_flow (8 ∷ 7 ∷ []) ++ a_part (90 ∷ []) (16 ∷ 5 ∷ []))
    -- Subscribe
    ∷ command_16 (a_subscribe (10 ∷ 1 ∷ 97 ∷ 10 ∷ 1 ∷ 97 ∷ 18 ∷ 1 ∷ 99 ∷ 24 ∷ 1 ∷ 32 ∷ 7 ∷ 40 ∷ 9 ∷ []))
    ∷ command_16 (a_subscribe (10 ∷ 1 ∷ 97 ∷ 18 ∷ 1 ∷ 99 ∷ 18 ∷ 1 ∷ 99 ∷ 24 ∷ 1 ∷ 32 ∷ 7 ∷ 40 ∷ 9 ∷ []))
    ∷ command_16 (a_subscribe (10 ∷ 1 ∷ 97 ∷ 18 ∷ 1 ∷ 99 ∷ 24 ∷ 1 ∷ 24 ∷ 1 ∷ 32 ∷ 7 ∷ 40 ∷ 9 ∷ []))
    ∷ command_16 (a_subscribe (10 ∷ 1 ∷ 97 ∷ 18 ∷ 1 ∷ 99 ∷ 24 ∷ 1 ∷ 32 ∷ 7 ∷ 32 ∷ 7 ∷ 40 ∷ 9 ∷ []))
    ∷ command_16 (a_subscribe (10 ∷ 1 ∷ 97 ∷ 18 ∷ 1 ∷ 99 ∷ 24 ∷ 1 ∷ 32 ∷ 7 ∷ 40 ∷ 9 ∷ 40 ∷ 9 ∷ []))
    -- Flow, also with another field between, and with another value
    ∷ command_16 (a_flow (8 ∷ 7 ∷ 8 ∷ 7 ∷ 16 ∷ 5 ∷ []))
    ∷ command_16 (a_flow (8 ∷ 7 ∷ 16 ∷ 5 ∷ 8 ∷ 7 ∷ []))
    ∷ command_16 (a_flow (8 ∷ 7 ∷ 16 ∷ 5 ∷ 24 ∷ 1 ∷ 16 ∷ 6 ∷ []))
    -- Ack; of an id; the ids and the words of the ack set are not singular
    ∷ command_16 (an_ack (8 ∷ 7 ∷ 8 ∷ 7 ∷ 16 ∷ 0 ∷ []))
    ∷ command_16 (an_ack (8 ∷ 7 ∷ 16 ∷ 0 ∷ 16 ∷ 0 ∷ []))
    ∷ command_16 (ack_id (8 ∷ 1 ∷ 8 ∷ 1 ∷ 16 ∷ 2 ∷ []))
    ∷ command_16 (ack_id (8 ∷ 1 ∷ 16 ∷ 2 ∷ 16 ∷ 2 ∷ []))
    ∷ command_is (an_ack (8 ∷ 7 ∷ 16 ∷ 0 ∷ 26 ∷ 4 ∷ 8 ∷ 1 ∷ 16 ∷ 2 ∷ 26 ∷ 4 ∷ 8 ∷ 1 ∷ 16 ∷ 2 ∷ [])) (ack_read 7 (1 ∷ 2 ∷ 0 ∷ 1 ∷ 2 ∷ 0 ∷ []))
    ∷ command_is (ack_id (8 ∷ 1 ∷ 16 ∷ 2 ∷ 40 ∷ 5 ∷ 40 ∷ 5 ∷ [])) (ack_read 7 (1 ∷ 2 ∷ 2 ∷ 5 ∷ 5 ∷ []))
    -- Seek, whose id is singular, and of its id
    ∷ command_16 (a_seek (8 ∷ 7 ∷ 8 ∷ 7 ∷ 16 ∷ 9 ∷ []))
    ∷ command_16 (a_seek (8 ∷ 7 ∷ 16 ∷ 9 ∷ 16 ∷ 9 ∷ []))
    ∷ command_16 (a_seek (8 ∷ 7 ∷ 16 ∷ 9 ∷ 26 ∷ 4 ∷ 8 ∷ 1 ∷ 16 ∷ 2 ∷ 26 ∷ 4 ∷ 8 ∷ 1 ∷ 16 ∷ 2 ∷ []))
    ∷ command_16 (seek_id (8 ∷ 1 ∷ 8 ∷ 1 ∷ 16 ∷ 2 ∷ []))
    ∷ command_16 (seek_id (8 ∷ 1 ∷ 16 ∷ 2 ∷ 16 ∷ 2 ∷ []))
    -- Redeliver, and of an id
    ∷ command_16 (a_redeliver (8 ∷ 7 ∷ 8 ∷ 7 ∷ []))
    ∷ command_16 (redeliver_id (8 ∷ 1 ∷ 8 ∷ 1 ∷ 16 ∷ 2 ∷ []))
    ∷ command_16 (redeliver_id (8 ∷ 1 ∷ 16 ∷ 2 ∷ 16 ∷ 2 ∷ []))
    -- CloseConsumer
    ∷ command_16 (a_close (8 ∷ 7 ∷ 8 ∷ 7 ∷ 16 ∷ 9 ∷ []))
    ∷ command_16 (a_close (8 ∷ 7 ∷ 16 ∷ 9 ∷ 16 ∷ 9 ∷ []))
    ∷ []

-- a required field is there; a Seek may lack its id
unfoldable pub absent_rows : List Row
absent_rows =
    -- Subscribe, request_id among them
    command_16 (a_subscribe (18 ∷ 1 ∷ 99 ∷ 24 ∷ 1 ∷ 32 ∷ 7 ∷ 40 ∷ 9 ∷ []))
    ∷ command_16 (a_subscribe (10 ∷ 1 ∷ 97 ∷ 24 ∷ 1 ∷ 32 ∷ 7 ∷ 40 ∷ 9 ∷ []))
    ∷ command_16 (a_subscribe (10 ∷ 1 ∷ 97 ∷ 18 ∷ 1 ∷ 99 ∷ 32 ∷ 7 ∷ 40 ∷ 9 ∷ []))
    ∷ command_16 (a_subscribe (10 ∷ 1 ∷ 97 ∷ 18 ∷ 1 ∷ 99 ∷ 24 ∷ 1 ∷ 40 ∷ 9 ∷ []))
    ∷ command_16 (a_subscribe (10 ∷ 1 ∷ 97 ∷ 18 ∷ 1 ∷ 99 ∷ 24 ∷ 1 ∷ 32 ∷ 7 ∷ []))
    ∷ command_16 (a_subscribe [])
    -- Flow
    ∷ command_16 (a_flow (16 ∷ 5 ∷ []))
    ∷ command_16 (a_flow (8 ∷ 7 ∷ []))
    ∷ command_16 (a_flow [])
    -- Ack, ack_type among them; of an id
    ∷ command_16 (an_ack (16 ∷ 0 ∷ 26 ∷ 4 ∷ 8 ∷ 1 ∷ 16 ∷ 2 ∷ []))
    ∷ command_16 (an_ack (8 ∷ 7 ∷ 26 ∷ 4 ∷ 8 ∷ 1 ∷ 16 ∷ 2 ∷ []))
    ∷ command_16 (ack_id (16 ∷ 2 ∷ []))
    ∷ command_16 (ack_id (8 ∷ 1 ∷ []))
    ∷ command_16 (ack_id [])
    -- Seek, request_id among them; of its id
    ∷ command_16 (a_seek (16 ∷ 9 ∷ 26 ∷ 4 ∷ 8 ∷ 1 ∷ 16 ∷ 2 ∷ []))
    ∷ command_16 (a_seek (8 ∷ 7 ∷ 26 ∷ 4 ∷ 8 ∷ 1 ∷ 16 ∷ 2 ∷ []))
    ∷ command_16 (seek_id (16 ∷ 2 ∷ []))
    ∷ command_16 (seek_id (8 ∷ 1 ∷ []))
    ∷ command_16 (seek_id [])
    -- Redeliver; of an id
    ∷ command_16 (a_redeliver (18 ∷ 4 ∷ 8 ∷ 1 ∷ 16 ∷ 2 ∷ []))
    ∷ command_16 (redeliver_id (16 ∷ 2 ∷ []))
    ∷ command_16 (redeliver_id (8 ∷ 1 ∷ []))
    -- CloseConsumer
    ∷ command_16 (a_close (16 ∷ 9 ∷ []))
    ∷ command_16 (a_close (8 ∷ 7 ∷ []))
    -- Seek without an id is the start, also with a time; with an id and a time it is the id
    ∷ command_is (a_seek (8 ∷ 7 ∷ 16 ∷ 9 ∷ [])) (seek_read 7 9 0 0 0)
    ∷ command_is (a_seek (8 ∷ 7 ∷ 16 ∷ 9 ∷ 32 ∷ 3 ∷ [])) (seek_read 7 9 0 0 0)
    ∷ command_is (a_seek (8 ∷ 7 ∷ 16 ∷ 9 ∷ 26 ∷ 4 ∷ 8 ∷ 0 ∷ 16 ∷ 0 ∷ 32 ∷ 3 ∷ [])) (seek_read 7 9 1 0 0)
    ∷ []

-- a number that is read is not too wide for its field
unfoldable pub width_rows : List Row
width_rows =
    -- uint64 takes any varint
    command_is (a_close (8 ∷ minus_1 ++ 16 ∷ minus_1)) (close_read (2 ^ 64 - 1) (2 ^ 64 - 1))
    ∷ command_is (ack_id (8 ∷ minus_1 ++ 16 ∷ minus_1)) (ack_read 7 ((2 ^ 64 - 1) ∷ (2 ^ 64 - 1) ∷ 0 ∷ []))
    ∷ command_is (seek_id (8 ∷ minus_1 ++ 16 ∷ minus_1)) (seek_read 7 9 1 (2 ^ 64 - 1) (2 ^ 64 - 1))
    -- and so does int64
    ∷ command_is (ack_id (8 ∷ 1 ∷ 16 ∷ 2 ∷ 40 ∷ minus_1 ++ 40 ∷ 0 ∷ [])) (ack_read 7 (1 ∷ 2 ∷ 2 ∷ (2 ^ 64 - 1) ∷ 0 ∷ []))
    -- uint32 below 2^32
    ∷ command_is (a_flow (8 ∷ 7 ∷ 16 ∷ 255 ∷ 255 ∷ 255 ∷ 255 ∷ 15 ∷ [])) (flow_read 7 (2 ^ 32 - 1))
    ∷ command_16 (a_flow (8 ∷ 7 ∷ 16 ∷ 128 ∷ 128 ∷ 128 ∷ 128 ∷ 16 ∷ []))
    ∷ command_16 (a_flow (8 ∷ 7 ∷ 16 ∷ 133 ∷ 128 ∷ 128 ∷ 128 ∷ 16 ∷ []))
    ∷ command_16 (a_flow (8 ∷ 7 ∷ 16 ∷ minus_1))
    -- an enum below 2^31: a type of 2^31 - 1 is none that is taken, 2^31 is too wide
    ∷ command_17 (8 ∷ 255 ∷ 255 ∷ 255 ∷ 255 ∷ 7 ∷ [])
    ∷ command_16 (8 ∷ 128 ∷ 128 ∷ 128 ∷ 128 ∷ 8 ∷ [])
    ∷ command_16 (8 ∷ 255 ∷ 255 ∷ 255 ∷ 255 ∷ 15 ∷ [])
    ∷ command_16 (8 ∷ 139 ∷ 128 ∷ 128 ∷ 128 ∷ 16 ∷ a_part (90 ∷ []) (8 ∷ 7 ∷ 16 ∷ 5 ∷ []))
    -- or negative in ten bytes: -1 and -2^31; 2^64 - 2^31 - 1 is too wide
    ∷ command_17 (8 ∷ minus_1)
    ∷ command_17 (8 ∷ 128 ∷ 128 ∷ 128 ∷ 128 ∷ 248 ∷ 255 ∷ 255 ∷ 255 ∷ 255 ∷ 1 ∷ [])
    ∷ command_16 (8 ∷ 255 ∷ 255 ∷ 255 ∷ 255 ∷ 247 ∷ 255 ∷ 255 ∷ 255 ∷ 255 ∷ 1 ∷ [])
    -- any sub type but Shared, which is 1, is plain
    ∷ command_is (of_sub_type (0 ∷ [])) (subscribe_read 7 9 0 6 2 10 1)
    ∷ command_is (of_sub_type (1 ∷ [])) (subscribe_read 7 9 1 6 2 10 1)
    ∷ command_is (of_sub_type (2 ∷ [])) (subscribe_read 7 9 0 6 2 10 1)
    ∷ command_is (of_sub_type (3 ∷ [])) (subscribe_read 7 9 0 6 2 10 1)
    ∷ command_is (of_sub_type (4 ∷ [])) (subscribe_read 7 9 0 6 2 10 1)
    ∷ command_is (of_sub_type minus_1) (subscribe_read 7 9 0 6 2 10 1)
    ∷ command_is (of_sub_type (255 ∷ 255 ∷ 255 ∷ 255 ∷ 7 ∷ [])) (subscribe_read 7 9 0 6 2 10 1)
    ∷ command_16 (of_sub_type (128 ∷ 128 ∷ 128 ∷ 128 ∷ 8 ∷ []))
    ∷ command_16 (of_sub_type (129 ∷ 128 ∷ 128 ∷ 128 ∷ 16 ∷ []))
    ∷ command_16 (of_sub_type (255 ∷ 255 ∷ 255 ∷ 255 ∷ 247 ∷ 255 ∷ 255 ∷ 255 ∷ 255 ∷ 1 ∷ []))
    -- ack_type's value is ignored, its width is not
    ∷ command_is (an_ack (8 ∷ 7 ∷ 16 ∷ 1 ∷ [])) (ack_read 7 [])
    ∷ command_is (an_ack (8 ∷ 7 ∷ 16 ∷ 2 ∷ [])) (ack_read 7 [])
    ∷ command_is (an_ack (8 ∷ 7 ∷ 16 ∷ minus_1)) (ack_read 7 [])
    ∷ command_is (an_ack (8 ∷ 7 ∷ 16 ∷ 255 ∷ 255 ∷ 255 ∷ 255 ∷ 7 ∷ [])) (ack_read 7 [])
    ∷ command_16 (an_ack (8 ∷ 7 ∷ 16 ∷ 128 ∷ 128 ∷ 128 ∷ 128 ∷ 8 ∷ []))
    ∷ command_16 (an_ack (8 ∷ 7 ∷ 16 ∷ 255 ∷ 255 ∷ 255 ∷ 255 ∷ 247 ∷ 255 ∷ 255 ∷ 255 ∷ 255 ∷ 1 ∷ []))
    ∷ []
