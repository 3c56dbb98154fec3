-- Readings of a message's fields, of what is looked at and what is not, by the sentences of the rules.
use Rattle.std.specs.Prelude.{◌-◌, ◌^◌, List, [], ◌∷◌, ◌++◌, replicate}
use Rattle.wire.specs.Readings.Rows.{Row, fields_are, no_fields, command_is, command_16, message_is, message_16, minus_1}
use Rattle.wire.specs.Readings.Rows.{a_flow, an_ack, a_subscribe, ack_id, redeliver_id, seek_id, message_id}
use Rattle.wire.specs.Readings.Rows.{flow_read, ack_read, subscribe_read, redeliver_read, seek_read, message_read}

-- the fields of a message
unfoldable pub field_rows : List Row
field_rows =
    -- number and wire type from the tag, in the order in which they stand; no bytes are a message of no fields
    fields_are [] []
    ∷ fields_are (8 ∷ 7 ∷ []) (1 ∷ 0 ∷ 7 ∷ 1 ∷ 2 ∷ [])
    ∷ fields_are (130 ∷ 1 ∷ 1 ∷ 66 ∷ 8 ∷ 172 ∷ 2 ∷ []) (16 ∷ 2 ∷ 0 ∷ 3 ∷ 4 ∷ 1 ∷ 0 ∷ 300 ∷ 5 ∷ 7 ∷ [])
    ∷ fields_are (16 ∷ 5 ∷ 8 ∷ 7 ∷ 16 ∷ 6 ∷ []) (2 ∷ 0 ∷ 5 ∷ 1 ∷ 2 ∷ 1 ∷ 0 ∷ 7 ∷ 3 ∷ 4 ∷ 2 ∷ 0 ∷ 6 ∷ 5 ∷ 6 ∷ [])
    -- a tag without what it announces
    ∷ no_fields (8 ∷ [])
    ∷ no_fields (10 ∷ [])
    ∷ no_fields (8 ∷ 7 ∷ 16 ∷ [])
    -- number 0, of any wire type, and in a longer form
    ∷ no_fields (0 ∷ 0 ∷ [])
    ∷ no_fields (1 ∷ replicate 8 0)
    ∷ no_fields (2 ∷ 0 ∷ [])
    ∷ no_fields (5 ∷ replicate 4 0)
    ∷ no_fields (128 ∷ 0 ∷ 0 ∷ [])
    -- number 2^29 - 1 is one, 2^29 and above is none
    ∷ fields_are (248 ∷ 255 ∷ 255 ∷ 255 ∷ 15 ∷ 7 ∷ []) ((2 ^ 29 - 1) ∷ 0 ∷ 7 ∷ 5 ∷ 6 ∷ [])
    ∷ fields_are (250 ∷ 255 ∷ 255 ∷ 255 ∷ 15 ∷ 1 ∷ 9 ∷ []) ((2 ^ 29 - 1) ∷ 2 ∷ 0 ∷ 6 ∷ 7 ∷ [])
    ∷ fields_are (253 ∷ 255 ∷ 255 ∷ 255 ∷ 15 ∷ replicate 4 0) ((2 ^ 29 - 1) ∷ 5 ∷ 0 ∷ 5 ∷ 9 ∷ [])
    ∷ no_fields (128 ∷ 128 ∷ 128 ∷ 128 ∷ 16 ∷ 7 ∷ [])
    ∷ no_fields (136 ∷ 128 ∷ 128 ∷ 128 ∷ 16 ∷ 7 ∷ [])
    ∷ no_fields (136 ∷ replicate 8 128 ++ 1 ∷ 7 ∷ [])
    -- wire types 0, 1, 2 and 5 are fields
    ∷ fields_are (8 ∷ replicate 1 0) (1 ∷ 0 ∷ 0 ∷ 1 ∷ 2 ∷ [])
    ∷ fields_are (9 ∷ replicate 8 0) (1 ∷ 1 ∷ 0 ∷ 1 ∷ 9 ∷ [])
    ∷ fields_are (10 ∷ replicate 1 0) (1 ∷ 2 ∷ 0 ∷ 2 ∷ 2 ∷ [])
    ∷ fields_are (13 ∷ replicate 4 0) (1 ∷ 5 ∷ 0 ∷ 1 ∷ 5 ∷ [])
    -- groups (3, 4) are none, nor are 6 and 7, whatever follows
    ∷ no_fields (11 ∷ [])
    ∷ no_fields (12 ∷ [])
    ∷ no_fields (11 ∷ 12 ∷ [])
    ∷ no_fields (11 ∷ 8 ∷ 7 ∷ 12 ∷ [])
    ∷ no_fields (14 ∷ [])
    ∷ no_fields (14 ∷ 1 ∷ 8 ∷ 7 ∷ [])
    ∷ no_fields (15 ∷ [])
    ∷ no_fields (15 ∷ 1 ∷ 8 ∷ 7 ∷ [])
    -- a 64-bit field is skipped by 8 bytes, a 32-bit one by 4, whatever they are; one byte short is past the end
    ∷ fields_are (9 ∷ replicate 8 255 ++ 16 ∷ 7 ∷ []) (1 ∷ 1 ∷ 0 ∷ 1 ∷ 9 ∷ 2 ∷ 0 ∷ 7 ∷ 10 ∷ 11 ∷ [])
    ∷ no_fields (9 ∷ replicate 7 0)
    ∷ fields_are (13 ∷ replicate 4 255 ++ 16 ∷ 7 ∷ []) (1 ∷ 5 ∷ 0 ∷ 1 ∷ 5 ∷ 2 ∷ 0 ∷ 7 ∷ 6 ∷ 7 ∷ [])
    ∷ no_fields (13 ∷ replicate 3 0)
    -- a length-delimited one by its length; not one that ends one past the end, nor one whose length only has low bits that fit
    ∷ fields_are (10 ∷ 3 ∷ 255 ∷ 255 ∷ 255 ∷ 16 ∷ 7 ∷ []) (1 ∷ 2 ∷ 0 ∷ 2 ∷ 5 ∷ 2 ∷ 0 ∷ 7 ∷ 6 ∷ 7 ∷ [])
    ∷ no_fields (10 ∷ 1 ∷ [])
    ∷ no_fields (10 ∷ 3 ∷ 1 ∷ 2 ∷ [])
    ∷ no_fields (10 ∷ 129 ∷ 128 ∷ 128 ∷ 128 ∷ 16 ∷ 9 ∷ [])
    ∷ no_fields (10 ∷ minus_1)
    ∷ []

-- what is looked at
unfoldable pub looked_at_rows : List Row
looked_at_rows =
    -- all fields of BaseCommand: number 0, a group, what runs past the end
    command_is (a_flow (8 ∷ 7 ∷ 16 ∷ 5 ∷ []) ++ 24 ∷ 1 ∷ []) (flow_read 7 5)
    ∷ command_16 (a_flow (8 ∷ 7 ∷ 16 ∷ 5 ∷ []) ++ 0 ∷ 1 ∷ [])
    ∷ command_16 (a_flow (8 ∷ 7 ∷ 16 ∷ 5 ∷ []) ++ 27 ∷ 28 ∷ [])
    ∷ command_16 (a_flow (8 ∷ 7 ∷ 16 ∷ 5 ∷ []) ++ 26 ∷ 1 ∷ [])
    ∷ command_16 (26 ∷ 9 ∷ a_flow (8 ∷ 7 ∷ 16 ∷ 5 ∷ []))
    -- all fields of the chosen message
    ∷ command_is (a_flow (8 ∷ 7 ∷ 16 ∷ 5 ∷ 24 ∷ 1 ∷ [])) (flow_read 7 5)
    ∷ command_16 (a_flow (8 ∷ 7 ∷ 16 ∷ 5 ∷ 0 ∷ 1 ∷ []))
    ∷ command_16 (a_flow (8 ∷ 7 ∷ 16 ∷ 5 ∷ 27 ∷ 28 ∷ []))
    ∷ command_16 (a_flow (8 ∷ 7 ∷ 16 ∷ 5 ∷ 26 ∷ 1 ∷ []))
    ∷ command_16 (a_flow (27 ∷ 8 ∷ 7 ∷ 16 ∷ 5 ∷ 28 ∷ []))
    -- all fields of an id of Ack, Redeliver, Seek and Message
    ∷ command_is (ack_id (8 ∷ 1 ∷ 16 ∷ 2 ∷ 24 ∷ 3 ∷ [])) (ack_read 7 (1 ∷ 2 ∷ 0 ∷ []))
    ∷ command_16 (ack_id (8 ∷ 1 ∷ 16 ∷ 2 ∷ 0 ∷ 3 ∷ []))
    ∷ command_16 (ack_id (8 ∷ 1 ∷ 16 ∷ 2 ∷ 27 ∷ 28 ∷ []))
    ∷ command_16 (ack_id (8 ∷ 1 ∷ 16 ∷ 2 ∷ 58 ∷ 1 ∷ []))
    ∷ command_is (redeliver_id (8 ∷ 1 ∷ 16 ∷ 2 ∷ 24 ∷ 3 ∷ [])) (redeliver_read 7 (1 ∷ 2 ∷ 0 ∷ []))
    ∷ command_16 (redeliver_id (8 ∷ 1 ∷ 16 ∷ 2 ∷ 0 ∷ 3 ∷ []))
    ∷ command_16 (redeliver_id (8 ∷ 1 ∷ 16 ∷ 2 ∷ 27 ∷ 28 ∷ []))
    ∷ command_16 (redeliver_id (8 ∷ 1 ∷ 16 ∷ 2 ∷ 58 ∷ 1 ∷ []))
    ∷ command_is (seek_id (8 ∷ 1 ∷ 16 ∷ 2 ∷ 24 ∷ 3 ∷ [])) (seek_read 7 9 1 1 2)
    ∷ command_16 (seek_id (8 ∷ 1 ∷ 16 ∷ 2 ∷ 0 ∷ 3 ∷ []))
    ∷ command_16 (seek_id (8 ∷ 1 ∷ 16 ∷ 2 ∷ 27 ∷ 28 ∷ []))
    ∷ command_16 (seek_id (8 ∷ 1 ∷ 16 ∷ 2 ∷ 58 ∷ 1 ∷ []))
    ∷ message_is (message_id (8 ∷ 1 ∷ 16 ∷ 2 ∷ 24 ∷ 3 ∷ [])) (message_read 7 1 2 0 0 0 0 0 0 0)
    ∷ message_16 (message_id (8 ∷ 1 ∷ 16 ∷ 2 ∷ 0 ∷ 3 ∷ []))
    ∷ message_16 (message_id (8 ∷ 1 ∷ 16 ∷ 2 ∷ 27 ∷ 28 ∷ []))
    ∷ message_16 (message_id (8 ∷ 1 ∷ 16 ∷ 2 ∷ 58 ∷ 1 ∷ []))
    -- each id of a list, the last too
    ∷ command_16 (an_ack (8 ∷ 7 ∷ 16 ∷ 0 ∷ 26 ∷ 4 ∷ 8 ∷ 1 ∷ 16 ∷ 2 ∷ 26 ∷ 6 ∷ 8 ∷ 1 ∷ 16 ∷ 3 ∷ 27 ∷ 28 ∷ []))
    ∷ []

-- what is not looked at
unfoldable pub skipped_rows : List Row
skipped_rows =
    -- another type's message: not a message inside, twice, of another wire type
    command_is (82 ∷ 2 ∷ 255 ∷ 255 ∷ a_flow (8 ∷ 7 ∷ 16 ∷ 5 ∷ [])) (flow_read 7 5)
    ∷ command_is (82 ∷ 0 ∷ 82 ∷ 1 ∷ 0 ∷ a_flow (8 ∷ 7 ∷ 16 ∷ 5 ∷ []) ++ 82 ∷ 0 ∷ []) (flow_read 7 5)
    ∷ command_is (80 ∷ 3 ∷ a_flow (8 ∷ 7 ∷ 16 ∷ 5 ∷ []) ++ 37 ∷ replicate 4 255) (flow_read 7 5)
    ∷ message_is (90 ∷ 1 ∷ 11 ∷ message_id (8 ∷ 1 ∷ 16 ∷ 2 ∷ [])) (message_read 7 1 2 0 0 0 0 0 0 0)
    -- the inside of a field that BaseCommand does not declare, or that the chosen message or an id does not read
    ∷ command_is (a_flow (8 ∷ 7 ∷ 16 ∷ 5 ∷ []) ++ 194 ∷ 62 ∷ 1 ∷ 11 ∷ []) (flow_read 7 5)
    ∷ command_is (an_ack (8 ∷ 7 ∷ 16 ∷ 0 ∷ 42 ∷ 2 ∷ 11 ∷ 255 ∷ [])) (ack_read 7 [])
    ∷ command_is (ack_id (8 ∷ 1 ∷ 16 ∷ 2 ∷ 58 ∷ 1 ∷ 255 ∷ [])) (ack_read 7 (1 ∷ 2 ∷ 0 ∷ []))
    -- start_message_id of a Subscribe is no id that is read
    ∷ command_is (a_subscribe (10 ∷ 1 ∷ 97 ∷ 18 ∷ 1 ∷ 98 ∷ 24 ∷ 1 ∷ 32 ∷ 7 ∷ 40 ∷ 9 ∷ 74 ∷ 2 ∷ 8 ∷ 255 ∷ []))
    (subscribe_read 7 9 1 6 1 9 1)
    -- fields that are not read may repeat and have any wire type but a group
    ∷ command_is (a_flow (26 ∷ 1 ∷ 11 ∷ 8 ∷ 7 ∷ 25 ∷ replicate 8 255 ++ 16 ∷ 5 ∷ 29 ∷ replicate 4 255 ++ 24 ∷ 1 ∷ [])) (flow_read 7 5)
    ∷ command_is (an_ack (66 ∷ 1 ∷ 9 ∷ 8 ∷ 7 ∷ 16 ∷ 0 ∷ 64 ∷ 3 ∷ 64 ∷ 4 ∷ [])) (ack_read 7 [])
    ∷ command_is (ack_id (26 ∷ 1 ∷ 9 ∷ 8 ∷ 1 ∷ 16 ∷ 2 ∷ 24 ∷ 3 ∷ 24 ∷ 3 ∷ [])) (ack_read 7 (1 ∷ 2 ∷ 0 ∷ []))
    -- and any number: a partition of 2^64 - 1, a batch index of 2^32
    ∷ command_is (ack_id (8 ∷ 1 ∷ 16 ∷ 2 ∷ 24 ∷ minus_1 ++ 32 ∷ 128 ∷ 128 ∷ 128 ∷ 128 ∷ 16 ∷ [])) (ack_read 7 (1 ∷ 2 ∷ 0 ∷ []))
    -- in Ack and Redeliver the batch size is not read, in Seek neither that nor the ack set, which may be packed there, in
    -- Message the id's ack set is not
    ∷ command_is (ack_id (8 ∷ 1 ∷ 16 ∷ 2 ∷ 48 ∷ minus_1 ++ 50 ∷ 1 ∷ 255 ∷ [])) (ack_read 7 (1 ∷ 2 ∷ 0 ∷ []))
    ∷ command_is (redeliver_id (8 ∷ 1 ∷ 16 ∷ 2 ∷ 48 ∷ minus_1 ++ 50 ∷ 1 ∷ 255 ∷ [])) (redeliver_read 7 (1 ∷ 2 ∷ 0 ∷ []))
    ∷ command_is (seek_id (8 ∷ 1 ∷ 16 ∷ 2 ∷ 42 ∷ 2 ∷ 5 ∷ 255 ∷ 48 ∷ minus_1 ++ 48 ∷ 1 ∷ [])) (seek_read 7 9 1 1 2)
    ∷ message_is (message_id (8 ∷ 1 ∷ 16 ∷ 2 ∷ 40 ∷ 3 ∷ 42 ∷ 2 ∷ 5 ∷ 255 ∷ [])) (message_read 7 1 2 0 0 0 0 0 0 0)
    ∷ []
