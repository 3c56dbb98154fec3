-- Readings of what decides between 16 and 17, and of the lent list, by the sentences of the rules.
use Rattle.std.specs.Prelude.{ℕ, List, [], ◌∷◌, ◌++◌, map, replicate}
use Rattle.wire.specs.Commands.{command}
use Rattle.wire.specs.Message.{message}
use Rattle.wire.specs.Answers.{read_command, command_answer, command_after, ids_after, message_answer}
use Rattle.wire.specs.Readings.Rows.{Row, row, command_is, command_16, command_17, message_is, message_16, message_17, times}
use Rattle.wire.specs.Readings.Rows.{a_part, a_long_part, a_subscribe, an_ack, a_flow, a_close, a_seek, a_message, ack_id}
use Rattle.wire.specs.Readings.Rows.{redeliver_id, message_id, ack_read, redeliver_read, message_read}

-- ---- 16 before 17

-- what the reader of commands answers to a type alone
abbrev pub type_to_commands : ℕ → ℕ
type_to_commands type = command_answer (command (8 ∷ type ∷ []))

-- what the reader of Message does
abbrev pub type_to_message : ℕ → ℕ
type_to_message type = message_answer (message (8 ∷ type ∷ []))

-- the types from 0 to 31
abbrev pub types : List ℕ
types =
    0 ∷ 1 ∷ 2 ∷ 3 ∷ 4 ∷ 5 ∷ 6 ∷ 7 ∷ 8 ∷ 9 ∷ 10 ∷ 11 ∷ 12 ∷ 13 ∷ 14 ∷ 15
    ∷ 16 ∷ 17 ∷ 18 ∷ 19 ∷ 20 ∷ 21 ∷ 22 ∷ 23 ∷ 24 ∷ 25 ∷ 26 ∷ 27 ∷ 28 ∷ 29 ∷ 30 ∷ 31 ∷ []

-- types that are taken and others
unfoldable pub type_rows : List Row
type_rows =
    -- a type alone: 16 where the reader takes it and its message is not there, else 17
    row (map type_to_commands types)
    (17 ∷ 17 ∷ 17 ∷ 17 ∷ 16 ∷ 17 ∷ 17 ∷ 17 ∷ 17 ∷ 17 ∷ 16 ∷ 16 ∷ 17 ∷ 17 ∷ 17 ∷ 17
    ∷ 16 ∷ 17 ∷ 17 ∷ 17 ∷ 16 ∷ 17 ∷ 17 ∷ 17 ∷ 17 ∷ 17 ∷ 17 ∷ 17 ∷ 16 ∷ 17 ∷ 17 ∷ 17 ∷ [])
    ∷ row (map type_to_message types) (replicate 9 17 ++ 16 ∷ replicate 22 17)
    -- with another type's message: 16 as well
    ∷ command_16 (8 ∷ 11 ∷ a_part (82 ∷ []) (8 ∷ 7 ∷ 16 ∷ 0 ∷ []))
    ∷ command_16 (8 ∷ 10 ∷ a_part (90 ∷ []) (8 ∷ 7 ∷ 16 ∷ 5 ∷ []))
    -- no bytes, no type: 16
    ∷ command_16 []
    ∷ message_16 []
    ∷ command_16 (a_part (90 ∷ []) (8 ∷ 7 ∷ 16 ∷ 5 ∷ []))
    ∷ message_16 (a_part (74 ∷ []) (8 ∷ 7 ∷ 18 ∷ 4 ∷ 8 ∷ 1 ∷ 16 ∷ 2 ∷ []))
    -- a type that is not taken: 17 with its message, with any other field, before or after
    ∷ command_17 (8 ∷ 18 ∷ 146 ∷ 1 ∷ 0 ∷ [])
    ∷ command_17 (8 ∷ 17 ∷ a_part (90 ∷ []) (8 ∷ 7 ∷ 16 ∷ 5 ∷ []))
    ∷ command_17 (146 ∷ 1 ∷ 0 ∷ 29 ∷ 0 ∷ 0 ∷ 0 ∷ 0 ∷ 8 ∷ 18 ∷ 24 ∷ 1 ∷ 25 ∷ replicate 8 0)
    -- 17 also where the inside of its message is not well formed, which is not looked at
    ∷ command_17 (8 ∷ 18 ∷ 146 ∷ 1 ∷ 1 ∷ 11 ∷ [])
    -- 16 where such a BaseCommand is not well formed: a group, number 0, past the end, a varint of 11 bytes
    ∷ command_16 (8 ∷ 18 ∷ 27 ∷ 28 ∷ [])
    ∷ command_16 (8 ∷ 18 ∷ 0 ∷ 1 ∷ [])
    ∷ command_16 (8 ∷ 18 ∷ 26 ∷ 1 ∷ [])
    ∷ command_16 (8 ∷ 18 ∷ 25 ∷ replicate 7 0)
    ∷ command_16 (8 ∷ 18 ∷ 24 ∷ replicate 10 128 ++ 0 ∷ [])
    ∷ message_16 (8 ∷ 18 ∷ 27 ∷ 28 ∷ [])
    -- or where it has two types, also equal ones, or a type of another wire type beside
    ∷ command_16 (8 ∷ 18 ∷ 8 ∷ 18 ∷ [])
    ∷ command_16 (8 ∷ 18 ∷ 8 ∷ 11 ∷ a_part (90 ∷ []) (8 ∷ 7 ∷ 16 ∷ 5 ∷ []))
    ∷ command_16 (8 ∷ 18 ∷ 10 ∷ 0 ∷ [])
    ∷ message_16 (8 ∷ 18 ∷ 8 ∷ 18 ∷ [])
    -- two readers: a Message is 17 for the commands', also one that is not well formed inside
    ∷ message_is (message_id (8 ∷ 1 ∷ 16 ∷ 2 ∷ [])) (message_read 7 1 2 0 0 0 0 0 0 0)
    ∷ command_17 (message_id (8 ∷ 1 ∷ 16 ∷ 2 ∷ []))
    ∷ command_17 (a_message (0 ∷ []))
    -- and the six commands are 17 for the Message's
    ∷ message_17 (a_subscribe (10 ∷ 1 ∷ 97 ∷ 18 ∷ 1 ∷ 99 ∷ 24 ∷ 1 ∷ 32 ∷ 7 ∷ 40 ∷ 9 ∷ []))
    ∷ message_17 (ack_id (8 ∷ 1 ∷ 16 ∷ 2 ∷ []))
    ∷ message_17 (a_flow (8 ∷ 7 ∷ 16 ∷ 5 ∷ []))
    ∷ message_17 (a_close (8 ∷ 7 ∷ 16 ∷ 9 ∷ []))
    ∷ message_17 (redeliver_id (8 ∷ 1 ∷ 16 ∷ 2 ∷ []))
    ∷ message_17 (a_seek (8 ∷ 7 ∷ 16 ∷ 9 ∷ []))
    ∷ message_17 (a_flow (0 ∷ []))
    ∷ []

-- ---- the lent list

-- an Ack of consumer 7 with k ids, each in some bytes
abbrev pub ack_with : ℕ → List ℕ → List ℕ
ack_with k id = 8 ∷ 10 ∷ a_long_part (82 ∷ []) (8 ∷ 7 ∷ 16 ∷ 0 ∷ times k (a_part (26 ∷ []) id))

-- a Redeliver of consumer 7 with k ids
abbrev pub redeliver_with : ℕ → List ℕ → List ℕ
redeliver_with k id = 8 ∷ 20 ∷ a_long_part (162 ∷ 1 ∷ []) (8 ∷ 7 ∷ times k (a_part (18 ∷ []) id))

-- the id (1, 2) with k words, each 5
abbrev pub with_words : ℕ → List ℕ
with_words k = 8 ∷ 1 ∷ 16 ∷ 2 ∷ times k (40 ∷ 5 ∷ [])

-- one of each command, and a type that is not taken
abbrev pub one_of_each : List (List ℕ)
one_of_each =
    a_subscribe (10 ∷ 1 ∷ 97 ∷ 18 ∷ 1 ∷ 99 ∷ 24 ∷ 1 ∷ 32 ∷ 7 ∷ 40 ∷ 9 ∷ []) ∷ ack_id (8 ∷ 1 ∷ 16 ∷ 2 ∷ [])
    ∷ a_flow (8 ∷ 7 ∷ 16 ∷ 5 ∷ []) ∷ a_close (8 ∷ 7 ∷ 16 ∷ 9 ∷ []) ∷ redeliver_id (8 ∷ 1 ∷ 16 ∷ 2 ∷ [])
    ∷ a_seek (8 ∷ 7 ∷ 16 ∷ 9 ∷ []) ∷ (8 ∷ 18 ∷ []) ∷ []

-- the answers to them with a lent list of some words
abbrev pub answers_with : ℕ → List ℕ
answers_with words = map (λ (bytes : List ℕ). command_answer (read_command (replicate words 0) bytes)) one_of_each

-- lent lists
unfoldable pub list_rows : List Row
list_rows =
    -- a lent list under 1,216 words is 16 for every command, and before 17
    row (answers_with 1216) (1024 ∷ 2560 ∷ 2816 ∷ 4096 ∷ 5120 ∷ 7168 ∷ 17 ∷ [])
    ∷ row (answers_with 1217) (1024 ∷ 2560 ∷ 2816 ∷ 4096 ∷ 5120 ∷ 7168 ∷ 17 ∷ [])
    ∷ row (answers_with 1215) (replicate 7 16)
    ∷ row (answers_with 0) (replicate 7 16)
    -- groups of ledger, entry, how many words, the words, in order
    ∷ command_is (an_ack (8 ∷ 7 ∷ 16 ∷ 0 ∷ 26 ∷ 8 ∷ 8 ∷ 4 ∷ 16 ∷ 3 ∷ 40 ∷ 6 ∷ 40 ∷ 5 ∷ 26 ∷ 4 ∷ 8 ∷ 2 ∷ 16 ∷ 1 ∷ []))
    (ack_read 7 (4 ∷ 3 ∷ 2 ∷ 6 ∷ 5 ∷ 2 ∷ 1 ∷ 0 ∷ []))
    -- at most 64 ids
    ∷ command_is (ack_with 64 (with_words 0)) (ack_read 7 (times 64 (1 ∷ 2 ∷ 0 ∷ [])))
    ∷ command_16 (ack_with 65 (with_words 0))
    ∷ command_is (redeliver_with 64 (with_words 0)) (redeliver_read 7 (times 64 (1 ∷ 2 ∷ 0 ∷ [])))
    ∷ command_16 (redeliver_with 65 (with_words 0))
    -- at most 16 words of one id
    ∷ command_is (ack_with 1 (with_words 16)) (ack_read 7 (1 ∷ 2 ∷ 16 ∷ replicate 16 5))
    ∷ command_16 (ack_with 1 (with_words 17))
    ∷ command_16 (ack_with 2 (with_words 17))
    ∷ command_is (redeliver_with 1 (with_words 16)) (redeliver_read 7 (1 ∷ 2 ∷ 16 ∷ replicate 16 5))
    ∷ command_16 (redeliver_with 1 (with_words 17))
    -- both at once are 1,216 words
    ∷ command_is (ack_with 64 (with_words 16)) (ack_read 7 (times 64 (1 ∷ 2 ∷ 16 ∷ replicate 16 5)))
    -- what follows in the list does not change
    ∷ row (ids_after (replicate 1216 3) (read_command (replicate 1216 3) (ack_with 1 (with_words 2)))) (1 ∷ 2 ∷ 2 ∷ 5 ∷ 5 ∷ replicate 1211 3)
    ∷ row (ids_after (replicate 1216 3) (read_command (replicate 1216 3) (a_flow (8 ∷ 7 ∷ 16 ∷ 5 ∷ [])))) (replicate 1216 3)
    -- all eight words change
    ∷ row (command_after (replicate 8 3) (command (a_flow (8 ∷ 7 ∷ 16 ∷ 5 ∷ [])))) (7 ∷ 0 ∷ 5 ∷ replicate 5 0)
    -- on 16 and 17 nothing changes, also where only the last id is refused
    ∷ row (command_after (replicate 8 3) (command (8 ∷ 11 ∷ []))) (replicate 8 3)
    ∷ row (command_after (replicate 8 3) (command (8 ∷ 18 ∷ []))) (replicate 8 3)
    ∷ row (ids_after (replicate 1216 3) (read_command (replicate 1216 3) (ack_with 65 (with_words 0)))) (replicate 1216 3)
    ∷ row (ids_after (replicate 1216 3) (read_command (replicate 1216 3) (8 ∷ 18 ∷ a_part (82 ∷ []) (8 ∷ 7 ∷ 16 ∷ 0 ∷ [])))) (replicate 1216 3)
    ∷ row (ids_after (replicate 1215 3) (read_command (replicate 1215 3) (ack_with 1 (with_words 2)))) (replicate 1215 3)
    ∷ []
