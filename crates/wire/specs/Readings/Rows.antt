-- How a reading of the wire is written: what comes out and what must, both in plain numbers; what is looked at; bytes in
-- short. These are put together by hand and not by the definitions of writing, so that a row's bytes stand on their own.
use Rattle.std.specs.Prelude.{ℕ, zero, suc, ◌+◌, ◌*◌, ◌/◌, ◌%◌, List, [], ◌∷◌, ◌++◌, length, replicate}
use Rattle.std.proofs.Math.Option.{Option, none, some}
use Rattle.wire.specs.Varint.{Varint, varint}
use Rattle.wire.specs.Fields.{Field, fields}
use Rattle.wire.specs.Commands.{Command, Reading, command}
use Rattle.wire.specs.Commands.Reading.{refused, read}
use Rattle.wire.specs.Message.{message}
use Rattle.wire.specs.Answers.{command_answer, command_words, command_list, message_answer, record_after, write_message, bytes_answer}

-- a row: what comes out, and what must
pub record Row : Type 0 where
  pub comes_out : List ℕ
  pub must : List ℕ

-- a row of the table
abbrev pub row : List ℕ → List ℕ → Row
row comes_out must = record { comes_out = comes_out; must = must }

-- ---- what is looked at

-- a varint's number and size; nothing where there is none
unfoldable pub varint_numbers : Option Varint → List ℕ
varint_numbers none = []
varint_numbers (some v) = v.value ∷ v.size ∷ []

-- five numbers of each field: number, wire type, value, start, next
unfoldable pub each_field : List Field → List ℕ
each_field [] = []
each_field (f ∷ fs) = f.number ∷ f.wire ∷ f.value ∷ f.start ∷ f.next ∷ each_field fs

-- 0 and the fields of a message; 16 where it is not well formed
unfoldable pub fields_numbers : Option (List Field) → List ℕ
fields_numbers none = 16 ∷ []
fields_numbers (some fs) = 0 ∷ each_field fs

-- the answer to a command, its eight words, and the words of its ids; the refusal alone where it is refused
unfoldable pub reading_numbers : Reading Command → List ℕ
reading_numbers (refused n) = n ∷ []
reading_numbers (read c) = (command_answer (read c) ∷ command_words c) ++ command_list c

-- the same of bytes
abbrev pub command_numbers : List ℕ → List ℕ
command_numbers bytes = reading_numbers (command bytes)

-- the answer to a Message and its record; the refusal alone where it is refused
unfoldable pub message_numbers : List ℕ → List ℕ
message_numbers bytes = message_answer (message bytes) ∷ record_after [] (message bytes)

-- the bytes that were written
unfoldable pub bytes_written : Reading (List ℕ) → List ℕ
bytes_written (refused n) = []
bytes_written (read bytes) = bytes

-- the answer to a record to write and its bytes, in a buffer of 256; the refusal alone where it is refused
unfoldable pub written_numbers : List ℕ → List ℕ
written_numbers r = bytes_answer (write_message (replicate 256 0) r) ∷ bytes_written (write_message (replicate 256 0) r)

-- ---- rows of one kind

-- a varint read: its bytes with what follows, its number, its size
abbrev pub varint_is : List ℕ → ℕ → ℕ → Row
varint_is bytes value size = row (varint_numbers (varint bytes)) (value ∷ size ∷ [])

-- bytes that no varint stands at the front of
abbrev pub no_varint : List ℕ → Row
no_varint bytes = row (varint_numbers (varint bytes)) []

-- the fields of a message, five numbers each
abbrev pub fields_are : List ℕ → List ℕ → Row
fields_are bytes numbers = row (fields_numbers (fields bytes)) (0 ∷ numbers)

-- bytes that are no message
abbrev pub no_fields : List ℕ → Row
no_fields bytes = row (fields_numbers (fields bytes)) (16 ∷ [])

-- a command that is read
abbrev pub command_is : List ℕ → List ℕ → Row
command_is bytes numbers = row (command_numbers bytes) numbers

-- a command that is refused with 16
abbrev pub command_16 : List ℕ → Row
command_16 bytes = row (command_numbers bytes) (16 ∷ [])

-- a command that is refused with 17
abbrev pub command_17 : List ℕ → Row
command_17 bytes = row (command_numbers bytes) (17 ∷ [])

-- a Message that is read
abbrev pub message_is : List ℕ → List ℕ → Row
message_is bytes numbers = row (message_numbers bytes) numbers

-- a Message that is refused with 16
abbrev pub message_16 : List ℕ → Row
message_16 bytes = row (message_numbers bytes) (16 ∷ [])

-- a Message that is refused with 17
abbrev pub message_17 : List ℕ → Row
message_17 bytes = row (message_numbers bytes) (17 ∷ [])

-- a record that is written
abbrev pub written_is : List ℕ → List ℕ → Row
written_is r bytes = row (written_numbers r) (length bytes * 256 ∷ bytes)

-- a record that is refused with 16
abbrev pub written_16 : List ℕ → Row
written_16 r = row (written_numbers r) (16 ∷ [])

-- ---- bytes in short

-- a number of copies of some bytes
unfoldable pub times : ℕ → List ℕ → List ℕ
times zero bytes = []
times (suc k) bytes = bytes ++ times k bytes

-- a length-delimited field of fewer than 128 bytes after its tag's bytes
abbrev pub a_part : List ℕ → List ℕ → List ℕ
a_part tag bytes = tag ++ length bytes ∷ bytes

-- a length-delimited field of 128 to 16,383 bytes
abbrev pub a_long_part : List ℕ → List ℕ → List ℕ
a_long_part tag bytes = tag ++ (128 + length bytes % 128) ∷ length bytes / 128 ∷ bytes

-- -1 in ten bytes
abbrev pub minus_1 : List ℕ
minus_1 = replicate 9 255 ++ 1 ∷ []

-- a Subscribe with the bytes of its message
abbrev pub a_subscribe : List ℕ → List ℕ
a_subscribe bytes = 8 ∷ 4 ∷ a_part (34 ∷ []) bytes

-- an Ack with the bytes of its message
abbrev pub an_ack : List ℕ → List ℕ
an_ack bytes = 8 ∷ 10 ∷ a_part (82 ∷ []) bytes

-- a Flow with the bytes of its message
abbrev pub a_flow : List ℕ → List ℕ
a_flow bytes = 8 ∷ 11 ∷ a_part (90 ∷ []) bytes

-- a CloseConsumer with the bytes of its message
abbrev pub a_close : List ℕ → List ℕ
a_close bytes = 8 ∷ 16 ∷ a_part (130 ∷ 1 ∷ []) bytes

-- a Redeliver with the bytes of its message
abbrev pub a_redeliver : List ℕ → List ℕ
a_redeliver bytes = 8 ∷ 20 ∷ a_part (162 ∷ 1 ∷ []) bytes

-- a Seek with the bytes of its message
abbrev pub a_seek : List ℕ → List ℕ
a_seek bytes = 8 ∷ 28 ∷ a_part (226 ∷ 1 ∷ []) bytes

-- a Message with the bytes of its message
abbrev pub a_message : List ℕ → List ℕ
a_message bytes = 8 ∷ 9 ∷ a_part (74 ∷ []) bytes

-- an Ack of consumer 7 with an id
abbrev pub ack_id : List ℕ → List ℕ
ack_id bytes = an_ack (8 ∷ 7 ∷ 16 ∷ 0 ∷ a_part (26 ∷ []) bytes)

-- a Redeliver of consumer 7 with an id
abbrev pub redeliver_id : List ℕ → List ℕ
redeliver_id bytes = a_redeliver (8 ∷ 7 ∷ a_part (18 ∷ []) bytes)

-- a Seek of consumer 7, request 9, to an id
abbrev pub seek_id : List ℕ → List ℕ
seek_id bytes = a_seek (8 ∷ 7 ∷ 16 ∷ 9 ∷ a_part (26 ∷ []) bytes)

-- a Message to consumer 7 with an id
abbrev pub message_id : List ℕ → List ℕ
message_id bytes = a_message (8 ∷ 7 ∷ a_part (18 ∷ []) bytes)

-- ---- what must come out, in short: the type × 256, then the eight words

-- consumer, request, kind, topic and subscription by start and length
abbrev pub subscribe_read : ℕ → ℕ → ℕ → ℕ → ℕ → ℕ → ℕ → List ℕ
subscribe_read consumer request kind topic topic_size subscription subscription_size =
    1024 ∷ consumer ∷ request ∷ kind ∷ topic ∷ topic_size ∷ subscription ∷ subscription_size ∷ 0 ∷ []

-- consumer, and the words of the list
abbrev pub ack_read : ℕ → List ℕ → List ℕ
ack_read consumer list = 2560 ∷ consumer ∷ 0 ∷ length list ∷ 0 ∷ 0 ∷ 0 ∷ 0 ∷ 0 ∷ list

-- consumer, permits
abbrev pub flow_read : ℕ → ℕ → List ℕ
flow_read consumer permits = 2816 ∷ consumer ∷ 0 ∷ permits ∷ 0 ∷ 0 ∷ 0 ∷ 0 ∷ 0 ∷ []

-- consumer, request
abbrev pub close_read : ℕ → ℕ → List ℕ
close_read consumer request = 4096 ∷ consumer ∷ request ∷ 0 ∷ 0 ∷ 0 ∷ 0 ∷ 0 ∷ 0 ∷ []

-- consumer, and the words of the list
abbrev pub redeliver_read : ℕ → List ℕ → List ℕ
redeliver_read consumer list = 5120 ∷ consumer ∷ 0 ∷ length list ∷ 0 ∷ 0 ∷ 0 ∷ 0 ∷ 0 ∷ list

-- consumer, request, whether there is an id, ledger, entry
abbrev pub seek_read : ℕ → ℕ → ℕ → ℕ → ℕ → List ℕ
seek_read consumer request to_id ledger entry = 7168 ∷ consumer ∷ request ∷ to_id ∷ ledger ∷ entry ∷ 0 ∷ 0 ∷ 0 ∷ []

-- of a Message: consumer, ledger, entry, batch size, count, four words, redelivery count
abbrev pub message_read : ℕ → ℕ → ℕ → ℕ → ℕ → ℕ → ℕ → ℕ → ℕ → ℕ → List ℕ
message_read consumer ledger entry batch count w0 w1 w2 w3 redelivery =
    0 ∷ consumer ∷ ledger ∷ entry ∷ 0 ∷ batch ∷ count ∷ w0 ∷ w1 ∷ w2 ∷ w3 ∷ redelivery ∷ 0 ∷ 0 ∷ []
