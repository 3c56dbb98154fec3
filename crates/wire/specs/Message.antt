-- The BaseCommand of type Message that emit_message builds, read and written. CommandMessage has consumer_id 1, message_id 2,
-- redelivery_count 3, ack_set 4; of its id ledgerId 1, entryId 2, partition 3, batch_index 4 and batch_size 6 are written.
use Rattle.std.specs.Prelude.{ℕ, ◌+◌, ◌-◌, ◌*◌, ◌^◌, List, [], ◌∷◌, ◌++◌, eqb, length}
use Rattle.std.proofs.Math.Option.{Option, some, bind}
use Rattle.rules.specs.State.{Id}
use Rattle.wire.specs.Varint.{written}
use Rattle.wire.specs.Fields.{Field, fields}
use Rattle.wire.specs.Select.{numbered, uint64, uint32, count, required, optional, part, bytes_of, numbers}
use Rattle.wire.specs.Ids.{id_of}
use Rattle.wire.specs.Commands.{Reading, base}

-- the type of a Message
abbrev pub MESSAGE : ℕ
MESSAGE = 9

-- what a Message carries of a dispatch
pub record Message : Type 0 where
  pub consumer : ℕ
  pub id : Id
  pub batch_size : ℕ
  pub redelivery_count : ℕ
  pub ack_set : List ℕ

-- ---- reading

-- a Message's content: an absent batch size or redelivery count is 0, at most 4 words
unfoldable pub content_of : List ℕ → Option Message
content_of m =
    bind (fields m) (λ (fs : List Field).
    bind (required uint64 (numbered 1 fs)) (λ (consumer : ℕ).
    bind (part (numbered 2 fs)) (λ (of_id : Field).
    bind (fields (bytes_of m of_id)) (λ (ids : List Field).
    bind (id_of ids) (λ (id : Id).
    bind (optional count (numbered 6 ids)) (λ (batch_size : ℕ).
    bind (optional uint32 (numbered 3 fs)) (λ (redelivery_count : ℕ).
    bind (numbers 4 (numbered 4 fs)) (λ (words : List ℕ).
    some (record {
      consumer = consumer;
      id = id;
      batch_size = batch_size;
      redelivery_count = redelivery_count;
      ack_set = words;
    })))))))))

-- a Message read from bytes
unfoldable pub message : List ℕ → Reading Message
message m = base (eqb MESSAGE) (λ (type : ℕ) (f : Field). content_of (bytes_of m f)) m

-- ---- writing

-- a varint field
unfoldable pub number_bytes : ℕ → ℕ → List ℕ
number_bytes number v = written (number * 8) ++ written v

-- a length-delimited field
unfoldable pub part_bytes : ℕ → List ℕ → List ℕ
part_bytes number bytes = written (number * 8 + 2) ++ written (length bytes) ++ bytes

-- -1 as int32 writes it, in ten bytes
abbrev pub minus_one : ℕ
minus_one = 2 ^ 64 - 1

-- an id: ledger, entry, no partition, no batch index, and always the batch size
unfoldable pub id_bytes : Id → ℕ → List ℕ
id_bytes id batch_size =
    number_bytes 1 id.ledger ++ number_bytes 2 id.entry
    ++ number_bytes 3 minus_one ++ number_bytes 4 minus_one ++ number_bytes 6 batch_size

-- the words of an ack set, a field each
unfoldable pub ack_set_bytes : List ℕ → List ℕ
ack_set_bytes [] = []
ack_set_bytes (w ∷ words) = number_bytes 4 w ++ ack_set_bytes words

-- a Message's content
unfoldable pub content_bytes : Message → List ℕ
content_bytes x =
    number_bytes 1 x.consumer ++ part_bytes 2 (id_bytes x.id x.batch_size)
    ++ number_bytes 3 x.redelivery_count ++ ack_set_bytes x.ack_set

-- a Message as bytes: the type, then the message
unfoldable pub message_bytes : Message → List ℕ
message_bytes x = number_bytes 1 MESSAGE ++ part_bytes MESSAGE (content_bytes x)
