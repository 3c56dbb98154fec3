-- What the code of this crate answers and leaves, by the definitions of the wire.
use Rattle.std.specs.Prelude.{ℕ, List, length}
use Rattle.std.proofs.Math.Option.{Option, none, some, map, bind}
use Rattle.rules.specs.State.{Id}
use Rattle.wire.specs.Fields.{Field, fields}
use Rattle.wire.specs.Select.{numbered, count, optional, up_to}
use Rattle.wire.specs.Ids.{id_of}
use Rattle.wire.specs.Message.{Message}
use Rattle.wire.specs.Answers.{record_of}
use Rattle.record.specs.declared.Dispatch.{Dispatch}
use Rattle.wire_message.specs.declared.content.BatchId.{BatchId}
use Rattle.wire_message.specs.declared.content.Head.{Head}

-- an id with its batch size
abbrev pub batch_id : Id → ℕ → BatchId
batch_id id batch_size = record { ledger = id.ledger; entry = id.entry; batch_size = batch_size }

-- the id of its own bytes
unfoldable pub id_of_bytes : List ℕ → Option BatchId
id_of_bytes m =
    bind (fields m) (λ (ids : List Field).
    bind (id_of ids) (λ (id : Id).
    bind (optional count (numbered 6 ids)) (λ (batch_size : ℕ).
    some (batch_id id batch_size))))

-- how many ack words a Message has, at most 4
unfoldable pub ack_count : List ℕ → Option ℕ
ack_count m = bind (fields m) (λ (fs : List Field). map length (up_to 4 0 (numbered 4 fs)))

-- a Message's numbers, and how many ack words it has
unfoldable pub head_of : Message → Head
head_of x =
    record {
      consumer = x.consumer;
      id = batch_id x.id x.batch_size;
      redelivery_count = x.redelivery_count;
      ack_set_words = length x.ack_set;
    }

-- the record of a Message before its ack words are laid
unfoldable pub dispatch_of : Head → Dispatch
dispatch_of h =
    record {
      consumer = h.consumer;
      ledger = h.id.ledger;
      entry = h.id.entry;
      handle = 0;
      batch_size = h.id.batch_size;
      ack_set_words = h.ack_set_words;
      ack_set = record { w0 = 0; w1 = 0; w2 = 0; w3 = 0 };
      redelivery_count = h.redelivery_count;
      cost = 0;
      permits = 0;
    }

-- what is answered to a content
unfoldable pub content_answer : Option Message → ℕ
content_answer none = 16
content_answer (some x) = 0

-- the record after it was read
unfoldable pub content_after : List ℕ → Option Message → List ℕ
content_after words none = words
content_after words (some x) = record_of x
