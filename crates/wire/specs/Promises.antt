-- What is promised of the bytes read and written, for every input and every record. The proofs are in `proofs/`: of names in
-- Names.antt, of lists in Lists.antt, of varints in Written.antt, of Messages in RoundTrip.antt and Sizes.antt, of records in
-- Records.antt.
use Rattle.std.specs.Prelude.{ℕ, ◌+◌, ◌-◌, ◌^◌, ◌≤◌, ◌<◌, ◌≡◌, true, List, ◌++◌, length, replicate}
use Rattle.std.proofs.Math.Option.{some}
use Rattle.rules.specs.Table.{Every}
use Rattle.rules.specs.State.{Kind, State}
use Rattle.rules.specs.Groups.{Group, groups}
use Rattle.rules.specs.Outcome.Outcome.{refused}
use Rattle.rules.specs.Commands.{ack, redeliver}
use Rattle.wire.specs.Varint.{Varint, varint, written}
use Rattle.wire.specs.Ids.{list_words}
use Rattle.wire.specs.Commands.{Name, command}
use Rattle.wire.specs.Commands.Command.{Subscribe, Ack, Redeliver}
use Rattle.wire.specs.Commands.Reading.{read}
use Rattle.wire.specs.Message.{Message, message, message_bytes}
use Rattle.wire.specs.Answers.{LIST_WORDS, message_from, writable}

-- ---- names

-- the names of a Subscribe that is read lie inside the input
unfoldable pub NamesInside : Type 0
NamesInside =
    (m : List ℕ) (consumer request : ℕ) (kind : Kind) (topic subscription : Name)
    → command m ≡ read (Subscribe consumer request kind topic subscription)
    → (topic.start + topic.size ≤ length m) × (subscription.start + subscription.size ≤ length m)

-- ---- lists

-- the words of some ids are a lent list of document 01's form, are read as these ids, and fit
pub record OfTheForm (ids : List Group) : Type 0 where
  pub read_back : groups (list_words ids) ≡ some ids
  pub fits : length (list_words ids) ≤ LIST_WORDS

-- the ids of an Ack that is read are of the form
unfoldable pub AcksOfTheForm : Type 0
AcksOfTheForm = (m : List ℕ) (consumer : ℕ) (ids : List Group) → command m ≡ read (Ack consumer ids) → OfTheForm ids

-- so are those of a Redeliver
unfoldable pub RedeliversOfTheForm : Type 0
RedeliversOfTheForm = (m : List ℕ) (consumer : ℕ) (ids : List Group) → command m ≡ read (Redeliver consumer ids) → OfTheForm ids

-- so no ack of an Ack that is read answers 10, whatever the state and whoever the consumer
unfoldable pub AcksNever10 : Type 0
AcksNever10 =
    (m : List ℕ) (consumer : ℕ) (ids : List Group) → command m ≡ read (Ack consumer ids)
    → (s : State) (i : ℕ) → ack s i (list_words ids) ≡ refused 10 → ⊥

-- nor does a redeliver of a Redeliver that is read
unfoldable pub RedeliversNever10 : Type 0
RedeliversNever10 =
    (m : List ℕ) (consumer : ℕ) (ids : List Group) → command m ≡ read (Redeliver consumer ids)
    → (s : State) (i : ℕ) → redeliver s i (list_words ids) ≡ refused 10 → ⊥

-- ---- varints

-- a byte
abbrev pub Byte : ℕ → Type 0
Byte b = b < 256

-- the varint that is written for a number is read back as it, whatever follows
unfoldable pub WrittenReadBack : Type 0
WrittenReadBack =
    (v : ℕ) (rest : List ℕ) → v < 2 ^ 64 → varint (written v ++ rest) ≡ some (record { value = v; size = length (written v) })

-- no varint of bytes is shorter than the one that is written for its number
unfoldable pub WrittenShortest : Type 0
WrittenShortest = (bytes : List ℕ) (x : Varint) → Every Byte bytes → varint bytes ≡ some x → length (written x.value) ≤ x.size

-- ---- Messages

-- a Message within the limits of the writer
pub record WithinLimits (x : Message) : Type 0 where
  pub consumer : x.consumer < 2 ^ 64
  pub ledger : x.id.ledger < 2 ^ 64
  pub entry : x.id.entry < 2 ^ 64
  pub batch_size : x.batch_size ≤ 256
  pub redelivery_count : x.redelivery_count < 2 ^ 32
  pub count : length x.ack_set ≤ 4
  pub words : Every (λ (w : ℕ). w < 2 ^ 64) x.ack_set

-- such a Message is read back from its bytes
unfoldable pub MessagesReadBack : Type 0
MessagesReadBack = (x : Message) → WithinLimits x → message (message_bytes x) ≡ read x

-- and takes at most 114 of them
unfoldable pub MessagesFit : Type 0
MessagesFit = (x : Message) → WithinLimits x → length (message_bytes x) ≤ 114

-- the largest there is
unfoldable pub largest : Message
largest =
    record {
      consumer = 2 ^ 64 - 1;
      id = record { ledger = 2 ^ 64 - 1; entry = 2 ^ 64 - 1 };
      batch_size = 256;
      redelivery_count = 2 ^ 32 - 1;
      ack_set = replicate 4 (2 ^ 64 - 1);
    }

-- which takes all of them
unfoldable pub LargestTakes114 : Type 0
LargestTakes114 = WithinLimits largest × (length (message_bytes largest) ≡ 114)

-- ---- records

-- a record: 13 words
pub record IsRecord (r : List ℕ) : Type 0 where
  pub size : length r ≡ 13
  pub words : Every (λ (w : ℕ). w < 2 ^ 64) r

-- what is written of a record is read back, for every record that the writer takes
unfoldable pub RecordsReadBack : Type 0
RecordsReadBack = (r : List ℕ) → IsRecord r → writable r ≡ true → message (message_bytes (message_from r)) ≡ read (message_from r)

-- and takes at most 114 bytes
unfoldable pub RecordsFit : Type 0
RecordsFit = (r : List ℕ) → IsRecord r → writable r ≡ true → length (message_bytes (message_from r)) ≤ 114
