-- What the exports answer and leave in the lent words: value × 256 and the refusal's number, 0 when done; a refused call
-- changes nothing. A Message's record is push's 13 words, of which handle, cost and permits are not on the wire.
use Rattle.std.specs.Prelude.{ℕ, ◌-◌, ◌*◌, ◌^◌, Bool, cond, ◌&&◌, List, [], ◌∷◌, ◌++◌, leb, ltb, length, get_or, take, drop, replicate}
use Rattle.rules.specs.State.{Kind}
use Rattle.rules.specs.State.Kind.{plain, shared}
use Rattle.rules.specs.Commands.{Target}
use Rattle.rules.specs.Commands.Target.{start, to_id}
use Rattle.words.specs.Act.{lay}
use Rattle.wire.specs.Ids.{list_words}
use Rattle.wire.specs.Commands.{Command, Reading, command, SUBSCRIBE, ACK, FLOW, CLOSE_CONSUMER, REDELIVER, SEEK}
use Rattle.wire.specs.Commands.Command.{Subscribe, Flow, Ack, Seek, Redeliver, Close}
use Rattle.wire.specs.Commands.Reading.{refused, read}
use Rattle.wire.specs.Message.{Message, message_bytes}

-- ---- the reader of commands

-- the words that a list of 64 ids with 16 words each takes: the lent list has as many at least
abbrev pub LIST_WORDS : ℕ
LIST_WORDS = 1216

-- a command read with a list of some words to lay ids into
unfoldable pub read_command : List ℕ → List ℕ → Reading Command
read_command list bytes = cond (ltb (length list) LIST_WORDS) (refused 16) (command bytes)

-- the number of a command's type
unfoldable pub command_type : Command → ℕ
command_type (Subscribe consumer request kind topic subscription) = SUBSCRIBE
command_type (Flow consumer permits) = FLOW
command_type (Ack consumer ids) = ACK
command_type (Seek consumer request target) = SEEK
command_type (Redeliver consumer ids) = REDELIVER
command_type (Close consumer request) = CLOSE_CONSUMER

-- the words of its ids in the lent list
unfoldable pub command_list : Command → List ℕ
command_list (Subscribe consumer request kind topic subscription) = []
command_list (Flow consumer permits) = []
command_list (Ack consumer ids) = list_words ids
command_list (Seek consumer request target) = []
command_list (Redeliver consumer ids) = list_words ids
command_list (Close consumer request) = []

-- a kind in a word, as subscribe's export takes it
unfoldable pub kind_word : Kind → ℕ
kind_word plain = 0
kind_word shared = 1

-- a target in three words, as seek's export takes it
unfoldable pub target_words : Target → List ℕ
target_words start = 0 ∷ 0 ∷ 0 ∷ []
target_words (to_id id) = 1 ∷ id.ledger ∷ id.entry ∷ []

-- a command's eight words: the consumer, the request, then what its export takes, names by start and length
unfoldable pub command_words : Command → List ℕ
command_words (Subscribe consumer request kind topic subscription) =
    consumer ∷ request ∷ kind_word kind ∷ topic.start ∷ topic.size ∷ subscription.start ∷ subscription.size ∷ 0 ∷ []
command_words (Flow consumer permits) = consumer ∷ 0 ∷ permits ∷ replicate 5 0
command_words (Ack consumer ids) = consumer ∷ 0 ∷ length (list_words ids) ∷ replicate 5 0
command_words (Seek consumer request target) = consumer ∷ request ∷ target_words target ++ replicate 3 0
command_words (Redeliver consumer ids) = consumer ∷ 0 ∷ length (list_words ids) ∷ replicate 5 0
command_words (Close consumer request) = consumer ∷ request ∷ replicate 6 0

-- the answer
unfoldable pub command_answer : Reading Command → ℕ
command_answer (refused n) = n
command_answer (read c) = command_type c * 256

-- the command's words after the call
unfoldable pub command_after : List ℕ → Reading Command → List ℕ
command_after words (refused n) = words
command_after words (read c) = command_words c

-- the list after the call: what follows the groups stays
unfoldable pub ids_after : List ℕ → Reading Command → List ℕ
ids_after list (refused n) = list
ids_after list (read c) = (lay (command_list c)).run 0 list

-- ---- the reader of Message

-- a Message's record; words past the count are 0
unfoldable pub record_of : Message → List ℕ
record_of x =
    x.consumer ∷ x.id.ledger ∷ x.id.entry ∷ 0 ∷ x.batch_size ∷ length x.ack_set
    ∷ (x.ack_set ++ replicate (4 - length x.ack_set) 0) ++ x.redelivery_count ∷ 0 ∷ 0 ∷ []

-- the answer
unfoldable pub message_answer : Reading Message → ℕ
message_answer (refused n) = n
message_answer (read x) = 0

-- the record after the call
unfoldable pub record_after : List ℕ → Reading Message → List ℕ
record_after words (refused n) = words
record_after words (read x) = record_of x

-- ---- the writer of Message

-- the bytes that a buffer has at least
abbrev pub BUFFER_BYTES : ℕ
BUFFER_BYTES = 256

-- what a record says of a Message; its handle, cost, permits and words past the count are ignored
unfoldable pub message_from : List ℕ → Message
message_from r =
    record {
      consumer = get_or r 0 0;
      id = record { ledger = get_or r 1 0; entry = get_or r 2 0 };
      batch_size = get_or r 4 0;
      redelivery_count = get_or r 10 0;
      ack_set = take (get_or r 5 0) (drop 6 r);
    }

-- whether a record can be written: at most 4 words, a batch size of at most 256, a redelivery count of 32 bits
unfoldable pub writable : List ℕ → Bool
writable r = leb (get_or r 5 0) 4 && (leb (get_or r 4 0) 256 && ltb (get_or r 10 0) (2 ^ 32))

-- the bytes of a record written to a buffer of some bytes
unfoldable pub write_message : List ℕ → List ℕ → Reading (List ℕ)
write_message buffer r =
    cond (leb BUFFER_BYTES (length buffer) && writable r) (read (message_bytes (message_from r))) (refused 16)

-- the answer: how many bytes were written
unfoldable pub bytes_answer : Reading (List ℕ) → ℕ
bytes_answer (refused n) = n
bytes_answer (read bytes) = length bytes * 256

-- the buffer after the call: what follows stays
unfoldable pub buffer_after : List ℕ → Reading (List ℕ) → List ℕ
buffer_after buffer (refused n) = buffer
buffer_after buffer (read bytes) = (lay bytes).run 0 buffer
