-- A record as a call, and back. What fits no kind or has a word too wide for its field is no call: refusal 18.
use Rattle.std.specs.Prelude.{ℕ, Bool, true, cond, ◌&&◌, ◌||◌, List, [], ◌∷◌, ◌++◌, eqb, leb, length, get_or, drop}
use Rattle.std.proofs.Math.Option.{Option, none, some, bind}
use Rattle.rules.specs.State.{Kind}
use Rattle.rules.specs.State.Kind.{plain, shared}
use Rattle.rules.specs.Commands.{Target}
use Rattle.rules.specs.Commands.Target.{start, to_id}
use Rattle.rules.specs.Calls.{Call, fits, kind_from, target_from}
use Rattle.rules.specs.Calls.Call.{Append, Subscribe, Flow, Ack, Seek, Redeliver, Close, Push}
use Rattle.trace.specs.Format.{Record, header, record_bytes, MOST_WORDS}

-- the refusal of what is no call, as of a wrong header and of a record that is cut off
abbrev pub NO_CALL : ℕ
NO_CALL = 18

-- ---- the kinds

-- append
abbrev pub APPEND : ℕ
APPEND = 1

-- subscribe
abbrev pub SUBSCRIBE : ℕ
SUBSCRIBE = 2

-- flow
abbrev pub FLOW : ℕ
FLOW = 3

-- ack
abbrev pub ACK : ℕ
ACK = 4

-- seek
abbrev pub SEEK : ℕ
SEEK = 5

-- redeliver
abbrev pub REDELIVER : ℕ
REDELIVER = 6

-- close
abbrev pub CLOSE : ℕ
CLOSE = 7

-- push
abbrev pub PUSH : ℕ
PUSH = 8

-- ---- the words of each kind

-- a call, if some test is passed
unfoldable pub if_so : Bool → Call → Option Call
if_so passed x = cond passed (some x) none

-- topic, ledger, entry, handle, batch size
unfoldable pub append_from : List ℕ → Option Call
append_from ws =
    if_so (eqb (length ws) 5)
    (Append (get_or ws 0 0)
    (record {
      id = record { ledger = get_or ws 1 0; entry = get_or ws 2 0 };
      handle = get_or ws 3 0;
      batch_size = get_or ws 4 0;
    }))

-- consumer, 0 plain or 1 shared, topic, subscription
unfoldable pub subscribe_from : List ℕ → Option Call
subscribe_from ws =
    if_so (eqb (length ws) 4 && leb (get_or ws 1 0) 1)
    (Subscribe (get_or ws 0 0) (kind_from (get_or ws 1 0)) (record { topic = get_or ws 2 0; subscription = get_or ws 3 0 }))

-- consumer, grant
unfoldable pub flow_from : List ℕ → Option Call
flow_from ws = if_so (eqb (length ws) 2) (Flow (get_or ws 0 0) (get_or ws 1 0))

-- consumer, list
unfoldable pub ack_from : List ℕ → Option Call
ack_from ws = if_so (leb 1 (length ws)) (Ack (get_or ws 0 0) (drop 1 ws))

-- consumer, then 0, or 1, ledger, entry
unfoldable pub seek_from : List ℕ → Option Call
seek_from ws =
    if_so (eqb (length ws) 2 && eqb (get_or ws 1 0) 0 || eqb (length ws) 4 && eqb (get_or ws 1 0) 1)
    (Seek (get_or ws 0 0) (target_from (get_or ws 1 0) (get_or ws 2 0) (get_or ws 3 0)))

-- consumer, list
unfoldable pub redeliver_from : List ℕ → Option Call
redeliver_from ws = if_so (leb 1 (length ws)) (Redeliver (get_or ws 0 0) (drop 1 ws))

-- consumer
unfoldable pub close_from : List ℕ → Option Call
close_from ws = if_so (eqb (length ws) 1) (Close (get_or ws 0 0))

-- no words; the list that is lent to a push holds so many records
unfoldable pub push_from : ℕ → List ℕ → Option Call
push_from room ws = if_so (eqb (length ws) 0) (Push room)

-- ---- a call

-- what a kind and its words say, whatever the widths
unfoldable pub call_from : ℕ → ℕ → List ℕ → Option Call
call_from room kind ws =
    cond (eqb kind APPEND) (append_from ws)
    (cond (eqb kind SUBSCRIBE) (subscribe_from ws)
    (cond (eqb kind FLOW) (flow_from ws)
    (cond (eqb kind ACK) (ack_from ws)
    (cond (eqb kind SEEK) (seek_from ws)
    (cond (eqb kind REDELIVER) (redeliver_from ws)
    (cond (eqb kind CLOSE) (close_from ws)
    (cond (eqb kind PUSH) (push_from room ws) none)))))))

-- a call whose words have the widths of their fields
unfoldable pub that_fits : Call → Option Call
that_fits x = if_so (fits x) x

-- the call that a kind and its words are, with a list of so many records for a push
unfoldable pub call_of : ℕ → ℕ → List ℕ → Option Call
call_of room kind ws = bind (call_from room kind ws) that_fits

-- ---- written

-- the kind of a call
unfoldable pub kind_of : Call → ℕ
kind_of (Append topic m) = APPEND
kind_of (Subscribe i kind p) = SUBSCRIBE
kind_of (Flow i grant) = FLOW
kind_of (Ack i list) = ACK
kind_of (Seek i target) = SEEK
kind_of (Redeliver i list) = REDELIVER
kind_of (Close i) = CLOSE
kind_of (Push room) = PUSH

-- the word of a subscribe's kind
unfoldable pub kind_word : Kind → ℕ
kind_word plain = 0
kind_word shared = 1

-- the words of a seek's target
unfoldable pub target_words : Target → List ℕ
target_words start = 0 ∷ []
target_words (to_id i) = 1 ∷ i.ledger ∷ i.entry ∷ []

-- the words of a call
unfoldable pub words_of : Call → List ℕ
words_of (Append topic m) = topic ∷ m.id.ledger ∷ m.id.entry ∷ m.handle ∷ m.batch_size ∷ []
words_of (Subscribe i kind p) = i ∷ kind_word kind ∷ p.topic ∷ p.subscription ∷ []
words_of (Flow i grant) = i ∷ grant ∷ []
words_of (Ack i list) = i ∷ list
words_of (Seek i target) = i ∷ target_words target
words_of (Redeliver i list) = i ∷ list
words_of (Close i) = i ∷ []
words_of (Push room) = []

-- the record of a call
unfoldable pub record_of : Call → Record
record_of x = record { kind = kind_of x; words = words_of x }

-- the records of some calls, one after the other
unfoldable pub calls_bytes : List Call → List ℕ
calls_bytes [] = []
calls_bytes (x ∷ calls) = record_bytes (record_of x) ++ calls_bytes calls

-- what a recorder writes of some calls
unfoldable pub trace_bytes : List Call → List ℕ
trace_bytes calls = header ++ calls_bytes calls

-- whether the room of a push is as a trace has it
unfoldable pub room_is : ℕ → Call → Bool
room_is room (Append topic m) = true
room_is room (Subscribe i kind p) = true
room_is room (Flow i grant) = true
room_is room (Ack i list) = true
room_is room (Seek i target) = true
room_is room (Redeliver i list) = true
room_is room (Close i) = true
room_is room (Push n) = eqb n room

-- whether a call can be recorded: its arguments have their widths, its words are not too many, and a push has that room
unfoldable pub recordable : ℕ → Call → Bool
recordable room x = fits x && leb (length (words_of x)) MOST_WORDS && room_is room x
