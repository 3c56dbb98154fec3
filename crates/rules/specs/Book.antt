-- The book behind demand 3, as document 01 tells it: it starts empty and is fed each call's own arguments, whether the
-- call was refused, and push's records, and never the store.
use Rattle.std.specs.Prelude.{ℕ, ◌+◌, Bool, true, false, cond, not, List, [], ◌∷◌, ◌++◌, eqb}
use Rattle.rules.specs.Table.{keep, any, or_else}
use Rattle.rules.specs.State.{Id, same_id, StoredMessage, Pair, same_pair, Kind, Acked, unacknowledged}
use Rattle.rules.specs.State.Kind.{plain, shared}
use Rattle.rules.specs.Ledger.{batch_size_of}
use Rattle.rules.specs.Dispatcher.{ack_entry, cost}
use Rattle.rules.specs.Groups.{Group, groups}
use Rattle.rules.specs.Outcome.{Dispatch, Value, Outcome}
use Rattle.rules.specs.Outcome.Outcome.{refused, short, done}
use Rattle.rules.specs.Outcome.Value.{nothing, permits_after, mark_delete_after, cursor_after, closed, dispatches}
use Rattle.rules.specs.Calls.{Call}
use Rattle.rules.specs.Calls.Call.{Append, Subscribe, Flow, Ack, Seek, Redeliver, Close, Push}

-- ---- the book

-- an attached consumer's pair, and its grants and costs since the subscribe that attached it
pub record Account : Type 0 where
  pub pair : Pair
  pub grants : ℕ
  pub costs : ℕ

-- what the book has of an id: not live, a live plain consumer, or a live shared one, attached to a pair
pub data Who : Type 0 where
  away : Who
  live_plain : Who
  attached_to : Account → Who

-- the list of each topic; the pairs that shared subscribes made, in order; who each id is; the ids attached to a pair, in
-- the order in which they joined; which ids were handed out for a pair; and how far each is acknowledged there
pub record Book : Type 0 where
  pub topics : ℕ → List StoredMessage
  pub pairs : List Pair
  pub who : ℕ → Who
  pub attached : Pair → List ℕ
  pub handed_out : Pair → Id → Bool
  pub acked : Pair → Id → Acked

-- the book at first
unfoldable pub empty_book : Book
empty_book =
    record {
      topics = λ n. [];
      pairs = [];
      who = λ i. away;
      attached = λ p. [];
      handed_out = λ p i. false;
      acked = λ p i. unacknowledged;
    }

-- a function with another value at one place
unfoldable pub updated : {K A : Type 0} → (K → K → Bool) → (K → A) → K → A → K → A
updated same f k a j = cond (same j k) a (f j)

-- ---- a book with one thing changed

-- the book of these pages
abbrev pub of_pages : (ℕ → List StoredMessage) → List Pair → (ℕ → Who) → (Pair → List ℕ) → (Pair → Id → Bool)
    → (Pair → Id → Acked) → Book
of_pages topics pairs who attached handed_out acked =
    record { topics = topics; pairs = pairs; who = who; attached = attached; handed_out = handed_out; acked = acked }

-- another list of a topic
unfoldable pub with_list : Book → ℕ → List StoredMessage → Book
with_list b n l = of_pages (updated eqb b.topics n l) b.pairs b.who b.attached b.handed_out b.acked

-- an id that is someone else now
unfoldable pub with_who : Book → ℕ → Who → Book
with_who b i w = of_pages b.topics b.pairs (updated eqb b.who i w) b.attached b.handed_out b.acked

-- other ids attached to a pair
unfoldable pub with_attached_ids : Book → Pair → List ℕ → Book
with_attached_ids b p l = of_pages b.topics b.pairs b.who (updated same_pair b.attached p l) b.handed_out b.acked

-- a pair that a shared subscribe made, once
unfoldable pub with_pair : Book → Pair → Book
with_pair b p = of_pages b.topics (cond (any (same_pair p) b.pairs) b.pairs (b.pairs ++ p ∷ [])) b.who b.attached b.handed_out b.acked

-- an id that was handed out for a pair
unfoldable pub with_handed_out : Book → Pair → Id → Book
with_handed_out b p i =
    of_pages b.topics b.pairs b.who b.attached (updated same_pair b.handed_out p (updated same_id (b.handed_out p) i true)) b.acked

-- how far ids are acknowledged for a pair
unfoldable pub with_acked : Book → Pair → (Id → Acked) → Book
with_acked b p f = of_pages b.topics b.pairs b.who b.attached b.handed_out (updated same_pair b.acked p f)

-- ---- what each call enters

-- a subscribe of an id that is not live: the id is live; if shared, attached to its pair, grants and costs 0
unfoldable pub enter_subscribe : Book → ℕ → Kind → Pair → Who → Book
enter_subscribe b i plain p away = with_who b i live_plain
enter_subscribe b i shared p away =
    with_pair
    (with_attached_ids (with_who b i (attached_to (record { pair = p; grants = 0; costs = 0 }))) p
    (b.attached p ++ i ∷ []))
    p
enter_subscribe b i kind p live_plain = b
enter_subscribe b i kind p (attached_to a) = b

-- a flow adds to an attached consumer's grants
unfoldable pub enter_flow : Book → ℕ → ℕ → Who → Book
enter_flow b i grant away = b
enter_flow b i grant live_plain = b
enter_flow b i grant (attached_to a) =
    with_who b i (attached_to (record { pair = a.pair; grants = a.grants + grant; costs = a.costs }))

-- each id of a list acknowledged by the ack rule, with the book's list as the ledger
unfoldable pub ack_listed : List StoredMessage → (Id → Acked) → List Group → Id → Acked
ack_listed ledger f [] = f
ack_listed ledger f (g ∷ gs) =
    ack_listed ledger
    (updated same_id f g.id (ack_entry (batch_size_of g.id ledger) g.words (f g.id)))
    gs

-- an ack of an attached consumer changes bits and completion for its pair
unfoldable pub enter_ack : Book → List Group → Who → Book
enter_ack b gs away = b
enter_ack b gs live_plain = b
enter_ack b gs (attached_to a) =
    with_acked b a.pair (ack_listed (b.topics a.pair.topic) (b.acked a.pair) gs)

-- a close: the id is neither live nor attached
unfoldable pub enter_close : Book → ℕ → Who → Book
enter_close b i away = b
enter_close b i live_plain = with_who b i away
enter_close b i (attached_to a) =
    with_attached_ids (with_who b i away) a.pair (keep (λ (j : ℕ). not (eqb i j)) (b.attached a.pair))

-- a record of an attached consumer: its (ledger, entry) is handed out for the consumer's pair, and its cost, by push's
-- rule on the book's bits and batch sizes, joins the consumer's costs
unfoldable pub enter_record : Book → Dispatch → Who → Book
enter_record b x away = b
enter_record b x live_plain = b
enter_record b x (attached_to a) =
    let i = x.message.id in
    let price = cost (batch_size_of i (b.topics a.pair.topic)) (b.acked a.pair i).unacked in
    with_handed_out
    (with_who b x.consumer (attached_to (record { pair = a.pair; grants = a.grants; costs = a.costs + price })))
    a.pair i

-- the records of a push, one after the other
unfoldable pub enter_records : Book → List Dispatch → Book
enter_records b [] = b
enter_records b (x ∷ l) = enter_records (enter_record b x (b.who x.consumer)) l

-- a call that was done
unfoldable pub enter_done : Book → Call → List Dispatch → Book
enter_done b (Append topic m) records = with_list b topic (b.topics topic ++ m ∷ [])
enter_done b (Subscribe i kind p) records = enter_subscribe b i kind p (b.who i)
enter_done b (Flow i grant) records = enter_flow b i grant (b.who i)
enter_done b (Ack i list) records = enter_ack b (or_else (groups list) []) (b.who i)
enter_done b (Seek i target) records = b
enter_done b (Redeliver i list) records = b
enter_done b (Close i) records = enter_close b i (b.who i)
enter_done b (Push room) records = enter_records b records

-- ---- what the book is told of an outcome

-- a refusal, or that the call is done with push's records
pub data Told : Type 0 where
  told_refused : Told
  told_done : List Dispatch → Told

-- push's records; any other call has none
unfoldable pub records_of : Value → List Dispatch
records_of nothing = []
records_of (permits_after p) = []
records_of (mark_delete_after k moved) = []
records_of (cursor_after k) = []
records_of (closed b) = []
records_of (dispatches l) = l

-- what is told of an outcome
unfoldable pub told : Outcome → Told
told (refused n) = told_refused
told (short n) = told_refused
told (done v s) = told_done (records_of v)

-- refused calls leave the book as it is
unfoldable pub enter : Book → Call → Told → Book
enter b x told_refused = b
enter b x (told_done records) = enter_done b x records
