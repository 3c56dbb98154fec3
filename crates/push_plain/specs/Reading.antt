-- A plain consumer's part of a push as the code makes it: which entry comes at each turn, what the consumer is after some
-- of them, and what must be known of a state so that every such entry is in its ledger.
use Rattle.std.specs.Prelude.{ℕ, ◌+◌, ◌-◌, ◌≤◌, ◌<◌, ◌≡◌, cond, List, ◌++◌, map, ltb, length, get_or, take, drop}
use Rattle.rules.specs.Table.{Every}
use Rattle.rules.specs.State.{StoredMessage, Consumer, State, no_bits, by_kind, with_consumers}
use Rattle.rules.specs.Ledger.{message_at}
use Rattle.rules.specs.Commands.{with_permits}
use Rattle.rules.specs.Outcome.{Dispatch}
use Rattle.layout.specs.Layout.{decode}
use Rattle.layout.specs.Fields.{consumer_nth, topic_nth, consumer_now}
use Rattle.layout.specs.Placed.{ConsumerIn, TopicIn}
use Rattle.push_laws.specs.Applied.{with_each}
use Rattle.push_plain.specs.declared.reader.Reader as readers
use Rattle.push_laws.specs.Plain.{plain_due, plain_records, ledger_for, plain_served, all_plain_records}

-- the position of entry j of those that wait: the nacked ones first, then from the cursor on
unfoldable pub position_at : Consumer → ℕ → ℕ
position_at c j = cond (ltb j (length c.nacked)) (get_or c.nacked j 0) (c.cursor + (j - length c.nacked))

-- the record of the message at a position, to the consumer with an id, with its permits after it
unfoldable pub record_to : List StoredMessage → ℕ → ℕ → ℕ → Dispatch
record_to ledger id k permits =
    record {
      consumer = id;
      message = message_at ledger k;
      ack_set_words = 0;
      ack_set = no_bits;
      redelivery_count = 0;
      cost = 1;
      permits = permits;
    }

-- the record of entry j of those that wait
unfoldable pub entry_record : List StoredMessage → Consumer → ℕ → Dispatch
entry_record ledger c j = record_to ledger c.id (position_at c j) (c.permits - j - 1)

-- a consumer with n entries taken
unfoldable pub entries_taken : Consumer → ℕ → Consumer
entries_taken c n =
    record {
      id = c.id;
      pair = c.pair;
      kind = c.kind;
      permits = c.permits - n;
      cursor = c.cursor + (n - length c.nacked);
      nacked = drop n c.nacked;
    }

-- the ledger of consumer i's topic, in the state that words decode to
abbrev pub ledger_now : List ℕ → ℕ → List StoredMessage
ledger_now ws i = ledger_for (decode ws) (consumer_now ws i)

-- how many entries consumer i is due there, with other permits
abbrev pub due_now : List ℕ → ℕ → ℕ → ℕ
due_now ws i permits = plain_due (ledger_now ws i) (with_permits (consumer_now ws i) permits)

-- what waits for a plain consumer: what it nacked, and its topic's ledger from its cursor on; nothing for a shared one
unfoldable pub waiting_for : State → Consumer → ℕ
waiting_for s c = by_kind c.kind (length c.nacked + (length (ledger_for s c) - c.cursor)) 0

-- the records of its next n entries, with other permits
abbrev pub records_now : List ℕ → ℕ → ℕ → ℕ → List Dispatch
records_now ws i permits n = plain_records (ledger_now ws i) (with_permits (consumer_now ws i) permits) n

-- the records of all plain consumers' parts, each with its permits of a list
abbrev pub plain_records_now : List ℕ → List ℕ → List Dispatch
plain_records_now ws permits = all_plain_records (decode ws) (with_each (decode ws).consumers permits)

-- the positions that a consumer reads lie in its ledger
pub record ReadableConsumer (s : State) (c : Consumer) : Type 0 where
  pub cursor_in : c.cursor ≤ length (ledger_for s c)
  pub nacked_in : Every (λ (k : ℕ). k < length (ledger_for s c)) c.nacked

-- those of every consumer do
pub record Readable (s : State) : Type 0 where
  pub each : Every (ReadableConsumer s) s.consumers

-- consumer i of a store is there, and those that it reads do
pub record ReadableIn (e : ℕ) (ws : List ℕ) (i : ℕ) : Type 0 where
  pub here : ConsumerIn e ws i
  pub readable : ReadableConsumer (decode ws) (consumer_nth (decode ws) i)

-- n entries can be sent to a reader, whose ledger is that of topic t: as many wait, and its permits are enough for them
pub record SendableTo (x : readers.Reader) (t : ℕ) (ws : List ℕ) (n : ℕ) : Type 0 where
  pub reader : ReadableIn x.e ws x.i
  pub topic : TopicIn x.e ws t
  pub ledger : (topic_nth (decode ws) t).messages ≡ ledger_for (decode ws) (consumer_nth (decode ws) x.i)
  pub waiting : n ≤ length (consumer_nth (decode ws) x.i).nacked
      + (length (ledger_for (decode ws) (consumer_nth (decode ws) x.i)) - (consumer_nth (decode ws) x.i).cursor)
  pub permitted : n ≤ x.permits

-- the consumers after their parts, by the permits given
unfoldable pub all_served : State → List ℕ → List Consumer
all_served s permits = map (plain_served s) (with_each s.consumers permits)

-- a state whose first i consumers were served
unfoldable pub served_until : State → List ℕ → ℕ → State
served_until s permits i = with_consumers s (take i (all_served s permits) ++ drop i s.consumers)
