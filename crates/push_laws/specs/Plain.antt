-- The plain part of a push by plain numbers: how many entries each consumer is due, and what it is then.
use Rattle.std.specs.Prelude.{ℕ, zero, suc, ◌+◌, ◌-◌, min, List, [], ◌∷◌, ◌++◌, length}
use Rattle.rules.specs.Permits.{zero_permits}
use Rattle.rules.specs.State.{StoredMessage, by_kind, Consumer, State, no_bits, ledger_of}
use Rattle.rules.specs.Ledger.{message_at}
use Rattle.rules.specs.Commands.{with_permits, with_reading}
use Rattle.rules.specs.Outcome.{Dispatch}

-- how many entries a consumer is due: of a plain one as many as it has permits for and entries waiting
unfoldable pub plain_due : List StoredMessage → Consumer → ℕ
plain_due ledger c =
    by_kind c.kind (min (c.permits - zero_permits) (length c.nacked + (length ledger - c.cursor))) 0

-- the position of the next entry: the first nacked, else the cursor
unfoldable pub next_position : ℕ → List ℕ → ℕ
next_position cursor [] = cursor
next_position cursor (k ∷ nacked) = k

-- a consumer's cursor and nacked positions with the next entry taken, and its permits less 1
unfoldable pub taken_next : Consumer → List ℕ → Consumer
taken_next c [] = with_permits (with_reading c (suc c.cursor) []) (c.permits - 1)
taken_next c (k ∷ nacked) = with_permits (with_reading c c.cursor nacked) (c.permits - 1)

-- a consumer after one entry
unfoldable pub after_one : Consumer → Consumer
after_one c = taken_next c c.nacked

-- the record of the entry at a position
unfoldable pub plain_record : List StoredMessage → Consumer → ℕ → Dispatch
plain_record ledger c k =
    record {
      consumer = c.id;
      message = message_at ledger k;
      ack_set_words = 0;
      ack_set = no_bits;
      redelivery_count = 0;
      cost = 1;
      permits = c.permits - 1;
    }

-- the records of the next n entries
unfoldable pub plain_records : List StoredMessage → Consumer → ℕ → List Dispatch
plain_records ledger c zero = []
plain_records ledger c (suc n) =
    plain_record ledger c (next_position c.cursor c.nacked) ∷ plain_records ledger (after_one c) n

-- a consumer after n entries
unfoldable pub after_entries : Consumer → ℕ → Consumer
after_entries c zero = c
after_entries c (suc n) = after_entries (after_one c) n

-- ---- all of them

-- the ledger of a consumer's topic
abbrev pub ledger_for : State → Consumer → List StoredMessage
ledger_for s c = ledger_of s c.pair.topic

-- a consumer after its part
unfoldable pub plain_served : State → Consumer → Consumer
plain_served s c = after_entries c (plain_due (ledger_for s c) c)

-- the records of some consumers' parts
unfoldable pub all_plain_records : State → List Consumer → List Dispatch
all_plain_records s [] = []
all_plain_records s (c ∷ l) = plain_records (ledger_for s c) c (plain_due (ledger_for s c) c) ++ all_plain_records s l
