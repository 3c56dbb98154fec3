-- Dispatches as records: those of the rules, and those that flat words spell.
use Rattle.std.specs.Prelude.{ℕ, zero, suc, ◌+◌, ◌-◌, ◌/◌, ◌%◌, ◌^◌, min, List, [], ◌∷◌, ◌++◌, map, length, drop}
use Rattle.rules.specs.Outcome.{Dispatch, Outcome}
use Rattle.rules.specs.Outcome.Outcome.{refused, short, done}
use Rattle.rules.specs.Book.{records_of}
use Rattle.record.specs.Flat.{record_at}
use Rattle.record.specs.declared.Dispatch as declared

-- the first n records of flat words
unfoldable pub records_in : List ℕ → ℕ → List declared.Dispatch
records_in ws zero = []
records_in ws (suc n) = records_in ws n ++ record_at ws n ∷ []

-- a dispatch of the rules as a record: its fields, the permits in two's complement
unfoldable pub record_for : Dispatch → declared.Dispatch
record_for x =
    record {
      consumer = x.consumer;
      ledger = x.message.id.ledger;
      entry = x.message.id.entry;
      handle = x.message.handle;
      batch_size = x.message.batch_size;
      ack_set_words = x.ack_set_words;
      ack_set = x.ack_set;
      redelivery_count = x.redelivery_count;
      cost = x.cost;
      permits = (x.permits + (2 ^ 64 - 2 ^ 62)) % 2 ^ 64;
    }

-- the dispatches that a push made: none where it was refused
unfoldable pub dispatched : Outcome → List Dispatch
dispatched (refused n) = []
dispatched (short n) = []
dispatched (done v s) = records_of v

-- how many dispatches fit: what a flat list of so many words and a list of so many records both hold
unfoldable pub room : ℕ → ℕ → ℕ
room words records = min (words / 13) records

-- a lent list after a push: the record of each of its dispatches, in their order; the later ones as they were
unfoldable pub listed : Outcome → List declared.Dispatch → List declared.Dispatch
listed o list = map record_for (dispatched o) ++ drop (length (dispatched o)) list

-- a dispatch of nothing
unfoldable pub no_dispatch : declared.Dispatch
no_dispatch =
    record {
      consumer = 0;
      ledger = 0;
      entry = 0;
      handle = 0;
      batch_size = 0;
      ack_set_words = 0;
      ack_set = record { w0 = 0; w1 = 0; w2 = 0; w3 = 0 };
      redelivery_count = 0;
      cost = 0;
      permits = 0;
    }
