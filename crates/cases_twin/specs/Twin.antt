-- A push into records beside the flat push: what the runner compares of the two.
use Rattle.std.specs.Prelude.{ℕ, zero, suc, ◌*◌, ◌/◌, ◌%◌, min, Bool, cond, ◌&&◌, List, ◌++◌, eqb, ltb, get_or, take, drop, replicate}
use Rattle.words.specs.Act.{lay}
use Rattle.rules.specs.Outcome.{Outcome}
use Rattle.rules.specs.Calls.{Call}
use Rattle.rules.specs.Calls.Call.{Push}
use Rattle.layout.specs.Calls.{outcome, answer, after, list_after}
use Rattle.record.specs.Flat.{record_words}
use Rattle.record.specs.declared.Dispatch as declared
use Rattle.push_records.specs.Listed.{room as fitting, listed, no_dispatch}
use Rattle.cases_line.specs.Words.{same_words}

-- words to which the first n records of a list are written, one after the other from the start on
unfoldable pub written_back : List declared.Dispatch → ℕ → List ℕ → List ℕ
written_back l zero ws = ws
written_back l (suc n) ws = (lay (record_words (get_or l n no_dispatch))).run (n * 13) (written_back l n ws)

-- how many dispatches an answer of push tells, of at most 64: none with a refusal
unfoldable pub told : ℕ → ℕ
told given = cond (ltb 0 (given % 256)) 0 (min (given / 256) 64)

-- a push with as many records as a list of so many words and a list of 64 records both hold
abbrev pub pushed : ℕ → Call
pushed words = Push (fitting words 64)

-- a list of which the first words were lent to a push, after it
unfoldable pub lent_after : List ℕ → ℕ → Outcome → List ℕ
lent_after list words o = list_after (take words list) o ++ drop words list

-- a list of 64 records of nothing
unfoldable pub no_dispatches : List declared.Dispatch
no_dispatches = replicate 64 no_dispatch

-- the room of 64 records in flat words, all 0
unfoldable pub no_words : List ℕ
no_words = replicate 832 0

-- whether a push into records, on words, with the first words of 832 zeros lent, gives an answer, leaves a store and a list,
-- and has dispatches whose flat words are that list
unfoldable pub as_flat : List ℕ → List ℕ → List ℕ → ℕ → ℕ → Bool
as_flat ws store list words given =
    eqb (answer ws (pushed words)) given
    && (same_words (after ws (pushed words)) store
    && (same_words (lent_after no_words words (outcome ws (pushed words))) list
    && same_words (written_back (listed (outcome ws (pushed words)) no_dispatches) (told given) no_words) list))
