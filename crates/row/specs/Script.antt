-- A script: calls in words, to be made one after the other. Each is a kind, a count n (at most 1,217) and n words; kinds and
-- words are those of a trace, and are read as calls by the definition that reads a trace's records.
use Rattle.std.specs.Prelude.{ℕ, ◌+◌, List, [], ◌∷◌, ◌++◌, map, length, get_or, take, drop}
use Rattle.std.proofs.Math.Option.{Option, none, some, bind}
use Rattle.rules.specs.Calls.{Call}
use Rattle.trace.specs.Format.{Record, Reach, reach_in, Form, records_by}
use Rattle.trace.specs.Calls.{call_of, kind_of, words_of}

-- ---- records in words

-- the words before a record's own: kind and count
abbrev pub FRONT_WORDS : ℕ
FRONT_WORDS = 2

-- the words of a record with n words of its own
abbrev pub call_size : ℕ → ℕ
call_size n = FRONT_WORDS + n

-- how far the record at the front of some words reaches: wrong where its count is too large
unfoldable pub call_reach : List ℕ → Reach
call_reach ws = reach_in (length ws) FRONT_WORDS (get_or ws 1 0) (call_size (get_or ws 1 0))

-- the record at the front of some words, which is whole
unfoldable pub call_record : List ℕ → Record
call_record ws = record { kind = get_or ws 0 0; words = take (get_or ws 1 0) (drop FRONT_WORDS ws) }

-- records as they stand in a script
abbrev pub in_words : Form
in_words = record { reach = call_reach; first = call_record }

-- ---- as calls

-- a record as a call. What a push's list holds is known when the call is made, so here it holds nothing.
unfoldable pub script_call : Record → Option Call
script_call r = call_of 0 r.kind r.words

-- all of some things, if none of them is missing
unfoldable pub all_there : {A : Type 0} → List (Option A) → Option (List A)
all_there [] = some []
all_there (none ∷ l) = none
all_there (some a ∷ l) = bind (all_there l) (λ t. some (a ∷ t))

-- the calls of a script; nothing where a record of it is cut off, fits no kind or has a word too wide
unfoldable pub script_calls : List ℕ → Option (List Call)
script_calls script = all_there (map (λ (r : Option Record). bind r script_call) (records_by in_words script))

-- ---- written

-- the words of a call in a script
unfoldable pub call_words : Call → List ℕ
call_words x = kind_of x ∷ length (words_of x) ∷ words_of x

-- the script of some calls
unfoldable pub script_words : List Call → List ℕ
script_words [] = []
script_words (x ∷ calls) = call_words x ++ script_words calls
