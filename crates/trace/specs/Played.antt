-- Playing a trace: the whole text for a whole input, `bad` lines included, and the calls that are made.
use Rattle.std.specs.Prelude.{ℕ, suc, false, cond, List, [], ◌∷◌, ◌++◌, map, drop}
use Rattle.std.proofs.Math.Option.{Option, none, some, bind}
use Rattle.words.specs.Words.{starts}
use Rattle.rules.specs.State.{State}
use Rattle.rules.specs.Calls.{Call, opened, rule, state_after}
use Rattle.trace.specs.Format.{header, HEADER_BYTES, Record, records}
use Rattle.trace.specs.Calls.{call_of}
use Rattle.trace.specs.Text.{outcome_text, bad_line}

-- the records that the list of a push holds
abbrev pub ROOM : ℕ
ROOM = 32

-- the store at first: E = 32, switches off
unfoldable pub at_first : State
at_first = opened 32 false false

-- a record as a call
unfoldable pub record_call : Record → Option Call
record_call r = call_of ROOM r.kind r.words

-- the records of some bytes as calls, nothing where one is none
unfoldable pub calls_in : List ℕ → List (Option Call)
calls_in bytes = map (λ (r : Option Record). bind r record_call) (records bytes)

-- the text of calls, each on the state that the last one left, from record `number` on; the first that is none is bad, and
-- no more is played
unfoldable pub played_from : ℕ → State → List (Option Call) → List ℕ
played_from number s [] = []
played_from number s (none ∷ calls) = bad_line number
played_from number s (some x ∷ calls) =
    outcome_text number x (rule s x) ++ played_from (suc number) (state_after s (rule s x)) calls

-- the text of a trace
unfoldable pub played : List ℕ → List ℕ
played input =
    cond (starts header input) (played_from 1 at_first (calls_in (drop HEADER_BYTES input))) (bad_line 0)

-- ---- the calls made

-- those before the first that is none
unfoldable pub before_bad : List (Option Call) → List Call
before_bad [] = []
before_bad (none ∷ calls) = []
before_bad (some x ∷ calls) = x ∷ before_bad calls

-- the calls of a trace
unfoldable pub calls_played : List ℕ → List Call
calls_played input = cond (starts header input) (before_bad (calls_in (drop HEADER_BYTES input))) []
