-- A row: the calls of a script on the words of a store, which are checked once. What each call does is the rule's; here is
-- what the row answers, and what it leaves in the store, in the answers and in the list.
use Rattle.std.specs.Prelude.{ℕ, ◌+◌, ◌*◌, ◌/◌, ◌%◌, ◌^◌, ◌≡◌, cond, List, [], ◌∷◌, ◌++◌, leb, length, drop}
use Rattle.std.proofs.Math.Option.{Option, none, some}
use Rattle.rules.specs.State.{State}
use Rattle.rules.specs.Outcome.{Outcome}
use Rattle.rules.specs.Calls.{Call, rule, state_after, answer_word}
use Rattle.rules.specs.Calls.Call.{Append, Subscribe, Flow, Ack, Seek, Redeliver, Close, Push}
use Rattle.layout.specs.Layout.{decode, spells}
use Rattle.layout.specs.Calls.{run, made_words, with_records}
use Rattle.trace.specs.Calls.{NO_CALL}
use Rattle.row.specs.Script.{script_calls}

-- ---- what the calls are given

-- a call whose list, if it is a push, holds so many records
unfoldable pub with_room : ℕ → Call → Call
with_room room (Append topic m) = Append topic m
with_room room (Subscribe i kind p) = Subscribe i kind p
with_room room (Flow i grant) = Flow i grant
with_room room (Ack i list) = Ack i list
with_room room (Seek i target) = Seek i target
with_room room (Redeliver i list) = Redeliver i list
with_room room (Close i) = Close i
with_room room (Push n) = Push room

-- what an outcome leaves of a list to the calls after it: what stands behind its records
unfoldable pub left_of : List ℕ → Outcome → List ℕ
left_of list o = drop (length (made_words o)) list

-- the calls of a row as they are made, each on the state that the last one left, and each push with what is left of the list
unfoldable pub given : State → List ℕ → List Call → List Call
given s list [] = []
given s list (x ∷ calls) =
    let y = with_room (length list / 13) x in
    y ∷ given (state_after s (rule s y)) (left_of list (rule s y)) calls

-- ---- what they answer and make

-- the answers of calls, one after the other
unfoldable pub row_answers : State → List Call → List ℕ
row_answers s [] = []
row_answers s (x ∷ calls) = answer_word (rule s x) ∷ row_answers (state_after s (rule s x)) calls

-- the words of the records that calls make, one push after the other
unfoldable pub row_records : State → List Call → List ℕ
row_records s [] = []
row_records s (x ∷ calls) = made_words (rule s x) ++ row_records (state_after s (rule s x)) calls

-- ---- the row

-- there are more calls than words for their answers: a refusal of our own
abbrev pub ANSWERS_SHORT : ℕ
ANSWERS_SHORT = 64

-- what a row comes to: refused with a number and a value, or its calls are made
pub data Row : Type 0 where
  refused_row : ℕ → ℕ → Row
  made_row : List Call → Row

-- 64, with the number of calls, if there are more of them than places for answers
unfoldable pub row_within : ℕ → List Call → Row
row_within places calls = cond (leb (length calls) places) (made_row calls) (refused_row ANSWERS_SHORT (length calls))

-- 18 if a record of the script is no call
unfoldable pub row_of : ℕ → Option (List Call) → Row
row_of places none = refused_row NO_CALL 0
row_of places (some calls) = row_within places calls

-- 1 if the words spell no state
unfoldable pub row : List ℕ → List ℕ → List ℕ → Row
row ws script answers = cond (spells ws) (row_of (length answers) (script_calls script)) (refused_row 1 0)

-- the answer of a row: the number of calls made, or its refusal
unfoldable pub row_answer : Row → ℕ
row_answer (refused_row number value) = value % 2 ^ 56 * 256 + number
row_answer (made_row calls) = length calls % 2 ^ 56 * 256

-- the calls that it makes: none if it is refused
unfoldable pub row_calls : Row → List Call
row_calls (refused_row number value) = []
row_calls (made_row calls) = calls

-- the calls as they are made
abbrev pub calls_made : List ℕ → List ℕ → List ℕ → List ℕ → List Call
calls_made ws script answers list = given (decode ws) list (row_calls (row ws script answers))

-- the words after it
abbrev pub words_left : List ℕ → List ℕ → List ℕ → List ℕ → List ℕ
words_left ws script answers list = run ws (calls_made ws script answers list)

-- the answers after it: one for each call, and what follows them as it was
abbrev pub answers_left : List ℕ → List ℕ → List ℕ → List ℕ → List ℕ
answers_left ws script answers list = with_records answers (row_answers (decode ws) (calls_made ws script answers list))

-- the list after it: the records, one push after the other, and what follows them as it was
abbrev pub list_left : List ℕ → List ℕ → List ℕ → List ℕ → List ℕ
list_left ws script answers list = with_records list (row_records (decode ws) (calls_made ws script answers list))

-- what a row answers and leaves in every slice lent to it; a refused one makes no calls, so it changes nothing
pub record RowLeft (ws script answers list : List ℕ) (r : ℕ) (ws' answers' list' : List ℕ) : Type 0 where
  pub answer : r ≡ row_answer (row ws script answers)
  pub words : ws' ≡ words_left ws script answers list
  pub each : answers' ≡ answers_left ws script answers list
  pub records : list' ≡ list_left ws script answers list
