-- What is promised of scripts and rows, for every list of calls. The proofs are in `proofs/`: of what is read back in
-- ReadBack.antt, of calls one by one in OneByOne.antt, of refused rows in Refused.antt; demand 3 of rows is in Demand.antt.
use Rattle.std.specs.Prelude.{ℕ, ◌/◌, ◌≡◌, true, false, List, ◌∷◌, ◌++◌, length}
use Rattle.std.proofs.Math.Option.{some, map}
use Rattle.rules.specs.Table.{all}
use Rattle.rules.specs.Calls.{Call, fits}
use Rattle.layout.specs.Layout.{decode, spells}
use Rattle.layout.specs.Calls.{outcome, answer, after, run, made_words}
use Rattle.trace.specs.Format.{Record}
use Rattle.trace.specs.Calls.{recordable}
use Rattle.trace.specs.Played.{ROOM, record_call}
use Rattle.row.specs.Script.{script_call, script_calls, script_words}
use Rattle.row.specs.Row.{with_room, left_of, given, row_answers, row_records, row, row_answer, words_left, answers_left, list_left}
use Rattle.row.specs.Row.Row.{refused_row}

-- ---- scripts

-- the script of some calls is read as these calls, all of them and no more
unfoldable pub ScriptsReadBack : Type 0
ScriptsReadBack = (calls : List Call) → all (recordable 0) calls ≡ true → script_calls (script_words calls) ≡ some calls

-- a record is a call in a script exactly where it is one in a trace, and the same one but for what a push's list holds
unfoldable pub ReadAsInTraces : Type 0
ReadAsInTraces = (r : Record) → record_call r ≡ map (with_room ROOM) (script_call r)

-- ---- rows

-- a row's first call is that of the single export, on the same words and with the whole list; what follows is a row on the
-- words that this call leaves, with what it leaves of the list
pub record MadeFirst (ws list : List ℕ) (x : Call) (calls : List Call) : Type 0 where
  pub words :
      run ws (given (decode ws) list (x ∷ calls))
      ≡ (let y = with_room (length list / 13) x in run (after ws y) (given (decode (after ws y)) (left_of list (outcome ws y)) calls))
  pub each :
      row_answers (decode ws) (given (decode ws) list (x ∷ calls))
      ≡ (let y = with_room (length list / 13) x in
      answer ws y ∷ row_answers (decode (after ws y)) (given (decode (after ws y)) (left_of list (outcome ws y)) calls))
  pub records :
      row_records (decode ws) (given (decode ws) list (x ∷ calls))
      ≡ (let y = with_room (length list / 13) x in
      made_words (outcome ws y) ++ row_records (decode (after ws y)) (given (decode (after ws y)) (left_of list (outcome ws y)) calls))

-- so a row is its calls made one by one
unfoldable pub OneByOne : Type 0
OneByOne =
    (ws list : List ℕ) (x : Call) (calls : List Call) → spells ws ≡ true → fits (with_room (length list / 13) x) ≡ true
    → MadeFirst ws list x calls

-- ---- refused rows

-- what a row leaves is what was there: in the store, in the answers, in the list
pub record NothingChanged (ws script answers list : List ℕ) : Type 0 where
  pub words : words_left ws script answers list ≡ ws
  pub each : answers_left ws script answers list ≡ answers
  pub records : list_left ws script answers list ≡ list

-- a refused row changes nothing
unfoldable pub RefusedChangeNothing : Type 0
RefusedChangeNothing =
    (ws script answers list : List ℕ) (number value : ℕ) → row ws script answers ≡ refused_row number value
    → NothingChanged ws script answers list

-- on words that spell no state a row is refused by 1, whatever its script and however many answers are lent
unfoldable pub UnspeltBy1 : Type 0
UnspeltBy1 = (ws script answers : List ℕ) → spells ws ≡ false → row_answer (row ws script answers) ≡ 1
