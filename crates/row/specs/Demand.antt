-- Demand 3 of rows: a store is opened and rows of calls are made on it, one after the other. The book is told of each row what
-- its caller knows: the script, the row's answer, and what the row left in the answers and in the list.
use Rattle.std.specs.Prelude.{ℕ, ◌*◌, ◌^◌, ◌≤◌, ◌<◌, ◌≡◌, Bool, true, cond, not, ◌&&◌, List, [], ◌∷◌, eqb, length, get_or, drop}
use Rattle.rules.specs.Table.{all, or_else}
use Rattle.rules.specs.Valid.{is_word}
use Rattle.rules.specs.Calls.{Call, needed, number_in, value_in}
use Rattle.rules.specs.Calls.Call.{Append, Subscribe, Flow, Ack, Seek, Redeliver, Close, Push}
use Rattle.rules.specs.Book.{Book, enter}
use Rattle.rules.specs.Demand.{subscribes_live}
use Rattle.layout.specs.Demand.{Lent, can_be_given, told_by, WordsReached, at_opening, after_calls, never_replaces, WordsAccounted}
use Rattle.row.specs.Script.{script_calls}
use Rattle.row.specs.Row.{row, row_answer, words_left, answers_left, list_left, RowLeft}

-- ---- the book, from script, answers and list alone

-- the calls that a row made, by its answer: those of its script where the number is 0, else none
unfoldable pub calls_told : ℕ → List ℕ → List Call
calls_told answered script = cond (eqb (number_in answered) 0) (or_else (script_calls script) []) []

-- what is left of the list behind the records of a call: as many as the answer of a push says, if its number is 0
unfoldable pub left_told : Call → ℕ → List ℕ → List ℕ
left_told (Append topic m) answered list = list
left_told (Subscribe i kind p) answered list = list
left_told (Flow i grant) answered list = list
left_told (Ack i acked) answered list = list
left_told (Seek i target) answered list = list
left_told (Redeliver i back) answered list = list
left_told (Close i) answered list = list
left_told (Push room) answered list = cond (eqb (number_in answered) 0) (drop (13 * value_in answered) list) list

-- the book after calls, each entered with its own answer and, if its number is 0, the records in front of the list
unfoldable pub enter_calls : Book → List Call → List ℕ → List ℕ → Book
enter_calls b [] answers list = b
enter_calls b (x ∷ calls) answers list =
    let a = get_or answers 0 0 in
    enter_calls (enter b x (told_by a list)) calls (drop 1 answers) (left_told x a list)

-- the book after a row, from its answer, its script, and its answers and list as it left them
unfoldable pub enter_row : Book → ℕ → List ℕ → List ℕ → List ℕ → Book
enter_row b answered script answers list = enter_calls b (calls_told answered script) answers list

-- ---- no live id is replaced

-- whether no call is a subscribe of an id that the book has as live, answered as done other than as a no-op
unfoldable pub none_replaced : ℕ → Book → List Call → List ℕ → List ℕ → Bool
none_replaced noop b [] answers list = true
none_replaced noop b (x ∷ calls) answers list =
    let a = get_or answers 0 0 in
    not (subscribes_live b x && eqb (number_in a) 0 && eqb noop 0)
    && none_replaced noop (enter b x (told_by a list)) calls (drop 1 answers) (left_told x a list)

-- so of a row
unfoldable pub row_replaces_none : ℕ → Book → ℕ → List ℕ → List ℕ → List ℕ → Bool
row_replaces_none noop b answered script answers list = none_replaced noop b (calls_told answered script) answers list

-- ---- words that a book tells of

-- words and a book that calls led to: a store was opened with the leak switch off, calls were made that the exports can be
-- given and that replaced no live id, and the book was told of each of them
pub record TellsOf (noop : ℕ) (r : WordsReached) : Type 0 where
  pub before : List ℕ
  pub entries : ℕ
  pub low : 1 ≤ entries
  pub high : entries ≤ 4096
  pub long : needed entries ≤ length before
  pub calls : List Lent
  pub could : all can_be_given calls ≡ true
  pub replaces_none : never_replaces noop (at_opening before entries noop) calls ≡ true
  pub reached : r ≡ after_calls (at_opening before entries noop) calls

-- a store just opened is one that the empty book tells of
unfoldable pub OpenedTold : Type 0
OpenedTold =
    (ws : List ℕ) (e noop : ℕ) → 1 ≤ e → e ≤ 4096 → needed e ≤ length ws → TellsOf noop (at_opening ws e noop)

-- a row in which no live id is replaced keeps it: the words that it leaves are told of by the book after it. (A lent list has
-- fewer than 2^64 words.)
unfoldable pub RowsKeep : Type 0
RowsKeep =
    (noop : ℕ) (b : Book) (ws script answers list : List ℕ) (r : ℕ) (ws' answers' list' : List ℕ)
    → RowLeft ws script answers list r ws' answers' list' → length list < 2 ^ 64
    → TellsOf noop (record { words = ws; book = b }) → row_replaces_none noop b r script answers' list' ≡ true
    → TellsOf noop (record { words = ws'; book = enter_row b r script answers' list' })

-- demand 3: words that a book tells of spell a state, and in it every permit and every message is accounted for
unfoldable pub ToldAccounted : Type 0
ToldAccounted = (noop : ℕ) (r : WordsReached) → TellsOf noop r → WordsAccounted r

-- ---- any number of rows

-- the slices of a row but the store
pub record LentRow : Type 0 where
  pub script : List ℕ
  pub answers : List ℕ
  pub list : List ℕ

-- a list has as many words as a slice can have
unfoldable pub is_slice : LentRow → Bool
is_slice c = is_word (length c.list)

-- what a row on some words answers
unfoldable pub answered_by : WordsReached → LentRow → ℕ
answered_by r c = row_answer (row r.words c.script c.answers)

-- the words after a row, and the book after it, from what the row left alone
unfoldable pub after_row : WordsReached → LentRow → WordsReached
after_row r c =
    record {
      words = words_left r.words c.script c.answers c.list;
      book =
          enter_row r.book (answered_by r c) c.script
          (answers_left r.words c.script c.answers c.list) (list_left r.words c.script c.answers c.list);
    }

-- after rows, each given the words as the last one left them
unfoldable pub after_rows : WordsReached → List LentRow → WordsReached
after_rows r [] = r
after_rows r (c ∷ rows) = after_rows (after_row r c) rows

-- whether a row on some words replaces no live id
unfoldable pub replaces_none_on : ℕ → WordsReached → LentRow → Bool
replaces_none_on noop r c =
    row_replaces_none noop r.book (answered_by r c) c.script
    (answers_left r.words c.script c.answers c.list) (list_left r.words c.script c.answers c.list)

-- whether none of some rows does
unfoldable pub rows_replace_none : ℕ → WordsReached → List LentRow → Bool
rows_replace_none noop r [] = true
rows_replace_none noop r (c ∷ rows) = replaces_none_on noop r c && rows_replace_none noop (after_row r c) rows

-- demand 3 of rows: for every list of words long enough for E, either no-op switch, leak off, and every list of rows in which
-- no live id is replaced
unfoldable pub Demand3Rows : Type 0
Demand3Rows =
    (ws : List ℕ) (e noop : ℕ) (rows : List LentRow) → 1 ≤ e → e ≤ 4096 → needed e ≤ length ws → all is_slice rows ≡ true
    → rows_replace_none noop (at_opening ws e noop) rows ≡ true → WordsAccounted (after_rows (at_opening ws e noop) rows)
