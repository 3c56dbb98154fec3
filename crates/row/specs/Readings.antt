-- Readings of scripts and rows: a table of what comes out and of what must. Over the rows stands the sentence that they tell; a
-- row would not hold if that sentence were otherwise. A reader can add a row and have the checker compute it.
use Rattle.std.specs.Prelude.{ℕ, ◌-◌, ◌/◌, ◌^◌, List, [], ◌∷◌, ◌++◌, length, take, drop, replicate}
use Rattle.rules.specs.Table.{or_else}
use Rattle.rules.specs.Outcome.{Dispatch}
use Rattle.rules.specs.Push.{records_read}
use Rattle.rules.specs.Calls.{Call, number_in, value_in}
use Rattle.trace.specs.Played.{at_first}
use Rattle.trace.specs.Readings.{Row as Reading}
use Rattle.row.specs.Script.{script_calls}
use Rattle.row.specs.Row.{given, row_answers, row_records, row_of, row_answer}

-- ---- how a reading is taken

-- the number and the value of an answer
unfoldable pub parts : List ℕ → List ℕ
parts [] = []
parts (a ∷ answers) = number_in a ∷ value_in a ∷ parts answers

-- number and value of the answer to a script with so many words for answers, on words that spell a state
unfoldable pub answered : ℕ → List ℕ → List ℕ
answered places script = parts (row_answer (row_of places (script_calls script)) ∷ [])

-- the calls of a script on a store just opened, E = 32, as they are made with a list of so many words
unfoldable pub calls_on : ℕ → List ℕ → List Call
calls_on words script = given at_first (replicate words 0) (or_else (script_calls script) [])

-- the answers of these calls, number and value of each
unfoldable pub answers_on : ℕ → List ℕ → List ℕ
answers_on words script = parts (row_answers at_first (calls_on words script))

-- the consumer and the entry of each record that they leave in the list
unfoldable pub records_on : ℕ → List ℕ → List ℕ
records_on words script =
    let ws = row_records at_first (calls_on words script) in
    pairs (records_read (length ws / 13) ws)
  where
    pairs : List Dispatch → List ℕ
    pairs [] = []
    pairs (d ∷ l) = d.consumer ∷ d.message.id.entry ∷ pairs l

-- a row of the table
abbrev pub gives : List ℕ → List ℕ → Reading
gives out must = record { comes_out = out; must = must }

-- ---- scripts

-- append to topic 1: ledger 1, entry 0, handle 5, batch size 0; subscribe 7, shared, topic 1, subscription 1; flow of 7: 2; push
unfoldable pub example : List ℕ
example =
    1 ∷ 5 ∷ 1 ∷ 1 ∷ 0 ∷ 5 ∷ 0 ∷ 2 ∷ 4 ∷ 7 ∷ 1 ∷ 1 ∷ 1 ∷ 3 ∷ 2 ∷ 7 ∷ 2 ∷ 8 ∷ 0 ∷ []

-- a call of a kind with so many words, all 0
unfoldable pub of_zeros : ℕ → ℕ → List ℕ
of_zeros kind n = kind ∷ n ∷ replicate n 0

-- the forms of a script
unfoldable pub form_rows : List Reading
form_rows =
    -- every call in order: four are made; no words, no calls
    gives (answered 4 example) (0 ∷ 4 ∷ [])
    ∷ gives (answered 0 []) (0 ∷ 0 ∷ [])
    -- 18 where the script is cut off: in a call's front, in its words
    ∷ gives (answered 9 (take 1 example)) (18 ∷ 0 ∷ [])
    ∷ gives (answered 9 (take 6 example)) (18 ∷ 0 ∷ [])
    ∷ gives (answered 9 (take 7 example)) (0 ∷ 1 ∷ [])
    ∷ gives (answered 9 (take 18 example)) (18 ∷ 0 ∷ [])
    -- where it fits no kind: kinds 0 and 9
    ∷ gives (answered 9 (0 ∷ 0 ∷ [])) (18 ∷ 0 ∷ [])
    ∷ gives (answered 9 (9 ∷ 0 ∷ [])) (18 ∷ 0 ∷ [])
    -- each kind with a word too few and one too many
    ∷ gives (answered 9 (of_zeros 1 4)) (18 ∷ 0 ∷ [])
    ∷ gives (answered 9 (of_zeros 1 5)) (0 ∷ 1 ∷ [])
    ∷ gives (answered 9 (of_zeros 1 6)) (18 ∷ 0 ∷ [])
    ∷ gives (answered 9 (of_zeros 2 3)) (18 ∷ 0 ∷ [])
    ∷ gives (answered 9 (of_zeros 2 4)) (0 ∷ 1 ∷ [])
    ∷ gives (answered 9 (of_zeros 2 5)) (18 ∷ 0 ∷ [])
    ∷ gives (answered 9 (of_zeros 3 1)) (18 ∷ 0 ∷ [])
    ∷ gives (answered 9 (of_zeros 3 2)) (0 ∷ 1 ∷ [])
    ∷ gives (answered 9 (of_zeros 3 3)) (18 ∷ 0 ∷ [])
    ∷ gives (answered 9 (of_zeros 4 0)) (18 ∷ 0 ∷ [])
    ∷ gives (answered 9 (of_zeros 4 1)) (0 ∷ 1 ∷ [])
    ∷ gives (answered 9 (of_zeros 5 1)) (18 ∷ 0 ∷ [])
    ∷ gives (answered 9 (of_zeros 5 2)) (0 ∷ 1 ∷ [])
    ∷ gives (answered 9 (of_zeros 5 3)) (18 ∷ 0 ∷ [])
    ∷ gives (answered 9 (of_zeros 5 4)) (18 ∷ 0 ∷ [])
    ∷ gives (answered 9 (5 ∷ 4 ∷ 7 ∷ 1 ∷ 0 ∷ 0 ∷ [])) (0 ∷ 1 ∷ [])
    ∷ gives (answered 9 (5 ∷ 2 ∷ 7 ∷ 1 ∷ [])) (18 ∷ 0 ∷ [])
    ∷ gives (answered 9 (of_zeros 6 0)) (18 ∷ 0 ∷ [])
    ∷ gives (answered 9 (of_zeros 6 1)) (0 ∷ 1 ∷ [])
    ∷ gives (answered 9 (of_zeros 7 0)) (18 ∷ 0 ∷ [])
    ∷ gives (answered 9 (of_zeros 7 1)) (0 ∷ 1 ∷ [])
    ∷ gives (answered 9 (of_zeros 7 2)) (18 ∷ 0 ∷ [])
    ∷ gives (answered 9 (of_zeros 8 0)) (0 ∷ 1 ∷ [])
    ∷ gives (answered 9 (of_zeros 8 1)) (18 ∷ 0 ∷ [])
    -- a subscribe is plain by 0 or shared by 1
    ∷ gives (answered 9 (2 ∷ 4 ∷ 7 ∷ 1 ∷ 1 ∷ 1 ∷ [])) (0 ∷ 1 ∷ [])
    ∷ gives (answered 9 (2 ∷ 4 ∷ 7 ∷ 2 ∷ 1 ∷ 1 ∷ [])) (18 ∷ 0 ∷ [])
    -- a list of as many words as a trace's record may have, and one more
    ∷ gives (answered 9 (of_zeros 4 1217)) (0 ∷ 1 ∷ [])
    ∷ gives (answered 9 (of_zeros 4 1218)) (18 ∷ 0 ∷ [])
    -- or has a word too wide: topic and subscription of 9 bits, a grant of 33
    ∷ gives (answered 9 (1 ∷ 5 ∷ 255 ∷ 0 ∷ 0 ∷ 0 ∷ 0 ∷ [])) (0 ∷ 1 ∷ [])
    ∷ gives (answered 9 (1 ∷ 5 ∷ 256 ∷ 0 ∷ 0 ∷ 0 ∷ 0 ∷ [])) (18 ∷ 0 ∷ [])
    ∷ gives (answered 9 (2 ∷ 4 ∷ 7 ∷ 0 ∷ 255 ∷ 255 ∷ [])) (0 ∷ 1 ∷ [])
    ∷ gives (answered 9 (2 ∷ 4 ∷ 7 ∷ 0 ∷ 256 ∷ 1 ∷ [])) (18 ∷ 0 ∷ [])
    ∷ gives (answered 9 (2 ∷ 4 ∷ 7 ∷ 0 ∷ 1 ∷ 256 ∷ [])) (18 ∷ 0 ∷ [])
    ∷ gives (answered 9 (3 ∷ 2 ∷ 7 ∷ (2 ^ 32 - 1) ∷ [])) (0 ∷ 1 ∷ [])
    ∷ gives (answered 9 (3 ∷ 2 ∷ 7 ∷ (2 ^ 32) ∷ [])) (18 ∷ 0 ∷ [])
    -- 64, and how many calls there are, where they are more than the answers
    ∷ gives (answered 3 example) (64 ∷ 4 ∷ [])
    ∷ gives (answered 0 example) (64 ∷ 4 ∷ [])
    -- 18 comes first
    ∷ gives (answered 0 (example ++ (9 ∷ 0 ∷ []))) (18 ∷ 0 ∷ [])
    ∷ []

-- ---- rows

-- two entries more
unfoldable pub two_more : List ℕ
two_more = 1 ∷ 5 ∷ 1 ∷ 1 ∷ 1 ∷ 5 ∷ 0 ∷ 1 ∷ 5 ∷ 1 ∷ 1 ∷ 2 ∷ 5 ∷ 0 ∷ []

-- the example with a flow of 5 more, then two entries more and a push
unfoldable pub two_pushes : List ℕ
two_pushes = example ++ (3 ∷ 2 ∷ 7 ∷ 5 ∷ two_more) ++ (8 ∷ 0 ∷ [])

-- after two pushes 7 closes, 8 subscribes and gets one permit, and there is a third push
unfoldable pub three_pushes : List ℕ
three_pushes = two_pushes ++ (7 ∷ 1 ∷ 7 ∷ 2 ∷ 4 ∷ 8 ∷ 1 ∷ 1 ∷ 1 ∷ 3 ∷ 2 ∷ 8 ∷ 1 ∷ 8 ∷ 0 ∷ [])

-- what calls answer and make
unfoldable pub made_rows : List Reading
made_rows =
    -- one answer for each call
    gives (answers_on 13 example) (0 ∷ 0 ∷ 0 ∷ 0 ∷ 0 ∷ 2 ∷ 0 ∷ 1 ∷ [])
    ∷ gives (records_on 13 example) (7 ∷ 0 ∷ [])
    -- a refused call gets its own answer, and the row goes on
    ∷ gives (answers_on 13 ((3 ∷ 2 ∷ 9 ∷ 1 ∷ example) ++ (1 ∷ 5 ∷ 1 ∷ 1 ∷ 0 ∷ 5 ∷ 0 ∷ 7 ∷ 1 ∷ 7 ∷ [])))
    (4 ∷ 0 ∷ 0 ∷ 0 ∷ 0 ∷ 0 ∷ 0 ∷ 2 ∷ 0 ∷ 1 ∷ 7 ∷ 0 ∷ 0 ∷ 1 ∷ [])
    -- records stand one push after the other
    ∷ gives (drop 8 (answers_on 39 two_pushes)) (0 ∷ 6 ∷ 0 ∷ 0 ∷ 0 ∷ 0 ∷ 0 ∷ 2 ∷ [])
    ∷ gives (records_on 39 two_pushes) (7 ∷ 0 ∷ 7 ∷ 1 ∷ 7 ∷ 2 ∷ [])
    -- each push is given what is left: here one word too few for the second one's two records
    ∷ gives (drop 14 (answers_on 38 two_pushes)) (15 ∷ 2 ∷ [])
    ∷ gives (records_on 38 two_pushes) (7 ∷ 0 ∷ [])
    -- after a push with 15 the next push has the same rest of the list
    ∷ gives (drop 14 (answers_on 26 three_pushes)) (15 ∷ 2 ∷ 0 ∷ 1 ∷ 0 ∷ 0 ∷ 0 ∷ 1 ∷ 0 ∷ 1 ∷ [])
    ∷ gives (records_on 26 three_pushes) (7 ∷ 0 ∷ 8 ∷ 0 ∷ [])
    -- and where that holds no record, 15 again
    ∷ gives (drop 22 (answers_on 25 three_pushes)) (15 ∷ 1 ∷ [])
    ∷ []

-- all of them
unfoldable pub readings : List Reading
readings = form_rows ++ made_rows
