-- The calls of a row made one after the other: what they fill and what they leave.
use Rattle.std.specs.Prelude.{ℕ, ◌*◌, ◌≡◌, List}
use Rattle.rules.specs.Calls.{Call}
use Rattle.layout.specs.Layout.{decode}
use Rattle.layout.specs.Calls.{run, with_records}
use Rattle.told.specs.Told.{dispatches_told}
use Rattle.row.specs.Row.{given, row_answers, row_records}

-- how many words of its list a call filled, by its kind and its answer: 13 for each dispatch that is told
unfoldable pub words_filled : ℕ → ℕ → ℕ
words_filled kind answered = dispatches_told kind answered * 13

-- what calls leave in the store, in the answers and in the list
pub record MadeAll (ws answers list : List ℕ) (calls : List Call) (ws' answers' list' : List ℕ) : Type 0 where
  pub words : ws' ≡ run ws (given (decode ws) list calls)
  pub each : answers' ≡ with_records answers (row_answers (decode ws) (given (decode ws) list calls))
  pub records : list' ≡ with_records list (row_records (decode ws) (given (decode ws) list calls))
