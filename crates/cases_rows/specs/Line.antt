-- A line of the runner's input that is a row of calls: what it leaves in the store.
use Rattle.std.specs.Prelude.{ℕ, ◌*◌, cond, List, min, ltb, length, get_or, drop, replicate}
use Rattle.row.specs.Row.{words_left}

-- the words after a line: the name, how many words are lent for answers, how many records the list holds, at most 64 of each, and
-- the script; both hold zeros. Without the two numbers no row is made.
unfoldable pub row_line_after : List ℕ → List ℕ → List ℕ
row_line_after ws line =
    cond (ltb (length line) 3) ws
    (words_left ws (drop 3 line) (replicate (min (get_or line 1 0) 64) 0) (replicate (min (get_or line 2 0) 64 * 13) 0))
