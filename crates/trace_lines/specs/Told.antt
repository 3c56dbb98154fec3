-- What is printed of an answer and of the words of a push's list, as a caller has them.
use Rattle.std.specs.Prelude.{ℕ, ◌+◌, ◌*◌, ◌%◌, ◌^◌, List, [], ◌∷◌, ◌++◌}
use Rattle.rules.specs.Permits.{reading}
use Rattle.rules.specs.Push.{records_read}
use Rattle.rules.specs.Calls.{number_in}
use Rattle.decimal.specs.Decimal.{integer}
use Rattle.trace.specs.Text.{NEWLINE, dispatch_lines, outcome_line}
use Rattle.trace.specs.Played.{ROOM}
use Rattle.told.specs.Told.{dispatches_told}

-- the bytes that the lines of a record take at most: its own, and those of as many dispatches as a push's list holds
abbrev pub lines_bytes : ℕ
lines_bytes = 84 + ROOM * 87

-- permits in two's complement, as the end of a line
unfoldable pub permits_text : ℕ → List ℕ
permits_text w = integer (reading ((w + 2 ^ 62) % 2 ^ 64)) ++ NEWLINE ∷ []

-- all lines
unfoldable pub text_told : ℕ → ℕ → ℕ → List ℕ → List ℕ
text_told number kind answer list =
    outcome_line number kind (number_in answer) (dispatches_told kind answer)
    ++ dispatch_lines (records_read (dispatches_told kind answer) list)
