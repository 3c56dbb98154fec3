-- What the player prints of a call: a line with the record's number, the kind, the refusal or 0 and the dispatches made;
-- then a line for each dispatch with `+`, consumer, ledger, entry and balance. ASCII, one blank between.
use Rattle.std.specs.Prelude.{ℕ, List, [], ◌∷◌, ◌++◌, length}
use Rattle.rules.specs.Permits.{reading}
use Rattle.rules.specs.Outcome.{Dispatch, Outcome}
use Rattle.rules.specs.Outcome.Outcome.{refused, short, done}
use Rattle.rules.specs.Calls.{Call}
use Rattle.rules.specs.Book.{records_of}
use Rattle.decimal.specs.Decimal.{decimal, integer}
use Rattle.trace.specs.Calls.{kind_of}

-- a blank
abbrev pub BLANK : ℕ
BLANK = 32

-- the end of a line
abbrev pub NEWLINE : ℕ
NEWLINE = 10

-- a number, and a character after it
unfoldable pub number_and : ℕ → ℕ → List ℕ
number_and n mark = decimal n ++ mark ∷ []

-- the refusal's number, or 0
unfoldable pub refusal : Outcome → ℕ
refusal (refused n) = n
refusal (short n) = 15
refusal (done v s) = 0

-- the dispatches made
unfoldable pub made : Outcome → List Dispatch
made (refused n) = []
made (short n) = []
made (done v s) = records_of v

-- `+` and a blank
abbrev pub PLUS_AND_BLANK : List ℕ
PLUS_AND_BLANK = 43 ∷ BLANK ∷ []

-- `bad` and a blank
abbrev pub BAD_AND_BLANK : List ℕ
BAD_AND_BLANK = 98 ∷ 97 ∷ 100 ∷ BLANK ∷ []

-- a dispatch: `+`, consumer, ledger, entry, balance
unfoldable pub dispatch_line : Dispatch → List ℕ
dispatch_line x =
    PLUS_AND_BLANK ++ number_and x.consumer BLANK ++ number_and x.message.id.ledger BLANK
    ++ number_and x.message.id.entry BLANK ++ (integer (reading x.permits) ++ NEWLINE ∷ [])

-- dispatches, a line each
unfoldable pub dispatch_lines : List Dispatch → List ℕ
dispatch_lines [] = []
dispatch_lines (x ∷ l) = dispatch_line x ++ dispatch_lines l

-- the record's number, kind, refusal or 0, dispatches made
unfoldable pub outcome_line : ℕ → ℕ → ℕ → ℕ → List ℕ
outcome_line number kind code dispatches =
    number_and number BLANK ++ number_and kind BLANK ++ number_and code BLANK ++ number_and dispatches NEWLINE

-- what is printed of a call that is record `number`
unfoldable pub outcome_text : ℕ → Call → Outcome → List ℕ
outcome_text number x o = outcome_line number (kind_of x) (refusal o) (length (made o)) ++ dispatch_lines (made o)

-- `bad` and the number of a record, 0 for the header
unfoldable pub bad_line : ℕ → List ℕ
bad_line number = BAD_AND_BLANK ++ number_and number NEWLINE
