-- Opening and the calls over words: what an exported function answers and what it leaves in every slice lent to it.
use Rattle.std.specs.Prelude.{ℕ, cond, not, List, [], ◌∷◌, ◌++◌, eqb, length, drop}
use Rattle.rules.specs.Outcome.{Outcome}
use Rattle.rules.specs.Outcome.Outcome.{refused, short, done}
use Rattle.rules.specs.Push.{flat_records}
use Rattle.rules.specs.Calls.{Call, rule, opening, answer_word}
use Rattle.rules.specs.Book.{records_of}
use Rattle.layout.specs.Layout.{decode, spells, put}

-- a call on words: 1 if they spell no state, else the rule
unfoldable pub outcome : List ℕ → Call → Outcome
outcome ws x = cond (spells ws) (rule (decode ws) x) (refused 1)

-- the words that an outcome leaves: a refusal leaves them all as they were
unfoldable pub words_after : List ℕ → Outcome → List ℕ
words_after ws (refused n) = ws
words_after ws (short n) = ws
words_after ws (done v s) = put ws s

-- the answer of a call
unfoldable pub answer : List ℕ → Call → ℕ
answer ws x = answer_word (outcome ws x)

-- the words after a call
unfoldable pub after : List ℕ → Call → List ℕ
after ws x = words_after ws (outcome ws x)

-- the words after a list of calls, each given the words as the last one left them
unfoldable pub run : List ℕ → List Call → List ℕ
run ws [] = ws
run ws (x ∷ calls) = run (after ws x) calls

-- a lent list with records from its start on; what follows them never changes
unfoldable pub with_records : List ℕ → List ℕ → List ℕ
with_records list records = records ++ drop (length records) list

-- the words of the records that an outcome makes
unfoldable pub made_words : Outcome → List ℕ
made_words (refused n) = []
made_words (short n) = []
made_words (done v s) = flat_records (records_of v)

-- push's lent list after an outcome
unfoldable pub list_after : List ℕ → Outcome → List ℕ
list_after list o = with_records list (made_words o)

-- ---- opening

-- opening on words: E and two switches, 0 off and anything else on
unfoldable pub open_outcome : List ℕ → ℕ → ℕ → ℕ → Outcome
open_outcome ws e leak noop = opening (length ws) e (not (eqb leak 0)) (not (eqb noop 0))

-- the answer of opening
unfoldable pub open_answer : List ℕ → ℕ → ℕ → ℕ → ℕ
open_answer ws e leak noop = answer_word (open_outcome ws e leak noop)

-- the words after opening
unfoldable pub open_after : List ℕ → ℕ → ℕ → ℕ → List ℕ
open_after ws e leak noop = words_after ws (open_outcome ws e leak noop)
