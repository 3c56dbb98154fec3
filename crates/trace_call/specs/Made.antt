-- What becomes of a kind and its words on the words of a store: the answer of their call, and what it leaves in the store
-- and in the list; nothing where they are no call.
use Rattle.std.specs.Prelude.{ℕ, List, Option, None, Some, Result}
use Rattle.std.proofs.Math.Option.{Option as Maybe, none, some}
use Rattle.refusal.specs.Words.{word_of}
use Rattle.refusal.specs.declared.Refusal.{Refusal}
use Rattle.rules.specs.Calls.{Call}
use Rattle.layout.specs.Calls.{outcome, answer, after, list_after}
use Rattle.trace.specs.Calls.{NO_CALL}

-- an answer's word, where there is an answer
abbrev pub words_told : Option (Result ℕ Refusal) → Option ℕ
words_told None = None
words_told (Some a) = Some (word_of a)

-- the answer
unfoldable pub made : List ℕ → Maybe Call → Option ℕ
made ws none = None
made ws (some x) = Some (answer ws x)

-- the paper's number of each case: 18, or the call's answer
unfoldable pub answer_of : Option ℕ → ℕ
answer_of None = NO_CALL
answer_of (Some a) = a

-- what it answers: 18 where there is no call
unfoldable pub answered : List ℕ → Maybe Call → ℕ
answered ws o = answer_of (made ws o)

-- the words after
unfoldable pub words_made : List ℕ → Maybe Call → List ℕ
words_made ws none = ws
words_made ws (some x) = after ws x

-- the list after
unfoldable pub list_made : List ℕ → List ℕ → Maybe Call → List ℕ
list_made ws list none = list
list_made ws list (some x) = list_after list (outcome ws x)
