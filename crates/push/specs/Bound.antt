-- The entries that wait, whatever the permits: a push dispatches no more of them.
use Rattle.std.specs.Prelude.{ℕ, ◌+◌, ◌-◌, List, [], ◌∷◌, length}
use Rattle.rules.specs.State.{Dispatcher, State, ledger_of}
use Rattle.push_plain.specs.Reading.{waiting_for}

-- the numbers of the elements of a list, added up; `AddedUp` of push_plain is of numbers that a closure's contract tells by place
unfoldable pub total : {A : Type 0} → (A → ℕ) → List A → ℕ
total f [] = 0
total f (a ∷ l) = f a + total f l

-- what waits for a dispatcher: its queue, and its topic's ledger from its cursor on
unfoldable pub waiting_at : State → Dispatcher → ℕ
waiting_at s d = length d.redelivery + (length (ledger_of s d.pair.topic) - d.cursor)

-- what waits for the dispatchers
abbrev pub waiting_shared : State → ℕ
waiting_shared s = total (waiting_at s) s.dispatchers

-- what waits for the plain consumers
abbrev pub waiting_plain : State → ℕ
waiting_plain s = total (waiting_for s) s.consumers

-- all that waits
abbrev pub most_due : State → ℕ
most_due s = waiting_shared s + waiting_plain s
