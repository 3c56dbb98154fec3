-- The ledger of a topic: append at the end, find by id, the first position at or after an id. The order of ids.
use Rattle.std.specs.Prelude.{ℕ, suc, Bool, cond, ◌&&◌, ◌||◌, List, [], ◌∷◌, ◌++◌, eqb, leb, ltb, length, get_or}
use Rattle.rules.specs.State.{Id, same_id, StoredMessage, Topic}

-- the position of an id, counted from 0 in append order; the length where the id is not in the ledger
unfoldable pub position_of : Id → List StoredMessage → ℕ
position_of i [] = 0
position_of i (m ∷ l) = cond (same_id i m.id) 0 (suc (position_of i l))

-- whether the ledger holds an id
unfoldable pub holds_id : Id → List StoredMessage → Bool
holds_id i l = ltb (position_of i l) (length l)

-- no message: what stands at a position past the end
abbrev pub no_message : StoredMessage
no_message = record { id = record { ledger = 0; entry = 0 }; handle = 0; batch_size = 0 }

-- the message at a position
unfoldable pub message_at : List StoredMessage → ℕ → StoredMessage
message_at l k = get_or l k no_message

-- the batch size of an id, 0 where it is not in the ledger
unfoldable pub batch_size_of : Id → List StoredMessage → ℕ
batch_size_of i l = (message_at l (position_of i l)).batch_size

-- whether an id equals another or is greater: by ledger, then by entry
unfoldable pub at_or_after : Id → Id → Bool
at_or_after a b = ltb b.ledger a.ledger || (eqb a.ledger b.ledger && leb b.entry a.entry)

-- whether an id comes after another: by ledger, then by entry
unfoldable pub after_id : Id → Id → Bool
after_id a b = ltb b.ledger a.ledger || (eqb a.ledger b.ledger && ltb b.entry a.entry)

-- an id among ids that ascend: before the first that comes after it
unfoldable pub insert_id : Id → List Id → List Id
insert_id i [] = i ∷ []
insert_id i (j ∷ l) = cond (after_id j i) (i ∷ j ∷ l) (j ∷ insert_id i l)

-- the first position, in append order, whose id is at or after an id, counted from k; the end where there is none
unfoldable pub first_at_or_after : Id → ℕ → List StoredMessage → ℕ
first_at_or_after i k [] = k
first_at_or_after i k (m ∷ l) = cond (at_or_after m.id i) k (first_at_or_after i (suc k) l)

-- the position that a seek by id finds; the ledger's length where no entry is at or after the id
unfoldable pub seek_position : Id → List StoredMessage → ℕ
seek_position i l = first_at_or_after i 0 l

-- a topic with a message appended at the end of its ledger
unfoldable pub appended : StoredMessage → Topic → Topic
appended m t = record { number = t.number; messages = t.messages ++ m ∷ [] }
