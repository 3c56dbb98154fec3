-- Messages and ids from the numbers that code has of them, and the key by which a message is found.
use Rattle.std.specs.Prelude.{ℕ, ◌+◌, List, get_or}
use Rattle.rules.specs.Table.{Key}
use Rattle.rules.specs.State.{Id, same_id, StoredMessage}
pub use Rattle.message_id.specs.Ids.{id_of}

-- the id at an offset of a store
abbrev pub id_at : List ℕ → ℕ → Id
id_at ws at = id_of (get_or ws at 0) (get_or ws (at + 1) 0)

-- a message
abbrev pub message_of : ℕ → ℕ → ℕ → ℕ → StoredMessage
message_of ledger entry handle batch = record { id = id_of ledger entry; handle = handle; batch_size = batch }

-- messages are found by their ids
abbrev pub by_message_id : Key StoredMessage Id
by_message_id = record { key = λ m. m.id; same = same_id }
