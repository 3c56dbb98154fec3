-- The bytes of an id by its numbers, as its writer is given them.
use Rattle.std.specs.Prelude.{List, ℕ}
use Rattle.wire.specs.Message.{id_bytes}

-- the bytes of an id with these numbers
abbrev pub id_numbers : ℕ → ℕ → ℕ → List ℕ
id_numbers ledger entry batch_size = id_bytes (record { ledger = ledger; entry = entry }) batch_size
