-- Ids from the numbers that code has of them.
use Rattle.std.specs.Prelude.{ℕ}
use Rattle.rules.specs.State.{Id}

-- an id
abbrev pub id_of : ℕ → ℕ → Id
id_of ledger entry = record { ledger = ledger; entry = entry }
