-- Where a new consumer stands among those with ascending ids: at the slot of the first whose id is above its own.
use Rattle.std.specs.Prelude.{ℕ, ltb}
use Rattle.rules.specs.Table.{Key}
use Rattle.rules.specs.State.{Consumer}

-- an id finds the consumers whose ids are above it
abbrev pub by_above : Key Consumer ℕ
by_above = record { key = λ c. c.id; same = ltb }
