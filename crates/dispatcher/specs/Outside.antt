-- Ids as rows of a table that are found by themselves, or by their order.
use Rattle.rules.specs.Table.{Key}
use Rattle.rules.specs.State.{Id, same_id}
use Rattle.rules.specs.Ledger.{after_id}

-- an id is its own key
abbrev pub by_itself : Key Id Id
by_itself = record { key = λ i. i; same = same_id }

-- an id finds those that come after it
abbrev pub by_order : Key Id Id
by_order = record { key = λ i. i; same = λ i j. after_id j i }
