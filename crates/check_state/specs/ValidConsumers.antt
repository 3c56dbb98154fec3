-- The rules for a consumer by parts, as the check of a store tests them.
use Rattle.std.specs.Prelude.{ℕ, Bool, true, ◌&&◌, leb, ltb, length}
use Rattle.rules.specs.Permits.{least_permits, most_permits}
use Rattle.rules.specs.Table.{all, member}
use Rattle.rules.specs.State.{by_kind, Consumer, State, ledger_of, dispatcher}
use Rattle.rules.specs.Valid.{is_byte}

-- topic and subscription are bytes, the permits are within their range
unfoldable pub numbers_valid : Consumer → Bool
numbers_valid c =
    is_byte c.pair.topic && (is_byte c.pair.subscription && (leb least_permits c.permits && leb c.permits most_permits))

-- every nacked position is below n
unfoldable pub nacked_valid : ℕ → Consumer → Bool
nacked_valid n c = all (λ (k : ℕ). ltb k n) c.nacked

-- the cursor is not past the ledger, every nacked position is in it
unfoldable pub places_valid : State → Consumer → Bool
places_valid s c =
    leb c.cursor (length (ledger_of s c.pair.topic)) && nacked_valid (length (ledger_of s c.pair.topic)) c

-- a shared one is in its dispatcher's ring
unfoldable pub attached_valid : State → Consumer → Bool
attached_valid s c = by_kind c.kind true (member c.id (dispatcher s c.pair).attached)
