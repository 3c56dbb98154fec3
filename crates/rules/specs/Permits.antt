-- The permit number (document 01: balance). Permits can be negative; they are kept in excess form, the number plus 2 ^ 62,
-- so that every rule is one of natural numbers. `reading` gives the integer, and proofs/Permits.antt ties the two.
use Rattle.std.specs.Prelude.{ℕ, ◌+◌, ◌-◌, ◌^◌, Bool, ◌&&◌, leb, ltb, ℤ}
use Rattle.std.proofs.Math.IntN.{sub_ℕ}

-- no permits
abbrev pub zero_permits : ℕ
zero_permits = 2 ^ 62

-- the integer that a permit number stands for
unfoldable pub reading : ℕ → ℤ
reading p = sub_ℕ p zero_permits

-- whether permits are above 0
unfoldable pub above_zero : ℕ → Bool
above_zero p = ltb zero_permits p

-- a total less the permits p (more, where p is negative)
unfoldable pub less : ℕ → ℕ → ℕ
less total p = total + zero_permits - p

-- the least permits of a consumer: -255
abbrev pub least_permits : ℕ
least_permits = zero_permits - 255

-- the most permits of a consumer: 2 ^ 40
abbrev pub most_permits : ℕ
most_permits = zero_permits + 2 ^ 40

-- the least total of a dispatcher: -2 ^ 60
abbrev pub least_total : ℕ
least_total = zero_permits - 2 ^ 60

-- the most total of a dispatcher: 2 ^ 60
abbrev pub most_total : ℕ
most_total = zero_permits + 2 ^ 60

-- whether a total stays within ±2 ^ 60
unfoldable pub total_in_range : ℕ → Bool
total_in_range t = leb least_total t && leb t most_total
