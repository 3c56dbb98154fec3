-- What is promised of numbers as text. The proofs are in `proofs/Written.antt`.
use Rattle.std.specs.Prelude.{ℕ, ◌^◌, ◌≤◌, ◌<◌, ◌≡◌, length, get_or}
use Rattle.words.specs.Codec.{All}
use Rattle.decimal.specs.Decimal.{decimal, decimal_read}

-- what is written of a number of 64 bits is read back as it, so no two have the same text
unfoldable pub ReadBack : Type 0
ReadBack = (n : ℕ) → n < 2 ^ 64 → decimal_read (decimal n) ≡ n

-- and takes at most 20 digits
unfoldable pub AtMost20 : Type 0
AtMost20 = (n : ℕ) → length (decimal n) ≤ 20

-- each of them is one, 0 to 9
unfoldable pub DigitsOnly : Type 0
DigitsOnly = (n : ℕ) → n < 2 ^ 64 → All (λ (c : ℕ). (48 ≤ c) × (c ≤ 57)) (decimal n)

-- and no 0 stands in front, but for 0 itself
unfoldable pub No0InFront : Type 0
No0InFront = (n : ℕ) → 1 ≤ n → n < 2 ^ 64 → 49 ≤ get_or (decimal n) 0 0
