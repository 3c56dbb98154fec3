-- Numbers as text: decimal digits in ASCII.
use Rattle.std.specs.Prelude.{ℕ, zero, suc, ◌+◌, ◌-◌, ◌*◌, ◌/◌, ◌%◌, cond, List, [], ◌∷◌, ◌++◌, ltb, ℤ, pos, negsuc}

-- the character of a digit
unfoldable pub digit : ℕ → ℕ
digit d = 48 + d

-- a number in at most k + 1 digits, no 0 in front
unfoldable pub decimal_within : ℕ → ℕ → List ℕ
decimal_within zero n = digit n ∷ []
decimal_within (suc k) n = cond (ltb n 10) (digit n ∷ []) (decimal_within k (n / 10) ++ digit (n % 10) ∷ [])

-- a number of 64 bits: 20 digits are enough
unfoldable pub decimal : ℕ → List ℕ
decimal n = decimal_within 19 n

-- an integer: a minus before a negative one, no plus
unfoldable pub integer : ℤ → List ℕ
integer (pos n) = decimal n
integer (negsuc n) = 45 ∷ decimal (suc n)

-- ---- reading

-- the number that digits after others spell
unfoldable pub decimal_from : ℕ → List ℕ → ℕ
decimal_from high [] = high
decimal_from high (c ∷ text) = decimal_from (high * 10 + (c - 48)) text

-- the number that digits spell
unfoldable pub decimal_read : List ℕ → ℕ
decimal_read text = decimal_from 0 text
