-- The numbers on a line of the runner's input.
use Rattle.std.specs.Prelude.{ℕ, ◌+◌, ◌-◌, ◌*◌, ◌%◌, ◌^◌, min, cond, List, [], ◌∷◌, ltb}

-- a number with one more digit; the largest where it would pass it
unfoldable pub with_digit : ℕ → ℕ → ℕ
with_digit word d = min (word * 10 + d) (2 ^ 64 - 1)

-- a word with one more byte: a digit (48 to 57) in base 10, a letter past them in base 256; a lower one leaves it
unfoldable pub with_byte : ℕ → ℕ → ℕ
with_byte word b = cond (ltb b 48) word (cond (ltb b 58) (with_digit word (b - 48)) (word % 2 ^ 56 * 256 + b))

-- the numbers of a line of which one is begun: a byte up to 32 ends it
unfoldable pub numbers_from : ℕ → List ℕ → List ℕ
numbers_from word [] = word ∷ []
numbers_from word (b ∷ line) =
    cond (ltb 32 b) (numbers_from (with_byte word b) line) (with_byte word b ∷ numbers_from 0 line)

-- the numbers of a line
abbrev pub numbers : List ℕ → List ℕ
numbers line = numbers_from 0 line
