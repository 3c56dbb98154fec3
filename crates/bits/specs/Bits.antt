-- Bit sets as lists of 64-bit words, of any count: bit i of a set is bit i % 64 of its word i / 64. A set bit means
-- that the message at that place of a batch is still unacknowledged. The names are those of broker.rs.
-- Every definition computes on numerals of 64 bits, a step for each bit; `proofs/` ties `count_ones` and `and_low` to
-- the language's own count and mask.
use Rattle.std.specs.Prelude.{ℕ, zero, suc, ◌+◌, ◌-◌, ◌*◌, ◌/◌, ◌%◌, ◌^◌, ◌<◌, min, Bool, true, ◌&&◌, List, [], ◌∷◌, eqb, leb, get_or, drop}
use Rattle.std.specs.Int.Count.{ones_in}

-- bit i of a set: 1 or 0
unfoldable pub bit : List ℕ → ℕ → ℕ
bit ws i = get_or ws (i / 64) 0 / 2 ^ (i % 64) % 2

-- how many of a word's 64 bits are set
unfoldable pub count_ones : ℕ → ℕ
unfolding ones_in
count_ones w = ones_in 64 w

-- the bits that two numbers share among their lowest d
unfoldable pub and_low : ℕ → ℕ → ℕ → ℕ
and_low zero a b = 0
and_low (suc d) a b = min (a % 2) (b % 2) + 2 * and_low d (a / 2) (b / 2)

-- k words with the first n bits set (no more than the words hold)
unfoldable pub fresh_unacked_bits : ℕ → ℕ → List ℕ
fresh_unacked_bits zero n = []
fresh_unacked_bits (suc k) n = (2 ^ min n 64 - 1) ∷ fresh_unacked_bits k (n - 64)

-- each word and-ed with the incoming word at its place, 0 where there is none; surplus incoming words are ignored
unfoldable pub and_into : List ℕ → List ℕ → List ℕ
unfolding and_low
and_into [] incoming = []
and_into (w ∷ ws) incoming = and_low 64 w (get_or incoming 0 0) ∷ and_into ws (drop 1 incoming)

-- whether no bit is set
unfoldable pub bits_empty : List ℕ → Bool
bits_empty [] = true
bits_empty (w ∷ ws) = eqb w 0 && bits_empty ws

-- how many bits are set
unfoldable pub bits_cardinality : List ℕ → ℕ
unfolding count_ones
bits_cardinality [] = 0
bits_cardinality (w ∷ ws) = count_ones w + bits_cardinality ws

-- how many words a batch of n messages takes: n / 64 rounded up
unfoldable pub word_count : ℕ → ℕ
word_count n = (n + 63) / 64

-- whether no bit at or past n is set, for words of 64 bits: each word is below the power of two that n leaves for it
unfoldable pub bits_below : ℕ → List ℕ → Bool
bits_below n [] = true
bits_below n (w ∷ ws) = leb w (2 ^ min n 64 - 1) && bits_below (n - 64) ws

-- every word of the list has 64 bits
abbrev pub AreWords : List ℕ → Type 0
AreWords ws = (q : ℕ) → get_or ws q 0 < 2 ^ 64
