-- The four words of `UnackedBits` as a list, and back: neither way loses anything. The second part has what the methods
-- of `UnackedBits` need of four words: a bit set given word by word, its count, and whether it is empty.
use mathlib.Core.Path.{◌≡◌, refl, sym}
use mathlib.Core.Bool.{Bool, true, false, ◌&&◌, and-true}
use mathlib.Core.List.{List, [], ◌∷◌}
use Prim.Native.Nat.{ℕ, ◌+◌, ◌-◌, ◌^◌, min}
use native.Mathlib.Nat.{sub-zero}
use native.Mathlib.Omega.{arith}
use lib.Bits.{bit_or}
use lib.Dec.{eqb, leb}
use lib.ListN.{length, get_or}
use Rattle.bits.specs.Bits.{count_ones, fresh_unacked_bits, and_into, bits_empty, bits_cardinality, bits_below}
use Rattle.bits.proofs.Word.{or_empty}
use Rattle.bits.proofs.Sets.{cardinality_cons, cardinality_nil, fresh_length, and_into_length}
use Rattle.bits.specs.Four.{four, words}
use Rattle.bits.specs.declared.UnackedBits.{UnackedBits}

-- a list of four words is that of its bit set
pub words_four : (l : List ℕ) → length l ≡ 4 → words (four l) ≡ l
words_four [] e = absurd (omega arith)
words_four (a ∷ []) e = absurd (omega arith)
words_four (a ∷ b ∷ []) e = absurd (omega arith)
words_four (a ∷ b ∷ c ∷ []) e = absurd (omega arith)
words_four (a ∷ b ∷ c ∷ d ∷ []) e = refl
words_four (a ∷ b ∷ c ∷ d ∷ f ∷ l) e = absurd (omega arith)

-- a bit set is that of its four words
pub four_words : (b : UnackedBits) → four (words b) ≡ b
four_words b = refl

-- the words of a fresh bit set are the fresh list
pub words_fresh : (n : ℕ) → words (four (fresh_unacked_bits 4 n)) ≡ fresh_unacked_bits 4 n
words_fresh n = words_four (fresh_unacked_bits 4 n) (fresh_length 4 n)

-- the words of an and-ed bit set are the and-ed list
pub words_and_into : (b : UnackedBits) (inc : List ℕ) → words (four (and_into (words b) inc)) ≡ and_into (words b) inc
words_and_into b inc = words_four (and_into (words b) inc) (and_into_length (words b) inc)

-- a bit set is that of a list when its words are the list's first four
pub is_four : (b : UnackedBits) (l : List ℕ) → b.w0 ≡ get_or l 0 0 → b.w1 ≡ get_or l 1 0 → b.w2 ≡ get_or l 2 0 → b.w3 ≡ get_or l 3 0 → b ≡ four l
is_four b l e₀ e₁ e₂ e₃ = λ i. record { w0 = e₀ i; w1 = e₁ i; w2 = e₂ i; w3 = e₃ i }

-- the counts of the four words add up to that of the list
pub four_cardinality : (b : UnackedBits) {r₀ r₁ r₂ r₃ : ℕ} → r₀ ≡ count_ones b.w0 → r₁ ≡ count_ones b.w1 → r₂ ≡ count_ones b.w2
    → r₃ ≡ count_ones b.w3 → r₀ + r₁ + r₂ + r₃ ≡ bits_cardinality (words b)
four_cardinality b e₀ e₁ e₂ e₃ = sym (rw (cardinality_cons, cardinality_cons, cardinality_cons, cardinality_cons, cardinality_nil) (omega arith))

-- four tests, bracketed to the left and to the right
and_regroup : (a b c d : Bool) → (a && b && c && d) ≡ (a && (b && (c && (d && true))))
and_regroup true true true d = sym (and-true d)
and_regroup true true false d = refl
and_regroup true false c d = refl
and_regroup false b c d = refl

-- whether four words are all 0
pub four_empty : (b : UnackedBits) → eqb (bit_or (bit_or (bit_or b.w0 b.w1) b.w2) b.w3) 0 ≡ bits_empty (words b)
unfolding bits_empty
four_empty b = rw (or_empty, or_empty, or_empty) (and_regroup (eqb b.w0 0) (eqb b.w1 0) (eqb b.w2 0) (eqb b.w3 0))

-- whether four words are below n: each is at most as many ones as it has room for
pub four_below : (b : UnackedBits) (n : ℕ) {t₀ t₁ t₂ t₃ : Bool} → t₀ ≡ leb b.w0 (2 ^ min (n - 0) 64 - 1) → t₁ ≡ leb b.w1 (2 ^ min (n - 64) 64 - 1)
    → t₂ ≡ leb b.w2 (2 ^ min (n - 128) 64 - 1) → t₃ ≡ leb b.w3 (2 ^ min (n - 192) 64 - 1) → (t₀ && t₁ && t₂ && t₃) ≡ bits_below n (words b)
unfolding bits_below
four_below b n e₀ e₁ e₂ e₃ =
    let third : n - 128 ≡ n - 64 - 64 = omega arith in
    let fourth : n - 192 ≡ n - 64 - 64 - 64 = omega arith in
    rw (e₀, e₁, e₂, e₃, sub-zero n, third, fourth)
    (and_regroup (leb b.w0 (2 ^ min n 64 - 1)) (leb b.w1 (2 ^ min (n - 64) 64 - 1)) (leb b.w2 (2 ^ min (n - 64 - 64) 64 - 1))
    (leb b.w3 (2 ^ min (n - 64 - 64 - 64) 64 - 1)))
