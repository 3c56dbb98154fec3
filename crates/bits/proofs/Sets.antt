-- Bit sets of any number of words: what a fresh set, an and-ed one, an empty one and a counted one are, bit by bit and
-- word by word. A batch of n messages keeps to sets that are below n: a fresh set is, and-ing keeps it so, no bit at or
-- past n is ever set in one, and at most n bits are.
use mathlib.Core.Path.{◌≡◌, refl, sym, ap, ap₂, ◌∙◌, subst}
use mathlib.Core.Logic.{◌↔◌}
use mathlib.Core.Bool.{true, and-eq-true_iff}
use mathlib.Core.List.{List, [], ◌∷◌}
use Prim.Native.Nat.{ℕ, zero, suc, ◌+◌, ◌-◌, ◌*◌, ◌/◌, ◌%◌, ◌^◌, ◌≤◌, ◌<◌, zero-le, min}
use native.Mathlib.Nat.{not-suc-le-zero, le_trans, le_of_eq, lt_of_lt_of_le, lt_of_le_of_lt, le_of_suc-le-suc, add-le-add, sub-zero, min-zero, le_refl, min-le_left, min-le_right, min-eq_left, mod-lt}
use native.Mathlib.Numerals.{one-add}
use native.Mathlib.Omega.{arith}
use lib.Bits.{bit_and}
use lib.Dec.{eqb, leb, lit<}
use lib.Pow.{pow_pos, pow_mono, le_ones, lt_of_le_ones}
use lib.ListN.{length, get_or, drop}
use lib.Seq.{get_or-drop}
use borrow.Author.Tests.{leb-true, le-leb, eqb-true, eq-eqb}
use Rattle.bits.specs.Bits.{bit, count_ones, and_low, fresh_unacked_bits, and_into, bits_empty, bits_cardinality, bits_below, AreWords}
use Rattle.bits.proofs.Word.{digit, digit_ones, digit_clear, below_of_digits, and_low_digit, and_low_le, and_low_zero, and_low_is_bitAnd, count_ones_le, count_ones_full, count_ones_and, count_ones_none, count_ones_zero}

-- how many bits of word q lie below n
abbrev pub room : ℕ → ℕ → ℕ
room n q = min (n - 64 * q) 64

-- the room of the next word is that of the rest in this one
room_suc : (n q : ℕ) → room (n - 64) q ≡ room n (suc q)
room_suc n q = ap (λ (x : ℕ). min x 64) (omega arith)

-- the room of the first word
room_zero : (n : ℕ) → min n 64 ≡ room n 0
room_zero n = ap (λ (x : ℕ). min x 64) (sym (sub-zero n))

-- the count of a set is that of its first word and that of the rest
pub cardinality_cons : (w : ℕ) (ws : List ℕ) → bits_cardinality (w ∷ ws) ≡ count_ones w + bits_cardinality ws
unfolding bits_cardinality
cardinality_cons w ws = refl

-- no words, no bits
pub cardinality_nil : bits_cardinality [] ≡ 0
unfolding bits_cardinality
cardinality_nil = refl

-- ---- below n

-- a set below n, word by word
pub below_word : (n : ℕ) (ws : List ℕ) → bits_below n ws ≡ true → (q : ℕ) → get_or ws q 0 < 2 ^ room n q
unfolding bits_below
below_word n [] h q = pow_pos (room n q)
below_word n (w ∷ ws) h zero =
    lt_of_le_ones (room n 0)
    (subst (λ (x : ℕ). w ≤ 2 ^ x - 1) (room_zero n) (leb-true w (2 ^ min n 64 - 1) ((and-eq-true_iff (leb w (2 ^ min n 64 - 1)) (bits_below (n - 64) ws)).0 h).0))
below_word n (w ∷ ws) h (suc q) =
    subst (λ (x : ℕ). get_or ws q 0 < 2 ^ x) (room_suc n q)
    (below_word (n - 64) ws ((and-eq-true_iff (leb w (2 ^ min n 64 - 1)) (bits_below (n - 64) ws)).0 h).1 q)

-- and back
pub word_below : (n : ℕ) (ws : List ℕ) → ((q : ℕ) → get_or ws q 0 < 2 ^ room n q) → bits_below n ws ≡ true
unfolding bits_below
word_below n [] h = refl
word_below n (w ∷ ws) h =
    (and-eq-true_iff (leb w (2 ^ min n 64 - 1)) (bits_below (n - 64) ws)).1 (
      le-leb w (2 ^ min n 64 - 1) (le_ones (min n 64) (subst (λ (x : ℕ). w < 2 ^ x) (sym (room_zero n)) (h 0))),
      word_below (n - 64) ws (λ q. subst (λ (x : ℕ). get_or ws q 0 < 2 ^ x) (sym (room_suc n q)) (h (suc q))),
    )

-- the words of a set below n have 64 bits
pub below_are_words : (n : ℕ) (ws : List ℕ) → bits_below n ws ≡ true → AreWords ws
below_are_words n ws h q = lt_of_lt_of_le (below_word n ws h q) (pow_mono (min-le_right (n - 64 * q) 64))

-- no bit at or past n is set in a set below n
pub below_clear : (n : ℕ) (ws : List ℕ) → bits_below n ws ≡ true → (i : ℕ) → n ≤ i → bit ws i ≡ 0
unfolding bit
below_clear n ws h i l = digit_clear (get_or ws (i / 64) 0) (room n (i / 64)) (i % 64) (below_word n ws h (i / 64)) (omega arith)

-- a word of which no bit at or past k is set is below 2 ^ k
word_of_clear : (k w : ℕ) → k ≤ 64 → w < 2 ^ 64 → ((j : ℕ) → k ≤ j → j < 64 → digit w j ≡ 0) → w < 2 ^ k
word_of_clear k w l h f =
    let e : 64 ≡ k + (64 - k) = omega arith in
    below_of_digits (64 - k) k w (subst (λ (x : ℕ). w < 2 ^ x) e h) (λ j a b. f j a (omega arith))

-- a bit by its word and its place there
pub bit_at : (ws : List ℕ) (q j : ℕ) → j < 64 → bit ws (64 * q + j) ≡ digit (get_or ws q 0) j
unfolding bit
bit_at ws q j h =
    let e : (64 * q + j) / 64 ≡ q = omega arith in
    let f : (64 * q + j) % 64 ≡ j = omega arith in
    ap₂ (λ (x y : ℕ). digit (get_or ws x 0) y) e f

-- a set of words of 64 bits with no bit set at or past n is below n
pub clear_below : (n : ℕ) (ws : List ℕ) → AreWords ws → ((i : ℕ) → n ≤ i → bit ws i ≡ 0) → bits_below n ws ≡ true
clear_below n ws h f =
    word_below n ws (λ q. word_of_clear (room n q) (get_or ws q 0) (min-le_right (n - 64 * q) 64) (h q)
    (λ j a b. sym (bit_at ws q j b) ∙ f (64 * q + j) (omega arith)))

-- what `bits_below` says: no bit at or past n is set
pub below_iff : (n : ℕ) (ws : List ℕ) → AreWords ws → (bits_below n ws ≡ true) ↔ ((i : ℕ) → n ≤ i → bit ws i ≡ 0)
below_iff n ws h = (below_clear n ws, clear_below n ws h)

-- at most the first word's room and the rest's make at most n
both_parts : (n a b : ℕ) → a ≤ min n 64 → b ≤ n - 64 → a + b ≤ n
both_parts n a b h l = omega arith

-- a set below n has at most n bits set
pub below_cardinality : (n : ℕ) (ws : List ℕ) → bits_below n ws ≡ true → bits_cardinality ws ≤ n
unfolding bits_below
below_cardinality n [] h = le_trans (le_of_eq cardinality_nil) zero-le
below_cardinality n (w ∷ ws) h =
    let t = (and-eq-true_iff (leb w (2 ^ min n 64 - 1)) (bits_below (n - 64) ws)).0 h in
    le_trans (le_of_eq (cardinality_cons w ws))
    (both_parts n (count_ones w) (bits_cardinality ws)
    (count_ones_le (min n 64) w (min-le_right n 64) (lt_of_le_ones (min n 64) (leb-true w (2 ^ min n 64 - 1) t.0)))
    (below_cardinality (n - 64) ws t.1))

-- ---- a fresh set

-- it has the words that were asked for
pub fresh_length : (k n : ℕ) → length (fresh_unacked_bits k n) ≡ k
unfolding fresh_unacked_bits
fresh_length zero n = refl
fresh_length (suc k) n = ap suc (fresh_length k (n - 64))

-- its word q is as many ones as it has room for
pub fresh_word : (k n q : ℕ) → q < k → get_or (fresh_unacked_bits k n) q 0 ≡ 2 ^ room n q - 1
unfolding fresh_unacked_bits
fresh_word zero n q h = absurd (not-suc-le-zero h)
fresh_word (suc k) n zero h = ap (λ (x : ℕ). 2 ^ x - 1) (room_zero n)
fresh_word (suc k) n (suc q) h = fresh_word k (n - 64) q (le_of_suc-le-suc h) ∙ ap (λ (x : ℕ). 2 ^ x - 1) (room_suc n q)

-- it is below its size
pub fresh_below : (k n : ℕ) → bits_below n (fresh_unacked_bits k n) ≡ true
unfolding fresh_unacked_bits bits_below
fresh_below zero n = refl
fresh_below (suc k) n =
    (and-eq-true_iff (leb (2 ^ min n 64 - 1) (2 ^ min n 64 - 1)) (bits_below (n - 64) (fresh_unacked_bits k (n - 64)))).1
    (le-leb (2 ^ min n 64 - 1) (2 ^ min n 64 - 1) (omega arith), fresh_below k (n - 64))

-- each of its words has 64 bits
pub fresh_are_words : (k n : ℕ) → AreWords (fresh_unacked_bits k n)
fresh_are_words k n = below_are_words n (fresh_unacked_bits k n) (fresh_below k n)

-- each bit below its size is set
pub fresh_bit_set : (k n i : ℕ) → i < 64 * k → i < n → bit (fresh_unacked_bits k n) i ≡ 1
unfolding bit
fresh_bit_set k n i h l =
    ap (λ (w : ℕ). digit w (i % 64)) (fresh_word k n (i / 64) (omega arith)) ∙ digit_ones (room n (i / 64)) (i % 64) (omega arith)

-- and no other is
pub fresh_bit_clear : (k n i : ℕ) → n ≤ i → bit (fresh_unacked_bits k n) i ≡ 0
fresh_bit_clear k n i l = below_clear n (fresh_unacked_bits k n) (fresh_below k n) i l

-- the first word's room and the rest's make the whole
min_split : (k n : ℕ) → min n 64 + min (n - 64) (64 * k) ≡ min n (64 * suc k)
min_split k n = omega arith

-- a fresh set has as many bits set as its size and its words allow
fresh_count : (k n : ℕ) → bits_cardinality (fresh_unacked_bits k n) ≡ min n (64 * k)
unfolding fresh_unacked_bits
fresh_count zero n = cardinality_nil ∙ sym (min-zero n)
fresh_count (suc k) n =
    cardinality_cons (2 ^ min n 64 - 1) (fresh_unacked_bits k (n - 64))
    ∙ ap₂ (λ (x y : ℕ). x + y) (count_ones_full (min n 64) (min-le_right n 64)) (fresh_count k (n - 64)) ∙ min_split k n

-- as many of its bits are set as its size says, where its words hold so many
pub fresh_cardinality : (k n : ℕ) → n ≤ 64 * k → bits_cardinality (fresh_unacked_bits k n) ≡ n
fresh_cardinality k n l = fresh_count k n ∙ min-eq_left l

-- ---- an and-ed set

-- it has as many words as before
pub and_into_length : (ws inc : List ℕ) → length (and_into ws inc) ≡ length ws
unfolding and_into
and_into_length [] inc = refl
and_into_length (w ∷ ws) inc = ap suc (and_into_length ws (drop 1 inc))

-- each word is and-ed with the one at its place
pub and_into_word : (ws inc : List ℕ) (q : ℕ) → get_or (and_into ws inc) q 0 ≡ and_low 64 (get_or ws q 0) (get_or inc q 0)
unfolding and_into
and_into_word [] inc q = sym (and_low_zero 64 (get_or inc q 0))
and_into_word (w ∷ ws) inc zero = refl
and_into_word (w ∷ ws) inc (suc q) =
    and_into_word ws (drop 1 inc) q
    ∙ ap (λ (x : ℕ). and_low 64 (get_or ws q 0) x) (get_or-drop 1 inc q 0 ∙ ap (λ (x : ℕ). get_or inc x 0) (one-add q))

-- the language's `&` of a word and the one at its place
pub and_into_masked : (ws inc : List ℕ) (q x : ℕ) → get_or ws q 0 < 2 ^ 64 → x ≡ get_or inc q 0 → bit_and (get_or ws q 0) x ≡ get_or (and_into ws inc) q 0
and_into_masked ws inc q x h e =
    ap (λ (y : ℕ). bit_and (get_or ws q 0) y) e ∙ sym (and_into_word ws inc q ∙ and_low_is_bitAnd (get_or ws q 0) (get_or inc q 0) h)

-- no word grows
pub and_into_word_le : (ws inc : List ℕ) (q : ℕ) → get_or (and_into ws inc) q 0 ≤ get_or ws q 0
and_into_word_le ws inc q = le_trans (le_of_eq (and_into_word ws inc q)) (and_low_le 64 (get_or ws q 0) (get_or inc q 0))

-- words of 64 bits stay such
pub and_into_are_words : (ws inc : List ℕ) → AreWords ws → AreWords (and_into ws inc)
and_into_are_words ws inc h q = lt_of_le_of_lt (and_into_word_le ws inc q) (h q)

-- a bit is set exactly where both have it
pub and_into_bit : (ws inc : List ℕ) (i : ℕ) → bit (and_into ws inc) i ≡ min (bit ws i) (bit inc i)
unfolding bit
and_into_bit ws inc i =
    ap (λ (w : ℕ). digit w (i % 64)) (and_into_word ws inc (i / 64))
    ∙ and_low_digit 64 (get_or ws (i / 64) 0) (get_or inc (i / 64) 0) (i % 64) (mod-lt i (lit< tt))

-- no bit is added
pub and_into_bit_le : (ws inc : List ℕ) (i : ℕ) → bit (and_into ws inc) i ≤ bit ws i
and_into_bit_le ws inc i = le_trans (le_of_eq (and_into_bit ws inc i)) (min-le_left (bit ws i) (bit inc i))

-- a set below n stays below n
pub and_into_below : (n : ℕ) (ws inc : List ℕ) → bits_below n ws ≡ true → bits_below n (and_into ws inc) ≡ true
and_into_below n ws inc h = word_below n (and_into ws inc) (λ q. lt_of_le_of_lt (and_into_word_le ws inc q) (below_word n ws h q))

-- what is past the batch size stays clear
pub and_into_clear : (n : ℕ) (ws inc : List ℕ) → bits_below n ws ≡ true → (i : ℕ) → n ≤ i → bit (and_into ws inc) i ≡ 0
and_into_clear n ws inc h = below_clear n (and_into ws inc) (and_into_below n ws inc h)

-- the count does not grow
pub and_into_cardinality : (ws inc : List ℕ) → bits_cardinality (and_into ws inc) ≤ bits_cardinality ws
unfolding and_into
and_into_cardinality [] inc = le_refl (bits_cardinality [])
and_into_cardinality (w ∷ ws) inc =
    le_trans (le_of_eq (cardinality_cons (and_low 64 w (get_or inc 0 0)) (and_into ws (drop 1 inc))))
    (le_trans (add-le-add (count_ones_and w (get_or inc 0 0)) (and_into_cardinality ws (drop 1 inc))) (le_of_eq (sym (cardinality_cons w ws))))

-- ---- an empty set

-- an empty set has no bit to count
pub empty_cardinality : (ws : List ℕ) → bits_empty ws ≡ true → bits_cardinality ws ≡ 0
unfolding bits_empty
empty_cardinality [] h = cardinality_nil
empty_cardinality (w ∷ ws) h =
    let t = (and-eq-true_iff (eqb w 0) (bits_empty ws)).0 h in
    cardinality_cons w ws
    ∙ ap₂ (λ (x y : ℕ). x + y) (ap count_ones (eqb-true w 0 t.0) ∙ count_ones_zero) (empty_cardinality ws t.1)

-- a sum is 0 only if both parts are
none_of_sum : (a b : ℕ) → a + b ≡ 0 → (a ≡ 0) × (b ≡ 0)
none_of_sum a b e = omega arith

-- a set of words of 64 bits with no bit to count is empty
pub cardinality_empty : (ws : List ℕ) → AreWords ws → bits_cardinality ws ≡ 0 → bits_empty ws ≡ true
unfolding bits_empty
cardinality_empty [] h e = refl
cardinality_empty (w ∷ ws) h e =
    let t = none_of_sum (count_ones w) (bits_cardinality ws) (sym (cardinality_cons w ws) ∙ e) in
    (and-eq-true_iff (eqb w 0) (bits_empty ws)).1 (eq-eqb w 0 (count_ones_none w (h 0) t.0), cardinality_empty ws (λ q. h (suc q)) t.1)

-- a set is empty exactly when none of its bits is set
pub empty_iff : (ws : List ℕ) → AreWords ws → (bits_empty ws ≡ true) ↔ (bits_cardinality ws ≡ 0)
empty_iff ws h = (empty_cardinality ws, cardinality_empty ws h)
