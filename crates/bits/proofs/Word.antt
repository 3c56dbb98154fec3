-- One word: its binary digits, the digits that two words share, and how many are set. Each fact is proved for words of
-- d digits by induction on d; the last part ties `and_low` and `count_ones` to the language's own mask and count, and
-- has what an `|` of words says of their being 0.
use mathlib.Core.Path.{◌≡◌, refl, sym, ap, ap₂, ◌∙◌, subst}
use mathlib.Core.Bool.{Bool, true, false, ◌&&◌}
use Prim.Native.Nat.{ℕ, zero, suc, ◌+◌, ◌-◌, ◌*◌, ◌/◌, ◌%◌, ◌^◌, ◌≤◌, ◌<◌, min, zero-le}
use native.Mathlib.Nat.{not-suc-le-zero, le_trans, le_of_eq, lt_of_lt_of_le, add-le-add, add-zero, add-suc, min-le_left, pow-suc, pow-succ', div-one, div-eq_of_lt, div-div-eq-div-mul, div-lt_iff_lt-mul, le-div_iff_mul-le, one-mul}
use native.Mathlib.Numerals.{add-one}
use native.Mathlib.Omega.{arith}
use lib.Arith.{lt-one, le-zero}
use lib.Pow.{pow_pos, pow_mono, shr_lt, high, ones_lt, ones_split, lt_of_le_ones}
use lib.Bits.{bit_and, bit_or, and_step, and_le_r, or_add_and}
use lib.Count.{ones, ones_in, ones_step, ones-le, ones-ones}
use lib.Dec.{eqb, leb, eqb-suc-zero}
use borrow.Author.Tests.{leb-true, leb-false, eq-eqb, ne_eqb}
use Rattle.bits.specs.Bits.{and_low, count_ones}

-- ---- digits

-- digit j of a number, lowest first: 1 or 0
abbrev pub digit : ℕ → ℕ → ℕ
digit w j = w / 2 ^ j % 2

-- the digits past the lowest are those of the half
pub digit_suc : (w j : ℕ) → digit w (suc j) ≡ digit (w / 2) j
digit_suc w j = ap (λ (x : ℕ). w / x % 2) (pow-succ' 2 j) ∙ ap (λ (x : ℕ). x % 2) (sym (div-div-eq-div-mul w 2 (2 ^ j)))

-- a number of k digits has none set at or past k
pub digit_clear : (w k j : ℕ) → w < 2 ^ k → k ≤ j → digit w j ≡ 0
digit_clear w k j h l = ap (λ (x : ℕ). x % 2) (div-eq_of_lt (lt_of_lt_of_le h (pow_mono l)))

-- all digits set, and at least one: the lowest is
ones_odd : (m : ℕ) → (2 ^ suc m - 1) % 2 ≡ 1
ones_odd m = rw pow-suc (omega (arith, pow_pos m))

-- k set digits: each below k is set
pub digit_ones : (k j : ℕ) → j < k → digit (2 ^ k - 1) j ≡ 1
digit_ones k j h =
    let e : k ≡ suc (k - suc j) + j = omega arith in
    ap (λ (x : ℕ). (2 ^ x - 1) / 2 ^ j % 2) e ∙ ap (λ (x : ℕ). x / 2 ^ j % 2) (ones_split (suc (k - suc j)) j)
    ∙ ap (λ (x : ℕ). x % 2) (high (2 ^ suc (k - suc j) - 1) j (ones_lt j)) ∙ ones_odd (k - suc j)

-- as many ones as a word has room for
pub ones_of : (m n : ℕ) → n ≡ min m 64 → 2 ^ n - 1 ≡ 2 ^ min m 64 - 1
ones_of m n e = ap (λ (x : ℕ). 2 ^ x - 1) e

-- the top digit is clear, so one digit fewer holds the number
drop_top : (w m : ℕ) → w < 2 ^ suc m → digit w m ≡ 0 → w < 2 ^ m
drop_top w m h e =
    let top : w / 2 ^ m < 2 = shr_lt 1 m (subst (λ (x : ℕ). w < 2 ^ x) (omega arith) h) in
    subst (λ (x : ℕ). w < x) (one-mul (2 ^ m)) ((div-lt_iff_lt-mul (pow_pos m)).0 (omega arith))

-- a number of k + d digits whose top d are clear has k digits
pub below_of_digits : (d k w : ℕ) → w < 2 ^ (k + d) → ((j : ℕ) → k ≤ j → j < k + d → digit w j ≡ 0) → w < 2 ^ k
below_of_digits zero k w h f = subst (λ (x : ℕ). w < 2 ^ x) (add-zero k) h
below_of_digits (suc d) k w h f =
    below_of_digits d k w (drop_top w (k + d) (subst (λ (x : ℕ). w < 2 ^ x) (add-suc k d) h) (f (k + d) (omega arith) (omega arith)))
    (λ j l m. f j l (omega arith))

-- a number of one digit more, halved
half_lt : (w d : ℕ) → w < 2 ^ suc d → w / 2 < 2 ^ d
half_lt w d h = shr_lt d 1 (subst (λ (x : ℕ). w < 2 ^ x) (sym (add-one d)) h)

-- ---- the digits that two words share

-- halving what two words share is sharing their halves
and_low_half : (d a b : ℕ) → and_low (suc d) a b / 2 ≡ and_low d (a / 2) (b / 2)
unfolding and_low
and_low_half d a b = omega arith

-- the lowest shared digit is the lesser of the two
and_low_odd : (d a b : ℕ) → and_low (suc d) a b % 2 ≡ min (a % 2) (b % 2)
unfolding and_low
and_low_odd d a b = omega arith

-- each shared digit is the lesser of the two
pub and_low_digit : (d a b j : ℕ) → j < d → digit (and_low d a b) j ≡ min (digit a j) (digit b j)
and_low_digit zero a b j h = absurd (not-suc-le-zero h)
and_low_digit (suc d) a b zero h = simp div-one (and_low_odd d a b)
and_low_digit (suc d) a b (suc j) h =
    digit_suc (and_low (suc d) a b) j ∙ ap (λ (x : ℕ). digit x j) (and_low_half d a b)
    ∙ and_low_digit d (a / 2) (b / 2) j (omega arith) ∙ ap₂ min (sym (digit_suc a j)) (sym (digit_suc b j))

-- what is shared is at most the first
pub and_low_le : (d a b : ℕ) → and_low d a b ≤ a
unfolding and_low
and_low_le zero a b = zero-le
and_low_le (suc d) a b = omega (arith, and_low_le d (a / 2) (b / 2))

-- nothing is shared with 0
pub and_low_zero : (d b : ℕ) → and_low d 0 b ≡ 0
and_low_zero d b = le-zero (and_low_le d 0 b)

-- a number put together from its digits, either way round
join_digits : (r m : ℕ) → m + 2 * r ≡ r * 2 + m
join_digits r m = omega arith

-- what a word of d digits shares with another is their bitwise and
and_low_bitAnd : (d a b : ℕ) → a < 2 ^ d → and_low d a b ≡ bit_and a b
unfolding and_low
and_low_bitAnd zero a b h = sym (ap (λ (x : ℕ). bit_and x b) (lt-one h))
and_low_bitAnd (suc d) a b h =
    ap (λ (x : ℕ). min (a % 2) (b % 2) + 2 * x) (and_low_bitAnd d (a / 2) (b / 2) (half_lt a d h))
    ∙ join_digits (bit_and (a / 2) (b / 2)) (min (a % 2) (b % 2)) ∙ sym (and_step a b)

-- ---- how many digits are set

-- no more digits are set in what is shared
onesIn_and : (d a b : ℕ) → ones_in d (and_low d a b) ≤ ones_in d a
unfolding ones_in
onesIn_and zero a b = zero-le
onesIn_and (suc d) a b =
    add-le-add (le_trans (le_of_eq (and_low_odd d a b)) (min-le_left (a % 2) (b % 2)))
    (subst (λ (x : ℕ). ones_in d x ≤ ones_in d (a / 2)) (sym (and_low_half d a b)) (onesIn_and d (a / 2) (b / 2)))

-- d digits are enough to count those of a word of d digits
onesIn_ones : (d w : ℕ) → w < 2 ^ d → ones_in d w ≡ ones w
unfolding ones_in ones
onesIn_ones zero w h = sym (ap ones (lt-one h))
onesIn_ones (suc d) w h = ap (λ (x : ℕ). w % 2 + x) (onesIn_ones d (w / 2) (half_lt w d h)) ∙ sym (ones_step w)

-- a word of d digits with none set is 0
onesIn_none : (d w : ℕ) → w < 2 ^ d → ones_in d w ≡ 0 → w ≡ 0
unfolding ones_in
onesIn_none zero w h e = lt-one h
onesIn_none (suc d) w h e = omega (arith, onesIn_none d (w / 2) (half_lt w d h) (omega arith))

-- ---- words of 64 bits, and the language's own operations

-- the shared bits of two words are what `&` gives
pub and_low_is_bitAnd : (a b : ℕ) → a < 2 ^ 64 → and_low 64 a b ≡ bit_and a b
and_low_is_bitAnd a b h = and_low_bitAnd 64 a b h

-- the count of a word's set bits is what the language's `count_ones` gives
pub count_ones_is_ones : (w : ℕ) → w < 2 ^ 64 → count_ones w ≡ ones w
unfolding count_ones
count_ones_is_ones w h = onesIn_ones 64 w h

-- a word of k bits has at most k set
pub count_ones_le : (k w : ℕ) → k ≤ 64 → w < 2 ^ k → count_ones w ≤ k
count_ones_le k w l h = le_trans (le_of_eq (count_ones_is_ones w (lt_of_lt_of_le h (pow_mono l)))) (ones-le k w h)

-- k ones and nothing above them: k set
pub count_ones_full : (k : ℕ) → k ≤ 64 → count_ones (2 ^ k - 1) ≡ k
count_ones_full k l = count_ones_is_ones (2 ^ k - 1) (lt_of_lt_of_le (ones_lt k) (pow_mono l)) ∙ ones-ones k

-- and-ing sets no bit
pub count_ones_and : (a b : ℕ) → count_ones (and_low 64 a b) ≤ count_ones a
unfolding count_ones
count_ones_and a b = onesIn_and 64 a b

-- a word with no bit set is 0
pub count_ones_none : (w : ℕ) → w < 2 ^ 64 → count_ones w ≡ 0 → w ≡ 0
unfolding count_ones
count_ones_none w h e = onesIn_none 64 w h e

-- 0 has no bit set
pub count_ones_zero : count_ones 0 ≡ 0
unfolding count_ones
count_ones_zero = refl

-- a word shifted right by k is 0 exactly when no bit at or past k is set
pub shifted_below : (w k : ℕ) → eqb (w / 2 ^ k) 0 ≡ leb w (2 ^ k - 1)
shifted_below w k = told (leb w (2 ^ k - 1)) refl
  where
    told : (t : Bool) → leb w (2 ^ k - 1) ≡ t → eqb (w / 2 ^ k) 0 ≡ t
    told true e = eq-eqb (w / 2 ^ k) 0 (div-eq_of_lt (lt_of_le_ones k (leb-true w (2 ^ k - 1) e)))
    told false e =
        let over : 2 ^ k - 1 < w = leb-false w (2 ^ k - 1) e in
        let some : 1 ≤ w / 2 ^ k = (le-div_iff_mul-le (pow_pos k)).1 (omega arith) in
        ne_eqb (w / 2 ^ k) 0 (λ z. omega arith)

-- none of a word's bits may be set: the word is 0
pub none_below : (w : ℕ) → eqb w 0 ≡ leb w 0
none_below w = sym (ap (λ (x : ℕ). eqb x 0) (div-one w)) ∙ shifted_below w 0

-- a sum less what is at most its right part is 0 only if its left part is
left_zero : (o n a b : ℕ) → o + n ≡ a + b → n ≤ b → o ≡ 0 → a ≡ 0
left_zero o n a b e l z = omega arith

-- an `|` of two words is 0 exactly when both are
pub or_empty : (a b : ℕ) → eqb (bit_or a b) 0 ≡ (eqb a 0 && eqb b 0)
or_empty zero b = refl
or_empty (suc a) b =
    ne_eqb (bit_or (suc a) b) 0 (λ e. absurd (suc_not (left_zero (bit_or (suc a) b) (bit_and (suc a) b) (suc a) b (or_add_and (suc a) b) (and_le_r (suc a) b) e)))
    ∙ sym (ap (λ (t : Bool). t && eqb b 0) (eqb-suc-zero a))
  where
    suc_not : suc a ≡ 0 → ⊥
    suc_not e = omega arith
