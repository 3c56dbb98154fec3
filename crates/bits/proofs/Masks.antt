-- The masks: each stands at its place of the table, is what it should be bit by bit, and is the last word of the fresh sets
-- whose sizes leave its number.
use mathlib.Core.Path.{◌≡◌, refl, sym, ap, ◌∙◌}
use mathlib.Core.Bool.{Bool, true, false, cond, ◌||◌}
use mathlib.Core.List.{[], ◌∷◌}
use Prim.Native.Nat.{ℕ, zero, suc, ◌+◌, ◌-◌, ◌*◌, ◌%◌, ◌^◌, ◌≤◌, ◌<◌}
use native.Mathlib.Nat.{not-suc-le-zero, le_of_suc-le-suc, add-zero, zero-add, add-suc, suc-add}
use native.Mathlib.Omega.{arith}
use lib.Dec.{eqb, leb, ltb, eqb-suc-zero}
use lib.Pow.{ones_lt}
use lib.ListN.{get_or}
use borrow.Author.Tests.{leb-true, leb-false, ltb-true, ltb-false}
use Rattle.bits.specs.Bits.{bit}
use Rattle.bits.specs.Masks.{mask, masks_from, masks, MasksInPlace, MasksByBits, FreshByMasks}
use Rattle.bits.proofs.Word.{digit, digit_ones, digit_clear, ones_of}
use Rattle.bits.proofs.Sets.{room, bit_at, fresh_word}

-- ---- the table

-- in a row of masks each stands at its place
masks_from_at : (k r i : ℕ) → i < k → get_or (masks_from k r) i 0 ≡ mask (r + i)
unfolding masks_from
masks_from_at zero r i h = absurd (not-suc-le-zero h)
masks_from_at (suc k) r zero h = ap mask (sym (add-zero r))
masks_from_at (suc k) r (suc i) h = masks_from_at k (suc r) i (le_of_suc-le-suc h) ∙ ap mask (suc-add r i ∙ sym (add-suc r i))

-- at place r of the table stands mask r
pub mask_at : (r : ℕ) → r < 64 → get_or masks r 0 ≡ mask r
unfolding masks
mask_at r h = masks_from_at 64 0 r h ∙ ap mask (zero-add r)

-- `MasksInPlace` of the specs
pub masks_in_place : MasksInPlace
unfolding MasksInPlace masks masks_from
masks_in_place = (refl, mask_at)

-- ---- bit by bit

-- a number's digit below its ones is set, and one past them is clear
ones_digit : (k j : ℕ) → digit (2 ^ k - 1) j ≡ cond (ltb j k) 1 0
ones_digit k j = told (ltb j k) refl
  where
    told : (t : Bool) → ltb j k ≡ t → digit (2 ^ k - 1) j ≡ cond t 1 0
    told true e = digit_ones k j (ltb-true j k e)
    told false e = digit_clear (2 ^ k - 1) k j (ones_lt k) (ltb-false j k e)

-- the digits of a mask
mask_digit : (r j : ℕ) → j < 64 → digit (mask r) j ≡ cond (eqb r 0 || ltb j r) 1 0
unfolding mask
mask_digit zero j h = digit_ones 64 j h
mask_digit (suc r) j h = rw (eqb-suc-zero r) (ones_digit (suc r) j)

-- `MasksByBits` of the specs
pub masks_by_bits : MasksByBits
unfolding MasksByBits
masks_by_bits r j l h =
    let first : j ≡ 64 * 0 + j = omega arith in
    ap (bit (mask r ∷ [])) first ∙ bit_at (mask r ∷ []) 0 j h ∙ mask_digit r j h

-- ---- the last word of a fresh set

-- the mask of a remainder, where 1 to 64 bits leave it
mask_left : (r n : ℕ) → r ≡ n % 64 → 1 ≤ n → n ≤ 64 → mask r ≡ 2 ^ n - 1
unfolding mask
mask_left zero n e l h =
    let whole : 64 ≡ n = omega arith in
    ap (λ (x : ℕ). 2 ^ x - 1) whole
mask_left (suc r) n e l h =
    let part : suc r ≡ n = omega arith in
    ap (λ (x : ℕ). 2 ^ x - 1) part

-- the mask of a size's remainder is as many ones as are left from a multiple of 64 on, where these are 1 to 64
pub mask_rest : (n from : ℕ) → from % 64 ≡ 0 → from < n → n ≤ from + 64 → mask (n % 64) ≡ 2 ^ (n - from) - 1
mask_rest n from e l h = mask_left (n % 64) (n - from) (omega arith) (omega arith) (omega arith)

-- `FreshByMasks` of the specs
pub fresh_by_masks : FreshByMasks
unfolding FreshByMasks
fresh_by_masks k n q h = fresh_word k n q h ∙ past (leb n (64 * q)) refl
  where
    ones : (m : ℕ) → m ≡ room n q → 2 ^ room n q - 1 ≡ 2 ^ m - 1
    ones m e = sym (ones_of (n - 64 * q) m e)

    last : (t : Bool) → leb n (64 * q + 64) ≡ t → 64 * q < n → 2 ^ room n q - 1 ≡ cond t (mask (n % 64)) (2 ^ 64 - 1)
    last true e l =
        let h : n ≤ 64 * q + 64 = leb-true n (64 * q + 64) e in
        ones (n - 64 * q) (omega arith) ∙ sym (mask_rest n (64 * q) (omega arith) l h)
    last false e l =
        let h : 64 * q + 64 < n = leb-false n (64 * q + 64) e in
        ones 64 (omega arith)

    past : (t : Bool) → leb n (64 * q) ≡ t → 2 ^ room n q - 1 ≡ cond t 0 (cond (leb n (64 * q + 64)) (mask (n % 64)) (2 ^ 64 - 1))
    past true e =
        let h : n ≤ 64 * q = leb-true n (64 * q) e in
        ones 0 (omega arith)
    past false e = last (leb n (64 * q + 64)) refl (leb-false n (64 * q) e)
