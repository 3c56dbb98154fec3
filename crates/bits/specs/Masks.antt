-- The masks of a word, and the table of them, from which the last word of a fresh bit set is taken. What is promised of
-- them is proved in `proofs/Masks.antt`.
use Rattle.std.specs.Prelude.{ℕ, zero, suc, ◌+◌, ◌-◌, ◌*◌, ◌%◌, ◌^◌, ◌<◌, ◌≡◌, cond, ◌||◌, List, [], ◌∷◌, eqb, leb, ltb, length, get_or}
use Rattle.bits.specs.Bits.{bit, fresh_unacked_bits}

-- mask r: the lowest r bits set; mask 0: all 64
unfoldable pub mask : ℕ → ℕ
mask zero = 2 ^ 64 - 1
mask (suc r) = 2 ^ suc r - 1

-- k masks in a row, from mask r on
unfoldable pub masks_from : ℕ → ℕ → List ℕ
unfolding mask
masks_from zero r = []
masks_from (suc k) r = mask r ∷ masks_from k (suc r)

-- the table: a mask for each remainder by 64
unfoldable pub masks : List ℕ
unfolding masks_from
masks = masks_from 64 0

-- the table's rule: it has 64 masks, and at place r stands mask r
unfoldable pub MasksInPlace : Type 0
MasksInPlace = (length masks ≡ 64) × ((r : ℕ) → r < 64 → get_or masks r 0 ≡ mask r)

-- a mask bit by bit: in mask r the lowest r bits are set and no others, in mask 0 all 64
unfoldable pub MasksByBits : Type 0
MasksByBits = (r j : ℕ) → r < 64 → j < 64 → bit (mask r ∷ []) j ≡ cond (eqb r 0 || ltb j r) 1 0

-- a fresh set word by word: 0 past its last word, there the mask of what its size leaves, whole before
unfoldable pub FreshByMasks : Type 0
FreshByMasks =
    (k n q : ℕ) → q < k → get_or (fresh_unacked_bits k n) q 0 ≡ cond (leb n (64 * q)) 0 (cond (leb n (64 * q + 64)) (mask (n % 64)) (2 ^ 64 - 1))
