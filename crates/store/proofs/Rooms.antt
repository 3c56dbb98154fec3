-- Numbers of slots: where slot i of a list stands, and what is left past the count.
use mathlib.Core.Path.{◌≡◌}
use Prim.Native.Nat.{ℕ, suc, ◌+◌, ◌-◌, ◌*◌, ◌≤◌, ◌<◌}
use native.Mathlib.Nat.{mul-le-mul_right, suc-mul}
use native.Mathlib.Omega.{arith}
use Rattle.words.specs.Words.{slots_left}

-- slots up to a count are slots of the room
pub room_le : (n most w : ℕ) → n ≤ most → n * w ≤ most * w
room_le n most w h = mul-le-mul_right w h

-- a slot below the count ends within the room
pub slot_le : (i n most w : ℕ) → i < n → n ≤ most → i * w + w ≤ most * w
slot_le i n most w h k = let e = suc-mul i w in let l : suc i * w ≤ most * w = mul-le-mul_right w (omega arith) in omega arith

-- the words between the last used slot and the end of the room
pub room_left : (n most w first : ℕ) → n ≤ most → first + most * w - (first + n * w) ≡ (most - n) * w
room_left n most w first h = let e = slots_left n most w h in omega arith
