-- Words tested for a byte: topic and subscription numbers.
use mathlib.Core.Path.{◌≡◌}
use mathlib.Core.Bool.{true, false}
use Prim.Native.Nat.{ℕ, ◌≤◌, ◌<◌}
use native.Mathlib.Omega.{arith}
use borrow.Author.Tests.{lt-ltb, le-ltb}
use Rattle.rules.specs.Valid.{is_byte}

-- a word past a byte
pub byte_over : {w n : ℕ} → w ≡ n → 255 < w → is_byte n ≡ false
unfolding is_byte
byte_over {n = n} e h = le-ltb n 256 (omega arith)

-- a byte
pub byte_within : {w n : ℕ} → w ≡ n → w ≤ 255 → is_byte n ≡ true
unfolding is_byte
byte_within {n = n} e h = lt-ltb n 256 (omega arith)
