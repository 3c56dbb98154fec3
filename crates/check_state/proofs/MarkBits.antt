-- The bits of a mark tested by the batch size, as `mark_fits` does it.
use mathlib.Core.Path.{◌≡◌}
use mathlib.Core.Bool.{Bool, true, false, cond}
use mathlib.Core.List.{List}
use Prim.Native.Nat.{ℕ, ◌≤◌, ◌<◌}
use lib.Dec.{ltb}
use borrow.Author.Tests.{lt-ltb, le-ltb}
use Rattle.bits.specs.Bits.{bits_empty, bits_below}
use Rattle.rules.proofs.Table.{by_test}
use Rattle.rules.proofs.Kept.Records.{empty_below}

-- what a mark's bits must be, by the batch size: clear bits do for any, others only for a size above 1
pub bits_clear : (batch : ℕ) (ws : List ℕ) → bits_empty ws ≡ true → true ≡ cond (ltb 1 batch) (bits_below batch ws) (bits_empty ws)
bits_clear batch ws h = by_test (ltb 1 batch) (λ t. rw (t, empty_below batch ws h)) (λ t. rw (t, h))

-- bits where there is no batch
pub bits_single : (batch : ℕ) (ws : List ℕ) → bits_empty ws ≡ false → batch ≤ 1 → false ≡ cond (ltb 1 batch) (bits_below batch ws) (bits_empty ws)
bits_single batch ws h k = rw (le-ltb 1 batch k, h)

-- bits of a batch
pub bits_batch : (batch : ℕ) (ws : List ℕ) {r : Bool} → 1 < batch → r ≡ bits_below batch ws → r ≡ cond (ltb 1 batch) (bits_below batch ws) (bits_empty ws)
bits_batch batch ws k e = rw (lt-ltb 1 batch k) e
