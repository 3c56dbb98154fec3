-- `bits::fresh_word` meets its contract: none, the last or all of the word's bits lie below the batch size. Assumes nothing.
use mathlib.Core.Path.{◌∙◌}
use Prim.Native.Nat.{ℕ, ◌-◌}
use native.Mathlib.Omega.{arith}
use Rattle.bits.proofs.Word.{ones_of}
use Rattle.bits.proofs.Masks.{mask_rest}
use Rattle.bits.proofs.fresh_word.Goals as goal

pub returns-then-from-batch_size : goal.returns-then-from-batch_size
returns-then-from-batch_size c =
    let start = c in
    ones_of (start.args.batch_size - start.args.from) 64 (omega arith)

pub returns-then-from-batch_size-2 : goal.returns-then-from-batch_size-2
returns-then-from-batch_size-2 c =
    let start = c in
    let n : ℕ = start.args.batch_size in
    let from : ℕ = start.args.from in
    start.requires.2 ∙ mask_rest n from start.requires.0 (omega arith) (omega arith) ∙ ones_of (n - from) (n - from) (omega arith)

pub returns : goal.returns
returns c =
    let start = c in
    ones_of (start.args.batch_size - start.args.from) 0 (omega arith)
