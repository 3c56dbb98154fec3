-- `bits::word_below` meets its contract: all, some or none of the word's bits may be set. Assumes nothing.
use mathlib.Core.Path.{sym, ap, ◌∙◌}
use Prim.Native.Nat.{ℕ, ◌-◌, ◌^◌}
use native.Mathlib.Omega.{arith}
use lib.Dec.{leb}
use lib.Pow.{le_ones}
use borrow.Author.Tests.{le-leb}
use Rattle.bits.proofs.Word.{ones_of, none_below, shifted_below}
use Rattle.bits.proofs.word_below.Goals as goal

pub returns-then-from-batch_size : goal.returns-then-from-batch_size
returns-then-from-batch_size c =
    let start = c in
    let word : ℕ = start.args.word in
    sym (le-leb word (2 ^ 64 - 1) (le_ones 64 start.ranges.word.fits))
    ∙ ap (leb word) (ones_of (start.args.batch_size - start.args.from) 64 (omega arith))

pub returns-then-from-batch_size-2 : goal.returns-then-from-batch_size-2
returns-then-from-batch_size-2 c =
    let start = c in
    let n : ℕ = start.args.batch_size - start.args.from in
    shifted_below start.args.word n ∙ ap (leb start.args.word) (ones_of n n (omega arith))

pub returns : goal.returns
returns c =
    let start = c in
    none_below start.args.word ∙ ap (leb start.args.word) (ones_of (start.args.batch_size - start.args.from) 0 (omega arith))
