-- `bits::set_bits` meets its contract: the language's count of a word is that of the definitions, and at most 64.
-- Assumes nothing.
use mathlib.Core.Path.{sym}
use Prim.Native.Nat.{◌≤◌}
use native.Mathlib.Omega.{arith}
use lib.Count.{ones, ones-le}
use Rattle.bits.proofs.Word.{count_ones_is_ones}
use Rattle.bits.proofs.set_bits.Goals as goal

pub overflow_cast-result : goal.overflow_cast-result
overflow_cast-result c =
    let few : ones c.args.word ≤ 64 = ones-le 64 c.args.word c.ranges.word.fits in
    record { fits = omega arith }

pub returns : goal.returns
returns c = (sym (count_ones_is_ones c.args.word c.ranges.word.fits), ones-le 64 c.args.word c.ranges.word.fits)
