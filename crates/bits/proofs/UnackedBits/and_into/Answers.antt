-- `UnackedBits::and_into` meets its contract: each word is that of the and-ed list at its place. Assumes nothing.
use Prim.Native.Nat.{ℕ}
use mathlib.Core.List.{List}
use Rattle.bits.specs.Bits.{and_into}
use Rattle.bits.specs.Four.{words}
use Rattle.bits.specs.declared.UnackedBits.{UnackedBits}
use Rattle.bits.proofs.Sets.{and_into_masked}
use Rattle.bits.proofs.Fours.{is_four}
use Rattle.bits.proofs.UnackedBits.and_into.Goals as goal

pub returns : goal.returns
returns c =
    let start = c in
    let b : UnackedBits = start.args.self in
    let inc : List ℕ = start.args.incoming.now in
    let known = c.struct_known-1.given in
    is_four _ (and_into (words b) inc)
    (and_into_masked (words b) inc 0 _ known.0.fits c.word_or_zero.ensures)
    (and_into_masked (words b) inc 1 _ known.1.0.fits c.word_or_zero-2.ensures)
    (and_into_masked (words b) inc 2 _ known.1.1.0.fits c.word_or_zero-3.ensures)
    (and_into_masked (words b) inc 3 _ known.1.1.1.0.fits c.word_or_zero-4.ensures)
