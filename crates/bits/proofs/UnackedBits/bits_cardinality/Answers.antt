-- `UnackedBits::bits_cardinality` meets its contract: the four counts add up to that of the list. Assumes nothing.
use Rattle.bits.proofs.Fours.{four_cardinality}
use Rattle.bits.proofs.UnackedBits.bits_cardinality.Goals as goal

pub returns : goal.returns
returns c =
    four_cardinality c.args.self c.set_bits.ensures.0
    c.set_bits-2.ensures.0 c.set_bits-3.ensures.0 c.set_bits-4.ensures.0
