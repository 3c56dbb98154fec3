-- `UnackedBits::bits_below` meets its contract: the four tests are those of the list. Assumes nothing.
use Rattle.bits.proofs.Fours.{four_below}
use Rattle.bits.proofs.UnackedBits.bits_below.Goals as goal

pub returns : goal.returns
returns c =
    let start = c in
    four_below start.args.self start.args.batch_size c.word_below.ensures
    c.word_below-2.ensures c.word_below-3.ensures c.word_below-4.ensures
