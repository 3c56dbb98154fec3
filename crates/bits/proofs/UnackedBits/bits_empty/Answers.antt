-- `UnackedBits::bits_empty` meets its contract: an `|` of the words is 0 exactly when each is. Assumes nothing.
use Rattle.bits.proofs.Fours.{four_empty}
use Rattle.bits.proofs.UnackedBits.bits_empty.Goals as goal

pub returns : goal.returns
returns c = four_empty c.args.self
