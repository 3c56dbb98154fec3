-- `push_records::listed::room` meets its contract: the lesser of the two numbers.
use Rattle.push_records.specs.Listed.{room}
use Rattle.push_records.proofs.listed.room.Goals as goal

pub returns : goal.returns
unfolding room
returns c = c.min.ensures
