-- `seek::target_position` meets its contract, by the target.
use Rattle.rules.specs.Commands.{target_position}
use Rattle.command_parts.specs.Parts.{target_of}
use Rattle.seek.proofs.target_position.Goals as goal

pub returns-in-Start : goal.returns-in-Start
unfolding target_position target_of
returns-in-Start c = rw c.in-Start.is

pub returns-in-Id : goal.returns-in-Id
unfolding target_position target_of
returns-in-Id c = rw c.in-Id.is c.seek_position.ensures
