-- What is ahead names the id exactly if the whole does.
use Rattle.std.proofs.Common.{◌≡◌}
use Rattle.groups.specs.Lent.{groups_in}
use Rattle.ack.specs.NewIds.{named}
use Rattle.ack.proofs.outside_ids.names.Given as goal

abbrev pub invariant-loop-later : goal.invariant-loop-later
invariant-loop-later l = named l.fn.id (groups_in l.fn.left) ≡ named l.fn.id (groups_in l.later-iterator)
