-- What was written and what is ahead make up the whole.
use Rattle.layout.specs.Layout.{decode}
use Rattle.layout.specs.Fields.{consumer_nth}
use Rattle.groups.specs.Lent.{groups_in}
use Rattle.redeliver.proofs.Joins.{Joining}
use Rattle.redeliver.proofs.found.join_found.Given as goal

abbrev pub invariant-loop-group : goal.invariant-loop-group
invariant-loop-group l = Joining l.initial.store l.store l.i (consumer_nth (decode l.initial.store) l.i).pair.topic (groups_in l.fn.groups) (groups_in l.group-iterator)
