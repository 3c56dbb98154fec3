-- What is ahead comes to what all groups do.
use Rattle.layout.specs.Layout.{decode}
use Rattle.layout.specs.Fields.{dispatcher_nth}
use Rattle.groups.specs.Lent.{groups_in}
use Rattle.redeliver.proofs.Handing.{Handing}
use Rattle.redeliver.proofs.hand_back.hand_back_all.Given as goal

abbrev pub invariant-loop-group : goal.invariant-loop-group
invariant-loop-group l = Handing l.e l.initial.store l.store l.d (dispatcher_nth (decode l.initial.store) l.d).pair.topic l.id (groups_in l.fn.groups) (groups_in l.group-iterator)
