-- What was written and what is ahead make up the whole.
use Rattle.groups.specs.Lent.{groups_in}
use Rattle.ack.proofs.Turns.{Acking}
use Rattle.ack.proofs.ack_id.ack_all.Given as goal

abbrev pub invariant-loop-group : goal.invariant-loop-group
invariant-loop-group l = Acking l.initial.store l.store l.d l.topic (groups_in l.fn.groups) (groups_in l.group-iterator)
