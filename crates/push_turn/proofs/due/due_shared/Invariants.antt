-- The loop of `due_shared`: what is ahead, with what was counted, is the whole.
use Rattle.layout.specs.Layout.{decode}
use Rattle.push_turn.proofs.Totals.{Carried}
use Rattle.push_turn.proofs.due.due_shared.Given as goal

abbrev pub invariant-loop-d : goal.invariant-loop-d
invariant-loop-d l = Carried (decode l.store) l.initial.permits l.permits l.d l.count
