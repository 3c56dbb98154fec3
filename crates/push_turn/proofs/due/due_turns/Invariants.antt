-- The loop of `due_turns`: what is left, with the steps made, is the whole service.
use Rattle.layout.specs.Layout.{decode}
use Rattle.layout.specs.Fields.{dispatcher_nth}
use Rattle.dispatcher.specs.Values.{head_of}
use Rattle.push_laws.specs.Local.{fixed_of}
use Rattle.push_turn.specs.Turns.{local_from, numbers_from}
use Rattle.push_turn.proofs.Left.{left, Since}
use Rattle.push_turn.proofs.due.due_turns.Given as goal

abbrev pub invariant-loop-served : goal.invariant-loop-served
invariant-loop-served l =
    Since (fixed_of (decode l.store) (dispatcher_nth (decode l.store) l.served.d))
    (local_from l.initial.permits (numbers_from (head_of (dispatcher_nth (decode l.store) l.served.d)))) (local_from l.permits l.numbers) l.count

abbrev pub decreases-loop-served : goal.decreases-loop-served
decreases-loop-served l =
    left (fixed_of (decode l.store) (dispatcher_nth (decode l.store) l.served.d)) (local_from l.permits l.numbers)
