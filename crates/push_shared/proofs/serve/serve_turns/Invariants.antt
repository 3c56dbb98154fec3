-- The loop of `serve_turns`: what is left, with what is written, is the whole service.
use Rattle.push_turn.specs.Turns.{local_from}
use Rattle.push_turn.proofs.Left.{left}
use Rattle.push_shared.proofs.Writing.{fixed, Writing}
use Rattle.push_shared.proofs.serve.serve_turns.Given as goal

abbrev pub invariant-loop-step : goal.invariant-loop-step
invariant-loop-step l = Writing l.served l.initial.store l.initial.permits l.initial.list l.store l.permits l.list l.numbers l.made

abbrev pub decreases-loop-step : goal.decreases-loop-step
decreases-loop-step l = left (fixed l.initial.store l.served.d) (local_from l.permits l.numbers)
