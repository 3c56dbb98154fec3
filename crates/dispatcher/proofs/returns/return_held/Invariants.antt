-- `dispatcher::returns::return_held` meets its contract: one pass over what is in flight.
use Rattle.dispatcher.proofs.Returning.{Returning}
use Rattle.dispatcher.proofs.returns.return_held.Given as goal

abbrev pub invariant-loop-j : goal.invariant-loop-j
invariant-loop-j l = Returning l.e l.id l.d l.initial.store l.store l.j l.kept
