-- `dispatcher::completion::drop_complete` meets its contract: what is in flight is thinned in place.
use Rattle.dispatcher.proofs.Completing.{Dropping}
use Rattle.dispatcher.proofs.completion.drop_complete.Given as goal

abbrev pub invariant-loop-j : goal.invariant-loop-j
invariant-loop-j l = Dropping l.e l.d l.id l.initial.store l.store l.j l.kept
