-- The loop of `push_pending_shared`: what is left to serve, with what is written, is the whole.
use Rattle.push_shared.proofs.Sharing.{Sharing}
use Rattle.push_shared.proofs.push_pending_shared.Given as goal

abbrev pub invariant-loop-d : goal.invariant-loop-d
invariant-loop-d l =
    Sharing l.e l.initial.store l.initial.permits l.initial.list l.store l.permits l.list l.d l.made
