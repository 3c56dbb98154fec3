-- The loop of `serve_plain`: the consumers before `i` are served, and the list with what is left is the list with all.
use Rattle.push_plain.proofs.Served.{Going}
use Rattle.push_plain.proofs.serve.serve_plain.Given as goal

abbrev pub invariant-loop-i : goal.invariant-loop-i
invariant-loop-i l = Going l.initial.store l.permits l.initial.list l.store l.list l.made l.i
