-- The number so far, carried on over the bytes that are left, is the number of all.
use Rattle.trace_read.proofs.Numbers.{Partly}
use Rattle.trace_read.proofs.number.Given as goal

abbrev pub invariant-loop-i : goal.invariant-loop-i
invariant-loop-i l = Partly l.bytes l.n l.i
