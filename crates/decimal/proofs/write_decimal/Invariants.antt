-- The digits of what is left of the number, laid from the first place on, finish the number.
use Rattle.decimal.proofs.Written.{Partly}
use Rattle.decimal.proofs.write_decimal.Given as goal

abbrev pub invariant-loop-here : goal.invariant-loop-here
invariant-loop-here l = Partly l.initial.buffer l.at l.number l.buffer l.here l.rest
