-- The varint of what is left of the number, laid from here on, finishes the varint of the number.
use Rattle.wire_write.proofs.Varints.{Partly}
use Rattle.wire_write.proofs.fields.write_varint.Given as goal

abbrev pub invariant-loop-left : goal.invariant-loop-left
invariant-loop-left l = Partly l.initial.buffer l.at l.number l.buffer l.here l.left

abbrev pub decreases-loop-left : goal.decreases-loop-left
decreases-loop-left l = l.left
