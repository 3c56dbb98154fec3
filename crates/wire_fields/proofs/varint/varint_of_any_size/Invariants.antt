-- The bytes read so far each say that another follows, and what is left decides what the whole is.
use Rattle.wire_fields.specs.Found.{Partway}
use Rattle.wire_fields.proofs.varint.varint_of_any_size.Given as goal

abbrev pub invariant-loop-size : goal.invariant-loop-size
invariant-loop-size l = Partway l.m l.at l.value l.size
