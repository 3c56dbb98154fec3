-- What was seen so far and the fields that are left are what is picked.
use Rattle.wire_fields.proofs.Walks.{At, Partly}
use Rattle.wire_fields.proofs.pick.pick.Given as goal

abbrev pub invariant-loop-field : goal.invariant-loop-field
invariant-loop-field g l = At l.m l.field-iterator × Partly l.m l.tags l.field-iterator.at l.seen
