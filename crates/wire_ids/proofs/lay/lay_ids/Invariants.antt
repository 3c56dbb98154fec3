-- Laying what is left from here on is laying all, and what is left are ids.
use Rattle.wire_fields.proofs.Walks.{At}
use Rattle.wire_ids.proofs.Groups.{Listing}
use Rattle.wire_ids.proofs.lay.lay_ids.Given as goal

abbrev pub invariant-loop-field : goal.invariant-loop-field
invariant-loop-field l = At l.m l.field-iterator × Listing l.m l.number l.fn.list l.field-iterator.at l.list l.to
