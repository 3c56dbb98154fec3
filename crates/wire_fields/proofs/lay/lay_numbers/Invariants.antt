-- Laying what is left from here on is laying all.
use Rattle.wire_fields.proofs.Laying.{Laying, number_of}
use Rattle.wire_fields.proofs.Walks.{At}
use Rattle.wire_fields.proofs.lay.lay_numbers.Given as goal

abbrev pub invariant-loop-field : goal.invariant-loop-field
invariant-loop-field l = At l.m l.field-iterator × Laying (number_of l.number) l.m l.fn.list l.fn.to l.field-iterator.at l.list l.next
