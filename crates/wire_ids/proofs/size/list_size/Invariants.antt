-- The tally so far and the fields that are left decide what the ids take in all.
use Rattle.wire_fields.proofs.Walks.{At}
use Rattle.wire_ids.proofs.Tallies.{Counted}
use Rattle.wire_ids.proofs.size.list_size.Given as goal

abbrev pub invariant-loop-field : goal.invariant-loop-field
invariant-loop-field l = At l.m l.field-iterator × Counted l.m l.number l.field-iterator.at l.t
