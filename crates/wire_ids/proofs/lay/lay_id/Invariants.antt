-- Finishing from here is finishing from the start.
use Rattle.wire_fields.proofs.Walks.{At}
use Rattle.wire_ids.proofs.OneId.{Filling}
use Rattle.wire_ids.proofs.lay.lay_id.Given as goal

abbrev pub invariant-loop-field : goal.invariant-loop-field
invariant-loop-field l = At l.m l.field-iterator × Filling l.m l.fn.list l.to l.field-iterator.at l.list l.n
