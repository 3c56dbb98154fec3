-- What was counted so far and the fields that are left tell the words.
use Rattle.wire_fields.proofs.Walks.{At}
use Rattle.wire_ids.proofs.Parts.{Partly}
use Rattle.wire_ids.proofs.id.id_words.Given as goal

abbrev pub invariant-loop-field : goal.invariant-loop-field
invariant-loop-field l = At l.m l.field-iterator × Partly l.m l.field-iterator.at l.p
