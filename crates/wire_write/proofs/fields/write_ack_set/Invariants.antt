-- The fields of the words that are left, laid from here on, finish the fields of all.
use Rattle.wire_write.proofs.Parts.{Words}
use Rattle.wire_write.proofs.fields.write_ack_set.Given as goal

abbrev pub invariant-loop-word : goal.invariant-loop-word
invariant-loop-word l = Words l.initial.buffer l.at l.words l.buffer l.here l.word-index
