-- `wire_write::fields::write_number` meets its contract: the tag is one byte, and the varint follows.
use mathlib.Core.Path.{◌∙◌}
use native.Mathlib.Omega.{arith}
use lib.ListN.{length-set}
use borrow.Author.Rules.{rules}
use Rattle.wire_write.proofs.Parts.{number_written}
use Rattle.wire_write.proofs.fields.write_number.Goals as goal

pub write_varint-requires : goal.write_varint-requires
write_varint-requires c = simp length-set (search rules)

pub shape_of-buffer : goal.shape_of-buffer
shape_of-buffer c = c.write_varint.ensures.long ∙ simp length-set

pub returns : goal.returns
returns c = number_written c.args.field c.args.number (omega arith) c.write_varint.ensures
