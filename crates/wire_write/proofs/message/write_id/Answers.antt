-- `wire_write::message::write_id` meets its contract: the tag, the numbers after an open byte, and their length in it.
use mathlib.Core.Path.{◌≡◌, ◌∙◌}
use native.Mathlib.Omega.{arith}
use lib.ListN.{length, length-set}
use borrow.Author.Rules.{rules}
use Rattle.wire_write.proofs.Parts.{part_written}
use Rattle.wire_write.proofs.message.write_id.Goals as goal

pub write_id_numbers-end-requires : goal.write_id_numbers-end-requires
write_id_numbers-end-requires c = simp length-set (search rules)

pub bounds-buffer-at-2 : goal.bounds-buffer-at-2
bounds-buffer-at-2 c =
    let e : length c.write_id_numbers-end.new.buffer ≡ length c.args.buffer.now = c.write_id_numbers-end.ensures.long ∙ simp length-set in
    omega arith

pub shape_of-buffer : goal.shape_of-buffer
shape_of-buffer c = simp length-set (c.write_id_numbers-end.ensures.long ∙ simp length-set)

pub returns : goal.returns
returns c = part_written 2 (omega arith) (omega arith) c.write_id_numbers-end.ensures
