-- `wire_write::message::write_command` meets its contract: the type, and the content as a part after it.
use mathlib.Core.Path.{◌≡◌, ◌∙◌}
use native.Mathlib.Omega.{arith}
use lib.ListN.{length, length-set}
use borrow.Author.Rules.{rules}
use Rattle.wire.specs.Message.{message_bytes}
use Rattle.words.proofs.Writers.{and_then}
use Rattle.wire_write.proofs.Parts.{part_written}
use Rattle.wire_write.proofs.message.write_command.Goals as goal

pub write_content-end-requires : goal.write_content-end-requires
write_content-end-requires c = (search rules, simp length-set (search rules))

pub bounds-buffer-at-2 : goal.bounds-buffer-at-2
bounds-buffer-at-2 c =
    let e : length c.write_content-end.new.buffer ≡ length c.args.buffer.now =
    c.write_content-end.ensures.long ∙ simp length-set c.write_number-at.ensures.long in
    omega arith

pub shape_of-buffer : goal.shape_of-buffer
shape_of-buffer c = simp length-set (c.write_content-end.ensures.long ∙ simp length-set c.write_number-at.ensures.long)

pub returns : goal.returns
unfolding message_bytes
returns c = and_then c.write_number-at.ensures (part_written 9 (omega arith) (omega arith) c.write_content-end.ensures)
