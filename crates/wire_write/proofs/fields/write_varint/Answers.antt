-- `wire_write::fields::write_varint` meets its contract.
use lib.ListN.{length-set}
use borrow.Author.Rules.{rules}
use Rattle.wire_write.proofs.Varints.{partly_start, partly_on, partly_end}
use Rattle.wire_write.proofs.fields.write_varint.Goals as goal

pub loop-left-init : goal.loop-left-init
loop-left-init c = partly_start c.args.buffer.now c.args.at c.args.number (search rules)

pub loop-left-preserved : goal.loop-left-preserved
loop-left-preserved c = partly_on c.loop-left.invariant (search rules)

pub shape_of-buffer : goal.shape_of-buffer
shape_of-buffer c = simp length-set (search rules)

pub returns : goal.returns
returns c = partly_end c.loop-left.invariant (search rules)
