-- `wire_write::fields::write_ack_set` meets its contract: the fields of the words that are left, laid from here on, finish the fields
-- of all.
use borrow.Author.Rules.{rules}
use Rattle.wire_write.proofs.Parts.{words_start, words_on, words_end}
use Rattle.wire_write.proofs.fields.write_ack_set.Goals as goal

pub loop-word-init : goal.loop-word-init
loop-word-init c = words_start c.args.buffer.now c.args.at c.args.words.now

pub loop-word-preserved : goal.loop-word-preserved
loop-word-preserved c = words_on c.loop-word.invariant (search rules) c.write_number-here.ensures

pub returns : goal.returns
returns c = words_end c.loop-word.invariant (search rules) (search rules)
