-- `dispatcher::marks::complete_mark` meets its contract: the word at its offset.
use Rattle.dispatcher.proofs.Gaps.{completed_mark}
use Rattle.dispatcher.proofs.marks.complete_mark.Goals as goal

pub returns : goal.returns
returns c = completed_mark c.args.d c.dispatcher_at-at.result c.requires.0 c.dispatcher_at-at.ensures c.args.k c.requires.1
