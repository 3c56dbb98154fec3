-- `close::total_after` meets its contract: the permits once, or twice.
use Rattle.close.proofs.Closes.{total_once, total_twice}
use Rattle.close.proofs.total_after.Goals as goal

pub returns-then-leak : goal.returns-then-leak
returns-then-leak c = total_twice c.args.total c.args.permits c.if-leak.true

pub returns : goal.returns
returns c = total_once c.args.total c.args.permits c.if-leak.false
