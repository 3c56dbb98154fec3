-- `close::in_range` meets its contract: below the least, or by the most.
use Rattle.close.proofs.Closes.{under_range, over_range}
use Rattle.close.proofs.in_range.Goals as goal

pub returns-else-total-ge-LEAST_TOTAL : goal.returns-else-total-ge-LEAST_TOTAL
returns-else-total-ge-LEAST_TOTAL c = under_range c.args.total c.if-total-ge-LEAST_TOTAL.false

pub returns-then-total-ge-LEAST_TOTAL : goal.returns-then-total-ge-LEAST_TOTAL
returns-then-total-ge-LEAST_TOTAL c = over_range c.args.total c.if-total-ge-LEAST_TOTAL.true
