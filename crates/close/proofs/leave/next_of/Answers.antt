-- `close::leave::next_of` meets its contract: 0 in an empty ring, else the remainder.
use Rattle.close.proofs.Rings.{next_empty, next_rest}
use Rattle.close.proofs.leave.next_of.Goals as goal

pub returns-then-n-eq0 : goal.returns-then-n-eq0
returns-then-n-eq0 c = next_empty c.args.next c.args.n c.if-n-eq0.true

pub returns : goal.returns
returns c = next_rest c.args.next c.args.n c.if-n-eq0.false
