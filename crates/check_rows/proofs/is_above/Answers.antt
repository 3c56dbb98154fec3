-- `check_rows::is_above` meets its contract: the second words decide where the first are the same.
use Rattle.check_rows.proofs.RowOrder.{above_first, above_second}
use Rattle.check_rows.proofs.is_above.Goals as goal

pub returns-then-a-c : goal.returns-then-a-c
returns-then-a-c c = let x = c.args in above_second x.a x.b x.c x.d c.if-a-c.true

pub returns : goal.returns
returns c = let x = c.args in above_first x.a x.b x.c x.d c.if-a-c.false
