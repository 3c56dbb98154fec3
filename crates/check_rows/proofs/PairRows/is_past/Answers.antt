-- `check_rows::PairRows::is_past` meets its contract: there is a last row, and its two words are compared.
use native.Mathlib.Omega.{arith}
use Rattle.std.proofs.Common.{◌<◌}
use borrow.Author.Tests.{lt-ltb, le-ltb}
use Rattle.check_rows.specs.Rows.{above_last}
use Rattle.store.proofs.Tests.{fails, passes}
use Rattle.check_rows.proofs.PairRows.is_past.Goals as goal

pub returns-then-self-eq0 : goal.returns-then-self-eq0
unfolding above_last
returns-then-self-eq0 c = fails _ (le-ltb 0 c.args.self.now.rows.count (omega (arith, c.if-self-eq0.true)))

pub returns : goal.returns
unfolding above_last
returns c =
    let h : 0 < c.args.self.now.rows.count = omega (arith, c.if-self-eq0.false) in
    passes (lt-ltb 0 c.args.self.now.rows.count h) (rw (c.word.ensures, c.second.ensures) at c.is_above.ensures)
