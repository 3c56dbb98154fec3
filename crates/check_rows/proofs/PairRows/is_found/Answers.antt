-- `check_rows::PairRows::is_found` meets its contract: the middle row leaves out the half that cannot have the two words.
use mathlib.Core.Path.{sym, ◌∙◌}
use native.Mathlib.Omega.{arith}
use Rattle.check_rows.proofs.Among.{two_found}
use Rattle.check_rows.proofs.RowOrder.{neither_above, search_low, search_high, search_none}
use Rattle.check_rows.proofs.PairRows.is_found.Goals as goal

pub loop-low-preserved-then-is_above : goal.loop-low-preserved-then-is_above
loop-low-preserved-then-is_above c =
    let x = c.args in
    let r = x.self.now.rows in
    let l = c.loop-low in (
      l.invariant.0,
      search_low r.store.now r.first r.width r.count (x.self.now.known c.requires) x.a x.b _ (omega arith)
          (sym (rw (c.word-x.ensures, c.second-y.ensures) at c.is_above.ensures) ∙ c.if-is_above.true),
      l.invariant.2,
    )

pub loop-low-preserved : goal.loop-low-preserved
loop-low-preserved c =
    let x = c.args in
    let r = x.self.now.rows in
    let l = c.loop-low in (
      omega arith,
      l.invariant.1,
      search_high r.store.now r.first r.width r.count (x.self.now.known c.requires) x.a x.b _
          (sym (rw (c.word-x.ensures, c.second-y.ensures) at c.is_above-else-is_above.ensures) ∙ c.if-is_above-2.true),
    )

pub returns-else-is_above-2 : goal.returns-else-is_above-2
returns-else-is_above-2 c =
    let x = c.args in
    let r = x.self.now.rows in
    let e = neither_above x.a x.b c.word-x.result c.second-y.result (sym c.is_above.ensures ∙ c.if-is_above.false)
    (sym c.is_above-else-is_above.ensures ∙ c.if-is_above-2.false) in
    sym (two_found r.store.now r.first r.width r.count _ x.a x.b (omega arith) (sym c.word-x.ensures ∙ e.0) (sym c.second-y.ensures ∙ e.1))

pub returns : goal.returns
returns c =
    let x = c.args in
    let r = x.self.now.rows in
    sym (search_none r.store.now r.first r.width r.count x.a x.b c.loop-low.low c.loop-low.high c.loop-low-test.false
    c.loop-low.invariant.1 c.loop-low.invariant.2)
