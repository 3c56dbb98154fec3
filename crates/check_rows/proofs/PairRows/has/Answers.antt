-- `check_rows::PairRows::has` meets its contract: two words above the last of ascending rows are none of them.
use mathlib.Core.Path.{sym, ap, ◌∙◌}
use mathlib.Core.Bool.{not}
use Rattle.check_rows.proofs.RowOrder.{last_none}
use Rattle.check_rows.proofs.PairRows.has.Goals as goal

pub returns-else-not-is_past : goal.returns-else-not-is_past
returns-else-not-is_past c =
    let p = c.args.self.now in
    let r = p.rows in
    ap not c.if-not-is_past.false
    ∙ sym (last_none r.store.now r.first r.width r.count c.args.a c.args.b (p.known c.if-self.true)
    (sym c.is_past.ensures ∙ c.if-not-is_past.false))
