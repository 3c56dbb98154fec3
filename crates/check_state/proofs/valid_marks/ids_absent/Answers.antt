-- `check_state::valid_marks::ids_absent` meets its contract: where the first id is above the last entry, so are all others; else each
-- is looked for.
use borrow.Author.Tests.{tests}
use borrow.Author.Rules.{rules}
use mathlib.Core.Path.{◌≡◌, sym, ap, ◌∙◌}
use mathlib.Core.Bool.{true, not}
use Rattle.check_rows.specs.Below.{each_below}
use Rattle.check_rows.specs.Rows.{row, row_second, two_among, twos_ascend, above_last}
use Rattle.check_rows.proofs.Below.{each_given}
use Rattle.check_rows.proofs.Ranges.{all_below}
use Rattle.check_rows.proofs.RowOrder.{none_shared}
use Rattle.check_state.specs.Marks.{absent_id, absent}
use Rattle.check_state.proofs.valid_marks.ids_absent.Goals as goal

pub returns-then-ids-eq0 : goal.returns-then-ids-eq0
unfolding absent each_below
returns-then-ids-eq0 c = rw c.if-ids-eq0.true

pub returns-then-is_past : goal.returns-then-is_past
unfolding absent
returns-then-is_past c =
    let i = c.args.ids.now.rows in
    let l = c.args.ledger.now.rows in
    let s = c.requires.store in
    let w = c.requires.width in
    let up : twos_ascend l.store.now i.first 2 i.count ≡ true = rw (w.0, s) at c.requires.ids in
    let down : twos_ascend l.store.now l.first 4 l.count ≡ true = rw w.1 at (c.args.ledger.now.known c.if-ledger.true) in
    let past : above_last l.store.now l.first 4 l.count (row l.store.now i.first 2 0) (row_second l.store.now i.first 2 0) ≡ true =
    rw (c.word.ensures, c.second.ensures, w.0, w.1, s) at (sym c.is_past.ensures ∙ c.if-is_past.true) in
    rw s
    (sym (each_given (absent_id l.store.now i.first l.first l.count) i.count
    (λ j k. ap not (none_shared l.store.now i.first 2 i.count l.first 4 l.count up down past j k))))

pub returns : goal.returns
unfolding absent
returns c =
    let i = c.args.ids.now.rows in
    let l = c.args.ledger.now.rows in
    let w = c.requires.width in
    let each =
    all_below (λ j. not (two_among l.store.now l.first l.width l.count (row i.store.now i.first i.width j) (row_second i.store.now i.first i.width j)))
    i.count _ _ c.all.result (λ x t p k. search (rules, tests)) c.all.ensures.ran in
    rw c.requires.store (rw (w.0, w.1, c.requires.store) at each)
