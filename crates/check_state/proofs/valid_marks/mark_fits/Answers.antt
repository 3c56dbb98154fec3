-- `check_state::valid_marks::mark_fits` meets its contract: the count is tested, then the bits by the batch size.
use mathlib.Core.Path.{sym, ◌∙◌}
use Rattle.bits.specs.Four.{words}
use Rattle.store.proofs.Tests.{fails, passes}
use Rattle.layout.proofs.Slices.{count_over, count_fits}
use Rattle.check_state.proofs.MarkBits.{bits_clear, bits_single, bits_batch}
use Rattle.check_state.proofs.valid_marks.mark_fits.Goals as goal

pub returns-then-count-gt-MOST_REDELIVERIES : goal.returns-then-count-gt-MOST_REDELIVERIES
returns-then-count-gt-MOST_REDELIVERIES c = fails _ (count_over _ c.if-count-gt-MOST_REDELIVERIES.true)

pub returns-then-bits_empty : goal.returns-then-bits_empty
returns-then-bits_empty c =
    let a = c.args in
    passes (count_fits _ c.if-count-gt-MOST_REDELIVERIES.false)
    (bits_clear a.batch (words a.bits) (sym c.bits_empty.ensures ∙ c.if-bits_empty.true))

pub returns-then-batch-le1 : goal.returns-then-batch-le1
returns-then-batch-le1 c =
    let a = c.args in
    passes (count_fits _ c.if-count-gt-MOST_REDELIVERIES.false)
    (bits_single a.batch (words a.bits) (sym c.bits_empty.ensures ∙ c.if-bits_empty.false) c.if-batch-le1.true)

pub returns : goal.returns
returns c =
    let a = c.args in
    passes (count_fits _ c.if-count-gt-MOST_REDELIVERIES.false) (bits_batch a.batch (words a.bits) c.if-batch-le1.false c.bits_below.ensures)
