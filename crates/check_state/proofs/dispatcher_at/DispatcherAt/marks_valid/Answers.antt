-- `check_state::dispatcher_at::DispatcherAt::marks_valid` meets its contract: after the batch size of the next entry was looked at, the run is the
-- entry's, and its mark joins it.
use mathlib.Core.Path.{◌≡◌, sym, ◌∙◌}
use Prim.Native.Nat.{◌+◌, ◌*◌}
use native.Mathlib.Omega.{arith}
use lib.ListN.{get_or}
use borrow.Author.Tests.{eq-eqb, ne_eqb}
use Rattle.layout.specs.Offsets.{mark_in}
use Rattle.bits.specs.Four.{words}
use Rattle.check_rows.specs.Below.{each_below}
use Rattle.check_state.specs.Marks.{mark_fits, mark_suits, marks_right}
use Rattle.store.proofs.Tests.{fails, passes, answered_no, answered_yes}
use Rattle.check_state.proofs.MarkRuns.{joined_lent, fits_none, run_turn, run_stop}
use Rattle.check_state.proofs.dispatcher_at.DispatcherAt.marks_valid.Goals as goal
use Rattle.check_state.proofs.dispatcher_at.DispatcherAt.marks_valid.Goals.{then-next-batch+else-not-mark_fits, else-next-batch}

pub returns-then-n-self : goal.returns-then-n-self
unfolding marks_right
returns-then-n-self c = rw (← c.word-n.ensures) (fails _ (ne_eqb _ _ c.if-n-self.true))

pub loop-i-init : goal.loop-i-init
unfolding each_below
loop-i-init c = fits_none c.default-bits.result 0 c.default-bits.ensures

pub returns-then-not-mark_fits : goal.returns-then-not-mark_fits
unfolding marks_right
returns-then-not-mark_fits c =
    let s = c.args.self.now in
    let first = s.at + (176 + 3 * s.e) in
    let start : s.at + mark_in s.e 0 ≡ first = omega arith in
    rw (start, ← c.word-n.ensures)
    (passes (eq-eqb c.word-n.result s.ledger.rows.count c.if-n-self.false)
    (run_stop s.store.now s.ledger.rows.first first c.word-n.result c.loop-i.i (omega arith)
    (answered_no c.mark_fits.ensures c.if-not-mark_fits.true) c.loop-i.invariant))

pub loop-i-preserved : goal.loop-i-preserved
loop-i-preserved c =
    let s = c.args.self.now in
    let first = s.at + (176 + 3 * s.e) in
    let now = c.if-next-batch in
    -- the run, after the batch size of the next entry was looked at: it is the entry's
    let run : (mark_fits now.count (words now.bits) now.batch ≡ each_below (mark_suits s.store.now s.ledger.rows.first first) c.loop-i.i)
    × (now.batch ≡ get_or s.store.now (s.ledger.rows.first + c.loop-i.i * 4 + 3) 0) =
    elim now.branch [
      | then-next-batch+else-not-mark_fits w ↦ (
        rw (w.count-is, w.bits-is)
            (fits_none w.default-bits-then-next-batch.result now.batch w.default-bits-then-next-batch.ensures
            ∙ sym (sym c.loop-i.invariant ∙ answered_yes w.mark_fits.ensures w.if-not-mark_fits.false)),
        w.batch-is,
      )
      | else-next-batch w ↦ (rw (w.batch-is, w.count-is, w.bits-is) c.loop-i.invariant, w.batch-is ∙ sym w.if-next-batch.false)
    ] in
    run_turn s.store.now s.ledger.rows.first first c.loop-i.i now.count now.batch now.bits c.joined-bits.result run.0 run.1
    (joined_lent now.bits s.store.now (first + c.loop-i.i * 6) c.joined-bits.ensures)

pub returns : goal.returns
unfolding marks_right
returns c =
    let s = c.args.self.now in
    let start : s.at + mark_in s.e 0 ≡ s.at + (176 + 3 * s.e) = omega arith in
    let e : c.loop-i.i ≡ c.word-n.result = omega arith in
    rw (start, ← c.word-n.ensures) (passes (eq-eqb c.word-n.result s.ledger.rows.count c.if-n-self.false) (c.mark_fits-2.ensures ∙ (rw e at c.loop-i.invariant)))
