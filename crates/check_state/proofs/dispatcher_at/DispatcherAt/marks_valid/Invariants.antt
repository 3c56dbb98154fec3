-- `check_state::dispatcher_at::DispatcherAt::marks_valid` meets its contract. The loop's invariant: what is or-ed of the run fits its batch size exactly
-- where all marks before i suit their entries.
use mathlib.Core.Path.{◌≡◌}
use Rattle.bits.specs.Four.{words}
use Rattle.check_rows.specs.Below.{each_below}
use Rattle.check_state.specs.Marks.{mark_fits, mark_suits}
use Rattle.check_state.proofs.dispatcher_at.DispatcherAt.marks_valid.Given as goal

abbrev pub invariant-loop-i : goal.invariant-loop-i
invariant-loop-i l = mark_fits l.count (words l.bits) l.batch ≡ each_below (mark_suits l.self.store.now l.ledger l.first) l.i
