-- `check_state::dispatcher_at::DispatcherAt::rest_valid` meets its contract: marks, then outside ids.
use mathlib.Core.Path.{sym, ◌∙◌}
use Rattle.check_state.specs.Dispatchers.{rest_right}
use Rattle.store.proofs.Tests.{fails, passes}
use Rattle.check_state.proofs.dispatcher_at.DispatcherAt.rest_valid.Goals as goal

pub returns-then-marks_valid : goal.returns-then-marks_valid
unfolding rest_right
returns-then-marks_valid c =
    passes (sym c.marks_valid.ensures ∙ c.if-marks_valid.true) c.outside_valid.ensures

pub returns-else-marks_valid : goal.returns-else-marks_valid
unfolding rest_right
returns-else-marks_valid c =
    c.if-marks_valid.false ∙ fails _ (sym c.marks_valid.ensures ∙ c.if-marks_valid.false)
