-- `check_state::dispatcher_at::DispatcherAt::ring_valid` meets its contract: the ids are distinct, and next is right.
use mathlib.Core.Path.{sym, ◌∙◌}
use Rattle.check_state.specs.Dispatchers.{ring_right}
use Rattle.store.proofs.Tests.{fails, passes}
use Rattle.check_state.proofs.dispatcher_at.DispatcherAt.ring_valid.Goals as goal

pub returns-then-distinct : goal.returns-then-distinct
unfolding ring_right
returns-then-distinct c =
    rw (← c.word.ensures, ← c.word-then-distinct.ensures) (passes (sym c.distinct.ensures ∙ c.if-distinct.true) c.next_valid.ensures)

pub returns-else-distinct : goal.returns-else-distinct
unfolding ring_right
returns-else-distinct c =
    c.if-distinct.false ∙ rw (← c.word.ensures) (fails _ (sym c.distinct.ensures ∙ c.if-distinct.false))
