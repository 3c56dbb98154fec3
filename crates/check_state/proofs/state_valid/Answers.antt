-- `check_state::state_valid` meets its contract: the tables are tested one after the other.
use mathlib.Core.Path.{sym, ◌∙◌}
use Rattle.store.proofs.Tests.{fails, passes}
use Rattle.check_state.proofs.Checks.{state_by_tables}
use Rattle.check_state.proofs.state_valid.Goals as goal

pub returns-in_default : goal.returns-in_default
returns-in_default c = fails _ c.in_default.ensures ∙ state_by_tables c.requires

pub dispatchers_valid-requires : goal.dispatchers_valid-requires
dispatchers_valid-requires c = let t = c.in-Some.ensures in rw (t.1, t.2) c.requires

pub returns-then-consumers_valid : goal.returns-then-consumers_valid
returns-then-consumers_valid c =
    let t = c.in-Some.ensures in
    passes t.0 (passes (sym c.consumers_valid.ensures ∙ c.if-consumers_valid.true) (rw t.1 at c.dispatchers_valid.ensures)) ∙ state_by_tables c.requires

pub returns-else-consumers_valid : goal.returns-else-consumers_valid
returns-else-consumers_valid c =
    c.if-consumers_valid.false
    ∙ passes c.in-Some.ensures.0 (fails _ (sym c.consumers_valid.ensures ∙ c.if-consumers_valid.false))
    ∙ state_by_tables c.requires
