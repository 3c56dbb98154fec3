-- `told::dispatches_in` meets its contract: only a push tells of any.
use Rattle.std.proofs.Common.{sym, ◌∙◌}
use Rattle.told.proofs.Told.{other_told, push_told}
use Rattle.told.proofs.dispatches_in.Goals as goal

pub returns-then-kind-from : goal.returns-then-kind-from
returns-then-kind-from c = c.made_in.ensures ∙ push_told _ _ (c.if-kind-from.true ∙ c.from.ensures)

pub returns-else-kind-from : goal.returns-else-kind-from
returns-else-kind-from c = other_told _ _ (λ e. c.if-kind-from.false (e ∙ sym c.from.ensures))
