-- `push_turn::choice::choose` meets its contract: a place from next on, or one before it, or none.
use Rattle.std.proofs.Common.{sym, ◌∙◌}
use Rattle.push_turn.proofs.Choosing.{chosen_first, chosen_again}
use Rattle.push_turn.proofs.choice.choose.Goals as goal

pub returns-in-Some-clause-place : goal.returns-in-Some-clause-place
returns-in-Some-clause-place c =
    let a = c.args in
    chosen_first a.permits.now a.ring.now a.next c.requires c.in-Some.further (sym c.in-Some.is ∙ c.ready.ensures)

pub returns-clause-place : goal.returns-clause-place
returns-clause-place c =
    let a = c.args in
    chosen_again a.permits.now a.ring.now a.next c.requires (sym c.in_default.is ∙ c.ready.ensures) c.ready-2.result c.ready-2.ensures
