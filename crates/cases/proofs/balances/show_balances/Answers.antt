-- A store whose words spell a state is one whose dispatchers can be read.
use Rattle.std.proofs.Common.{sym, ◌∙◌}
use Rattle.layout.proofs.Store.{spells_canon}
use Rattle.cases.proofs.balances.show_balances.Goals as goal

pub show_each-requires : goal.show_each-requires
show_each-requires g c =
    let spelt = sym c.spells.ensures ∙ c.if-spells.true in
    (rw c.entries-e.ensures (spells_canon spelt), spelt)
