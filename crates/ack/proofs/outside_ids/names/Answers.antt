-- `ack::outside_ids::names` meets its contract: the groups are looked at one by one.
use Rattle.std.proofs.Common.{sym, ◌∙◌}
use Rattle.rules.specs.State.{same_id}
use Rattle.ack.proofs.Counts.{named_here, named_next, named_nothing}
use Rattle.ack.proofs.outside_ids.names.Goals as goal

pub returns-then-eq : goal.returns-then-eq
unfolding same_id
returns-then-eq c = named_here _ _ _ c.in-Some.ensures.steps c.args.id (sym (rw c.id.ensures at c.eq.ensures) ∙ c.if-eq.true) ∙ sym c.loop-later.invariant

pub loop-later-preserved : goal.loop-later-preserved
unfolding same_id
loop-later-preserved c = c.loop-later.invariant ∙ named_next _ _ _ c.in-Some.ensures.steps c.args.id (sym (rw c.id.ensures at c.eq.ensures) ∙ c.if-eq.false)

pub returns : goal.returns
returns c = named_nothing _ c.args.id c.in-None.ensures.steps.0 ∙ sym c.loop-later.invariant
