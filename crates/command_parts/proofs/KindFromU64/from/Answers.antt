-- `command_parts::KindFromU64::from` meets its contract: 0 is plain, any other number shared.
use borrow.Author.Tests.{eq-eqb, ne_eqb}
use Rattle.rules.specs.Calls.{kind_from}
use Rattle.command_parts.specs.Parts.{kind_of}
use Rattle.command_parts.proofs.KindFromU64.from.Goals as goal

pub returns-then-number-eq0 : goal.returns-then-number-eq0
unfolding kind_from kind_of
returns-then-number-eq0 c = rw (eq-eqb c.args.number 0 c.if-number-eq0.true)

pub returns-else-number-eq0 : goal.returns-else-number-eq0
unfolding kind_from kind_of
returns-else-number-eq0 c = rw (ne_eqb c.args.number 0 c.if-number-eq0.false)
