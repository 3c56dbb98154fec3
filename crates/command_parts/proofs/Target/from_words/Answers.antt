-- `command_parts::Target::from_words` meets its contract: 0 is the start, any other number the id.
use borrow.Author.Tests.{eq-eqb, ne_eqb}
use Rattle.rules.specs.Calls.{target_from}
use Rattle.command_parts.specs.Parts.{target_of}
use Rattle.command_parts.proofs.Target.from_words.Goals as goal

pub returns-then-target-eq0 : goal.returns-then-target-eq0
unfolding target_from target_of
returns-then-target-eq0 c = rw (eq-eqb c.args.target 0 c.if-target-eq0.true)

pub returns-else-target-eq0 : goal.returns-else-target-eq0
unfolding target_from target_of
returns-else-target-eq0 c = rw (ne_eqb c.args.target 0 c.if-target-eq0.false)
