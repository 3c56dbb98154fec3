-- `topic::find::id_of_message` meets its contract: the id stands at its offset.
use Rattle.std.proofs.Common.{◌∙◌}
use Rattle.rules.specs.Ledger.{message_at}
use Rattle.topic.proofs.Positions.{id_here}
use Rattle.topic.proofs.find.id_of_message.Goals as goal

pub returns : goal.returns
unfolding message_at
returns c = c.id_at.ensures ∙ id_here c.args.t c.topic_at-at.result c.args.k c.requires.0 c.topic_at-at.ensures c.requires.1
