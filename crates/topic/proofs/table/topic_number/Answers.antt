-- `topic::table::topic_number` meets its contract: the word at its offset.
use Rattle.std.proofs.Common.{ap, ◌∙◌, ℕ, get_or}
use Rattle.layout.proofs.Gets.{read_topic_number}
use Rattle.topic.proofs.table.topic_number.Goals as goal

pub returns : goal.returns
returns c = ap (λ (i : ℕ). get_or c.args.store.now i 0) c.topic_at.ensures ∙ read_topic_number c.requires.canon c.args.t c.requires.there
