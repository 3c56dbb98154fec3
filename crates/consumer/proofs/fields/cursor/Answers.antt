-- `consumer::fields::cursor` meets its contract: the word at its offset.
use mathlib.Core.Path.{◌∙◌}
use Rattle.layout.proofs.Gets.{read_consumer_cursor}
use Rattle.consumer.proofs.fields.cursor.Goals as goal

pub returns : goal.returns
returns c = c.word.ensures ∙ rw c.consumer_at-at.ensures (read_consumer_cursor c.requires.canon c.args.i c.requires.there)
