-- `consumer::fields::set_cursor` meets its contract: the word at its offset.
use Rattle.layout.proofs.Sets.{write_consumer_cursor}
use Rattle.consumer.proofs.fields.set_cursor.Goals as goal

pub returns : goal.returns
returns c = rw c.consumer_at-at.ensures (write_consumer_cursor c.requires.canon c.args.i c.requires.there c.args.cursor)
