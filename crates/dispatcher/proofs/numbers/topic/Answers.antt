-- `dispatcher::numbers::topic` meets its contract: the word at its offset.
use Rattle.layout.proofs.GetsDispatcher.{read_dispatcher_topic}
use Rattle.dispatcher.proofs.numbers.topic.Goals as goal

pub returns : goal.returns
returns c = rw c.dispatcher_at-at.ensures (read_dispatcher_topic c.requires.canon c.args.d c.requires.there)
