-- `push_turn::service::find_served` meets its contract: the topic is looked up by the dispatcher's number of it.
use Rattle.push_turn.specs.Turns.{served_in}
use Rattle.push_turn.proofs.service.find_served.Goals as goal

pub returns : goal.returns
unfolding served_in
returns c = rw (c.find_topic.ensures, c.ledger_length.ensures, c.topic-number.ensures)
