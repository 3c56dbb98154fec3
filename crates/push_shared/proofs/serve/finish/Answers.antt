-- `push_shared::serve::finish` meets its contract: the queue dropped, then the numbers stored.
use Rattle.push_shared.proofs.Writing.{dropped_in, finished}
use Rattle.push_shared.proofs.serve.finish.Goals as goal

pub save_head-requires : goal.save_head-requires
save_head-requires c = dropped_in c.args.numbers c.requires.0 c.drop_queue.ensures

pub returns : goal.returns
returns c = finished c.args.numbers c.requires.0 c.drop_queue.ensures c.requires.2 c.save_head.ensures
