-- `subscribe::join::join_new` meets its contract: the new dispatcher at the end, then the first id of its ring.
use native.Mathlib.Omega.{arith}
use Rattle.dispatcher.specs.Pairs.{pair_in}
use Rattle.subscribe.proofs.Joining.{ledger_short, new_there, joined_new}
use Rattle.subscribe.proofs.join.join_new.Goals as goal

pub make_dispatcher-requires : goal.make_dispatcher-requires
make_dispatcher-requires c =
    let l = c.ledger_length-entries.ensures in
    let f = ledger_short c.args.pair.topic c.requires.0 in
    (c.requires.0, c.requires.2, omega arith)

pub append_ring-requires : goal.append_ring-requires
append_ring-requires c = new_there c.dispatcher_count-n.result (pair_in c.args.pair) c.requires.0 c.dispatcher_count-n.ensures c.requires.2 c.ledger_length-entries.result c.ledger_length-entries.ensures c.make_dispatcher.ensures

pub returns : goal.returns
returns c = joined_new c.dispatcher_count-n.result (pair_in c.args.pair) c.requires.0 c.dispatcher_count-n.ensures c.requires.2 c.ledger_length-entries.result c.ledger_length-entries.ensures c.make_dispatcher.ensures c.args.id c.requires.1 c.append_ring.ensures
