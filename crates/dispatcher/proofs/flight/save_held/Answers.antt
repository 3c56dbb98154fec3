-- `dispatcher::flight::save_held` meets its contract: the two words at its offset.
use lib.ListN.{length-set}
use Rattle.dispatcher.proofs.Loads.{held_written}
use borrow.Author.Rules.{rules}
use Rattle.dispatcher.proofs.flight.save_held.Goals as goal

pub bounds-store-at-2 : goal.bounds-store-at-2
bounds-store-at-2 c = simp length-set (search rules)

pub returns : goal.returns
returns c = held_written c.args.d c.dispatcher_at.result c.requires.0 c.dispatcher_at.ensures c.args.j c.args.held.holder c.args.held.position c.requires.1
