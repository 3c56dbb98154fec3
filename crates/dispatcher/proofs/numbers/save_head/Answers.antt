-- `dispatcher::numbers::save_head` meets its contract: the four words at their offsets.
use lib.ListN.{length-set}
use Rattle.dispatcher.proofs.Loads.{headed}
use borrow.Author.Rules.{rules}
use Rattle.dispatcher.proofs.numbers.save_head.Goals as goal

pub bounds-store-at-2 : goal.bounds-store-at-2
bounds-store-at-2 c = simp length-set (search rules)

pub bounds-store-at-3 : goal.bounds-store-at-3
bounds-store-at-3 c = simp length-set (search rules)

pub bounds-store-at-4 : goal.bounds-store-at-4
bounds-store-at-4 c = simp length-set (search rules)

pub returns : goal.returns
returns c = headed c.args.d c.dispatcher_at-at.result c.requires c.dispatcher_at-at.ensures c.args.head
