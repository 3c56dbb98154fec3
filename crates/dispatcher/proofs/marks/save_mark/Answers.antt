-- `dispatcher::marks::save_mark` meets its contract: the six words at its offset.
use mathlib.Core.Path.{refl}
use lib.ListN.{length-set}
use Rattle.dispatcher.proofs.Loads.{marked}
use borrow.Author.Rules.{rules}
use Rattle.dispatcher.proofs.marks.save_mark.Goals as goal

pub bounds-store-at-2 : goal.bounds-store-at-2
bounds-store-at-2 c = simp length-set (search rules)

pub bounds-store-at-3 : goal.bounds-store-at-3
bounds-store-at-3 c = simp length-set (search rules)

pub bounds-store-at-4 : goal.bounds-store-at-4
bounds-store-at-4 c = simp length-set (search rules)

pub bounds-store-at-5 : goal.bounds-store-at-5
bounds-store-at-5 c = simp length-set (search rules)

pub bounds-store-at-6 : goal.bounds-store-at-6
bounds-store-at-6 c = simp length-set (search rules)

pub shape_of-store : goal.shape_of-store
shape_of-store c = simp length-set refl

pub returns : goal.returns
returns c = marked c.args.d c.dispatcher_at.result c.requires.0 c.dispatcher_at.ensures c.args.k c.requires.1 c.args.mark
