-- `dispatcher::table::find_dispatcher` meets its contract: the dispatchers are looked at one by one.
use native.Mathlib.Omega.{arith}
use Rattle.rules.specs.State.{by_pair}
use Rattle.layout.specs.Layout.{decode}
use Rattle.layout.specs.Fields.{zero_dispatcher}
use Rattle.layout.proofs.Placed.{dispatcher_in}
use Rattle.store.proofs.Founds.{first_found}
use borrow.Author.Rules.{rules}
use Rattle.dispatcher.specs.Pairs.{pair_in}
use Rattle.dispatcher.proofs.table.find_dispatcher.Goals as goal

pub first_row-requires : goal.first_row-requires
first_row-requires c = λ d h. let k = dispatcher_in c.requires d (let n = c.dispatcher_count.ensures in omega arith) in search rules

pub returns : goal.returns
returns c =
    first_found by_pair (pair_in c.args.pair) (decode c.args.store.now).dispatchers zero_dispatcher _ c.first_row.ensures c.dispatcher_count.ensures
    (λ i b h p. search rules)
