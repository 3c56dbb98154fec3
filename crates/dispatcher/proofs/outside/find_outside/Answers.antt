-- `dispatcher::outside::find_outside` meets its contract: the ids are looked at one by one.
use Rattle.layout.specs.Layout.{decode}
use Rattle.layout.specs.Fields.{zero_id, dispatcher_nth}
use Rattle.store.proofs.Founds.{first_found}
use Rattle.rules.specs.State.{same_id}
use Rattle.dispatcher.specs.Outside.{by_itself}
use borrow.Author.Rules.{rules}
use Rattle.dispatcher.proofs.outside.find_outside.Goals as goal

pub returns : goal.returns
unfolding same_id
returns c =
    first_found by_itself c.args.id (dispatcher_nth (decode c.args.store.now) c.args.d).outside zero_id _ c.first_row.ensures c.outside_count.ensures
    (λ i b h p. search rules)
