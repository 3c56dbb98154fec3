-- `dispatcher::flight::find_hold` meets its contract: the entries in flight are looked at one by one.
use Rattle.rules.specs.Dispatcher.{is_hold}
use Rattle.layout.specs.Layout.{decode}
use Rattle.layout.specs.Fields.{zero_held, dispatcher_nth}
use Rattle.store.proofs.Founds.{first_found}
use Rattle.dispatcher.specs.Held.{held_of, by_hold}
use borrow.Author.Rules.{rules}
use Rattle.dispatcher.proofs.flight.find_hold.Goals as goal

pub returns : goal.returns
unfolding is_hold
returns c =
    first_found by_hold (held_of c.args.id c.args.k) (dispatcher_nth (decode c.args.store.now) c.args.d).in_flight zero_held _ c.first_row.ensures c.flight_count.ensures
    (λ i b h p. search rules)
