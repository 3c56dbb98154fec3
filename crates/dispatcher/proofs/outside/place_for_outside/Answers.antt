-- `dispatcher::outside::place_for_outside` meets its contract: the ids are looked at one by one.
use mathlib.Core.Path.{◌≡◌, ◌∙◌}
use borrow.Author.Rules.{rules}
use Rattle.layout.specs.Layout.{decode}
use Rattle.layout.specs.Fields.{zero_id, dispatcher_nth}
use Rattle.store.specs.Found.{found}
use Rattle.store.proofs.Founds.{first_found, found_or_count}
use Rattle.message_id.proofs.Orders.{below_is}
use Rattle.dispatcher.specs.Outside.{by_order}
use Rattle.dispatcher.proofs.outside.place_for_outside.Goals as goal

pub returns : goal.returns
returns c =
    let i = c.args.id in
    let l = (dispatcher_nth (decode c.args.store.now) c.args.d).outside in
    let f : c.first_row.result ≡ found by_order i l = first_found by_order i l zero_id _ c.first_row.ensures c.outside_count-n.ensures (λ k b h p. search (rules, below_is)) in
    c.unwrap_or.ensures ∙ found_or_count by_order i l f c.outside_count-n.ensures
