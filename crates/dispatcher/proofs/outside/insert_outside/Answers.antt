-- `dispatcher::outside::insert_outside` meets its contract: what is done to a list.
use mathlib.Core.Path.{ap, ◌∙◌}
use borrow.Author.Rules.{rules}
use native.Mathlib.Omega.{arith}
use Rattle.layout.specs.Layout.{decode}
use Rattle.layout.specs.Fields.{dispatcher_nth}
use Rattle.store.proofs.Finding.{slot_le}
use Rattle.rules.specs.State.{Id}
use Rattle.dispatcher.specs.Outside.{by_order}
use Rattle.dispatcher.proofs.Lists.{outside_room, outside_size, outside_with}
use Rattle.dispatcher.proofs.outside.insert_outside.Goals as goal

pub insert-requires : goal.insert-requires
insert-requires c =
    let n = outside_size c.args.d c.requires.0 in
    let j = c.place_for_outside-j.ensures in
    let s = slot_le by_order c.args.id (dispatcher_nth (decode c.args.store.now) c.args.d).outside in
    rw c.outside_list.ensures (omega arith, (outside_room c.args.d c.requires.0 c.requires.1, omega arith, omega arith))

pub returns : goal.returns
returns c =
    c.insert.ensures
    ∙ rw (c.outside_list.ensures, ap (λ (i : Id). i.ledger) c.id.view_is, ap (λ (i : Id). i.entry) c.id.view_is)
    (outside_with c.args.d c.requires.0 _ c.args.id (search rules) c.requires.1)
