-- `consumer::table::place_of` meets its contract: the consumers are looked at one by one.
use mathlib.Core.Path.{◌≡◌, ◌∙◌}
use native.Mathlib.Omega.{arith}
use borrow.Author.Rules.{rules}
use Rattle.layout.specs.Layout.{decode}
use Rattle.layout.specs.Fields.{zero_consumer}
use Rattle.layout.proofs.Placed.{consumer_in}
use Rattle.store.specs.Found.{found}
use Rattle.store.proofs.Founds.{first_found, found_or_count}
use Rattle.operation_laws.specs.Place.{by_above}
use Rattle.consumer.proofs.table.place_of.Goals as goal

pub first_row-requires : goal.first_row-requires
first_row-requires c = λ i h. let k = consumer_in c.requires i (let n = c.consumer_count-n.ensures in omega arith) in search rules

pub returns : goal.returns
returns c =
    let l = (decode c.args.store.now).consumers in
    let f : c.first_row.result ≡ found by_above c.args.id l =
    first_found by_above c.args.id l zero_consumer _ c.first_row.ensures c.consumer_count-n.ensures (λ i b h p. search rules) in
    c.unwrap_or.ensures ∙ found_or_count by_above c.args.id l f c.consumer_count-n.ensures
