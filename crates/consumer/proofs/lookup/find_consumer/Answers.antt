-- `consumer::lookup::find_consumer` meets its contract: the consumers are looked at one by one.
use mathlib.Core.Path.{◌≡◌}
use native.Mathlib.Omega.{arith}
use borrow.Author.Rules.{rules}
use Rattle.rules.specs.State.{by_id}
use Rattle.layout.specs.Layout.{decode}
use Rattle.layout.specs.Fields.{zero_consumer}
use Rattle.layout.proofs.Placed.{consumer_in}
use Rattle.store.specs.Found.{found}
use Rattle.store.proofs.Founds.{first_found}
use Rattle.consumer.proofs.Lookups.{lookup_rules}
use Rattle.consumer.proofs.lookup.find_consumer.Goals as goal

pub first_row-requires : goal.first_row-requires
first_row-requires c = λ i h. let k = consumer_in c.requires i (let n = c.consumer_count.ensures in omega arith) in search rules

pub returns : goal.returns
returns c =
    let s = decode c.args.store.now in
    let e : c.first_row.result ≡ found by_id c.args.id s.consumers =
    first_found by_id c.args.id s.consumers zero_consumer _ c.first_row.ensures c.consumer_count.ensures (λ i b h p. search rules) in
    record { slot = e; answer = lookup_rules s c.args.id e }
