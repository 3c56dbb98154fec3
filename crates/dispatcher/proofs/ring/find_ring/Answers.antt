-- `dispatcher::ring::find_ring` meets its contract: the ring ids are looked at one by one.
use Rattle.layout.specs.Layout.{decode}
use Rattle.layout.specs.Fields.{dispatcher_nth}
use Rattle.store.proofs.Founds.{first_found}
use Rattle.dispatcher.specs.Held.{by_value}
use borrow.Author.Rules.{rules}
use Rattle.dispatcher.proofs.ring.find_ring.Goals as goal

pub returns : goal.returns
returns c =
    first_found by_value c.args.id (dispatcher_nth (decode c.args.store.now) c.args.d).attached 0 _ c.first_row.ensures c.ring_count.ensures
    (λ i b h p. search rules)
