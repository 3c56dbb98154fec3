-- `dispatcher::ring::ring_count` meets its contract: the size of a list.
use mathlib.Core.Path.{ap, ◌∙◌}
use Rattle.store.specs.declared.counted.Counted.{Counted}
use Rattle.store.specs.Counted.{size}
use Rattle.dispatcher.proofs.Lists.{ring_inside, ring_size}
use Rattle.dispatcher.proofs.ring.ring_count.Goals as goal

pub count-requires : goal.count-requires
count-requires c = rw c.ring_list.ensures (ring_inside c.args.d c.requires)

pub returns : goal.returns
returns c = c.count.ensures ∙ ap (λ (l : Counted). size l c.args.store.now) c.ring_list.ensures ∙ ring_size c.args.d c.requires
