-- `consumer::nacked::nacked_count` meets its contract: the size of a list.
use mathlib.Core.Path.{ap, ◌∙◌}
use Rattle.store.specs.declared.counted.Counted.{Counted}
use Rattle.store.specs.Counted.{size}
use Rattle.consumer.proofs.Lists.{nacked_inside, nacked_size}
use Rattle.consumer.proofs.nacked.nacked_count.Goals as goal

pub count-requires : goal.count-requires
count-requires c = rw c.nacked_list.ensures (nacked_inside c.args.i c.requires)

pub returns : goal.returns
returns c = c.count.ensures ∙ ap (λ (l : Counted). size l c.args.store.now) c.nacked_list.ensures ∙ nacked_size c.args.i c.requires
