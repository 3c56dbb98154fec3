-- `dispatcher::outside::outside_count` meets its contract: the size of a list.
use mathlib.Core.Path.{ap, ◌∙◌}
use Rattle.store.specs.declared.counted.Counted.{Counted}
use Rattle.store.specs.Counted.{size}
use Rattle.dispatcher.proofs.Lists.{outside_inside, outside_size}
use Rattle.dispatcher.proofs.outside.outside_count.Goals as goal

pub count-requires : goal.count-requires
count-requires c = rw c.outside_list.ensures (outside_inside c.args.d c.requires)

pub returns : goal.returns
returns c = c.count.ensures ∙ ap (λ (l : Counted). size l c.args.store.now) c.outside_list.ensures ∙ outside_size c.args.d c.requires
