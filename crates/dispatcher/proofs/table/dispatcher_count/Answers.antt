-- `dispatcher::table::dispatcher_count` meets its contract: the size of a list.
use mathlib.Core.Path.{ap, ◌∙◌}
use Rattle.store.specs.declared.counted.Counted.{Counted}
use Rattle.store.specs.Counted.{size}
use Rattle.dispatcher.proofs.Lists.{dispatcher_inside, dispatcher_size}
use Rattle.dispatcher.proofs.table.dispatcher_count.Goals as goal

pub count-requires : goal.count-requires
count-requires c = rw c.dispatcher_list.ensures (dispatcher_inside c.requires)

pub returns : goal.returns
returns c = c.count.ensures ∙ ap (λ (l : Counted). size l c.args.store.now) c.dispatcher_list.ensures ∙ dispatcher_size c.requires
