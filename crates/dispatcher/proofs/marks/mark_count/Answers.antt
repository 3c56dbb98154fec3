-- `dispatcher::marks::mark_count` meets its contract: the size of a list.
use mathlib.Core.Path.{ap, ◌∙◌}
use Rattle.store.specs.declared.counted.Counted.{Counted}
use Rattle.store.specs.Counted.{size}
use Rattle.dispatcher.proofs.Lists.{mark_inside, mark_size}
use Rattle.dispatcher.proofs.marks.mark_count.Goals as goal

pub count-requires : goal.count-requires
count-requires c = rw c.mark_list.ensures (mark_inside c.args.d c.requires)

pub returns : goal.returns
returns c = c.count.ensures ∙ ap (λ (l : Counted). size l c.args.store.now) c.mark_list.ensures ∙ mark_size c.args.d c.requires
