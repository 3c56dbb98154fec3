-- `dispatcher::flight::flight_count` meets its contract: the size of a list.
use mathlib.Core.Path.{ap, ◌∙◌}
use Rattle.store.specs.declared.counted.Counted.{Counted}
use Rattle.store.specs.Counted.{size}
use Rattle.dispatcher.proofs.Lists.{flight_inside, flight_size}
use Rattle.dispatcher.proofs.flight.flight_count.Goals as goal

pub count-requires : goal.count-requires
count-requires c = rw c.flight_list.ensures (flight_inside c.args.d c.requires)

pub returns : goal.returns
returns c = c.count.ensures ∙ ap (λ (l : Counted). size l c.args.store.now) c.flight_list.ensures ∙ flight_size c.args.d c.requires
