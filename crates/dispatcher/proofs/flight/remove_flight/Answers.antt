-- `dispatcher::flight::remove_flight` meets its contract: what is done to a list.
use mathlib.Core.Path.{ap, ◌∙◌}
use native.Mathlib.Omega.{arith}
use Rattle.store.specs.declared.counted.Counted.{Counted}
use Rattle.store.specs.Counted.{without}
use Rattle.dispatcher.proofs.Lists.{flight_inside, flight_size, flight_without}
use Rattle.dispatcher.proofs.flight.remove_flight.Goals as goal

pub remove-requires : goal.remove-requires
remove-requires c =
    let n = flight_size c.args.d c.requires.0 in
    let l = c.requires.1 in
    rw c.flight_list.ensures (flight_inside c.args.d c.requires.0, omega arith)

pub returns : goal.returns
returns c =
    c.remove.ensures ∙ ap (λ (l : Counted). without l c.args.j c.args.store.now) c.flight_list.ensures ∙ flight_without c.args.d c.requires.0 c.args.j c.requires.1
