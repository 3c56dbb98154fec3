-- `dispatcher::flight::keep_flight` meets its contract: what is done to a list.
use mathlib.Core.Path.{ap, ◌∙◌}
use native.Mathlib.Omega.{arith}
use Rattle.store.specs.declared.counted.Counted.{Counted}
use Rattle.store.specs.Counted.{cut_to}
use Rattle.dispatcher.proofs.Lists.{flight_inside, flight_size, flight_cut}
use Rattle.dispatcher.proofs.flight.keep_flight.Goals as goal

pub cut-requires : goal.cut-requires
cut-requires c =
    let n = flight_size c.args.d c.requires.0 in
    let l = c.requires.1 in
    rw c.flight_list.ensures (flight_inside c.args.d c.requires.0, omega arith)

pub returns : goal.returns
returns c =
    c.cut.ensures ∙ ap (λ (l : Counted). cut_to l c.args.n c.args.store.now) c.flight_list.ensures ∙ flight_cut c.args.d c.requires.0 c.args.n c.requires.1
