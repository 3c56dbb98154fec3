-- `dispatcher::flight::append_flight` meets its contract: what is done to a list.
use mathlib.Core.Path.{ap, ◌∙◌}
use mathlib.Core.List.{[], ◌∷◌}
use native.Mathlib.Omega.{arith}
use Rattle.store.specs.declared.counted.Counted.{Counted}
use Rattle.store.specs.Counted.{with_last}
use Rattle.dispatcher.proofs.Lists.{flight_inside, flight_size, flight_with}
use Rattle.dispatcher.proofs.flight.append_flight.Goals as goal

pub push-requires : goal.push-requires
push-requires c =
    let n = flight_size c.args.d c.requires.0 in
    let l = c.requires.1 in
    let f = c.requires.0.inside in
    let g = c.requires.0.canon.long in
    rw c.flight_list.ensures (omega arith, (flight_inside c.args.d c.requires.0, omega arith, omega arith))

pub returns : goal.returns
returns c =
    c.push.ensures ∙ ap (λ (l : Counted). with_last l (c.args.id ∷ c.args.k ∷ []) c.args.store.now) c.flight_list.ensures ∙ flight_with c.args.d c.requires.0 c.args.id c.args.k c.requires.1
