-- `dispatcher::ring::append_ring` meets its contract: what is done to a list.
use mathlib.Core.Path.{ap, ◌∙◌}
use mathlib.Core.List.{[], ◌∷◌}
use native.Mathlib.Omega.{arith}
use Rattle.store.specs.declared.counted.Counted.{Counted}
use Rattle.store.specs.Counted.{with_last}
use Rattle.dispatcher.proofs.Lists.{ring_inside, ring_size, ring_with}
use Rattle.dispatcher.proofs.ring.append_ring.Goals as goal

pub push-requires : goal.push-requires
push-requires c =
    let n = ring_size c.args.d c.requires.0 in
    let l = c.requires.1 in
    let f = c.requires.0.inside in
    let g = c.requires.0.canon.long in
    rw c.ring_list.ensures (omega arith, (ring_inside c.args.d c.requires.0, omega arith, omega arith))

pub returns : goal.returns
returns c =
    c.push.ensures ∙ ap (λ (l : Counted). with_last l (c.args.id ∷ []) c.args.store.now) c.ring_list.ensures ∙ ring_with c.args.d c.requires.0 c.args.id c.requires.1
