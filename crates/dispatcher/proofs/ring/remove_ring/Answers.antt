-- `dispatcher::ring::remove_ring` meets its contract: what is done to a list.
use mathlib.Core.Path.{ap, ◌∙◌}
use native.Mathlib.Omega.{arith}
use Rattle.store.specs.declared.counted.Counted.{Counted}
use Rattle.store.specs.Counted.{without}
use Rattle.dispatcher.proofs.Lists.{ring_inside, ring_size, ring_without}
use Rattle.dispatcher.proofs.ring.remove_ring.Goals as goal

pub remove-requires : goal.remove-requires
remove-requires c =
    let n = ring_size c.args.d c.requires.0 in
    let l = c.requires.1 in
    rw c.ring_list.ensures (ring_inside c.args.d c.requires.0, omega arith)

pub returns : goal.returns
returns c =
    c.remove.ensures ∙ ap (λ (l : Counted). without l c.args.j c.args.store.now) c.ring_list.ensures ∙ ring_without c.args.d c.requires.0 c.args.j c.requires.1
