-- `consumer::nacked::append_nacked` meets its contract: what is done to a list.
use mathlib.Core.Path.{ap, ◌∙◌}
use mathlib.Core.List.{[], ◌∷◌}
use native.Mathlib.Omega.{arith}
use Rattle.store.specs.declared.counted.Counted.{Counted}
use Rattle.store.specs.Counted.{with_last}
use Rattle.consumer.proofs.Lists.{nacked_inside, nacked_size, nacked_with}
use Rattle.consumer.proofs.nacked.append_nacked.Goals as goal

pub push-requires : goal.push-requires
push-requires c =
    let n = nacked_size c.args.i c.requires.0 in
    let l = c.requires.1 in
    let f = c.requires.0.inside in
    let g = c.requires.0.canon.long in
    rw c.nacked_list.ensures (omega arith, (nacked_inside c.args.i c.requires.0, omega arith, omega arith))

pub returns : goal.returns
returns c =
    c.push.ensures ∙ ap (λ (l : Counted). with_last l (c.args.k ∷ []) c.args.store.now) c.nacked_list.ensures ∙ nacked_with c.args.i c.requires.0 c.args.k c.requires.1
