-- `consumer::nacked::drop_nacked` meets its contract: what is done to a list.
use mathlib.Core.Path.{ap, ◌∙◌}
use native.Mathlib.Omega.{arith}
use Rattle.store.specs.declared.counted.Counted.{Counted}
use Rattle.store.specs.Counted.{without_first}
use Rattle.consumer.proofs.Lists.{nacked_inside, nacked_size, nacked_without}
use Rattle.consumer.proofs.nacked.drop_nacked.Goals as goal

pub drop_first-requires : goal.drop_first-requires
drop_first-requires c =
    let n = nacked_size c.args.i c.requires.0 in
    let l = c.requires.1 in
    rw c.nacked_list.ensures (nacked_inside c.args.i c.requires.0, omega arith)

pub returns : goal.returns
returns c =
    c.drop_first.ensures ∙ ap (λ (l : Counted). without_first l c.args.n c.args.store.now) c.nacked_list.ensures ∙ nacked_without c.args.i c.requires.0 c.args.n c.requires.1
