-- `consumer::nacked::clear_nacked` meets its contract: what is done to a list.
use mathlib.Core.Path.{ap, ◌∙◌}
use native.Mathlib.Omega.{arith}
use Rattle.store.specs.declared.counted.Counted.{Counted}
use Rattle.store.specs.Counted.{cut_to}
use Rattle.consumer.proofs.Lists.{nacked_inside, nacked_size, nacked_none}
use Rattle.consumer.proofs.nacked.clear_nacked.Goals as goal

pub cut-requires : goal.cut-requires
cut-requires c =
    let n = nacked_size c.args.i c.requires in
    rw c.nacked_list.ensures (nacked_inside c.args.i c.requires, omega arith)

pub returns : goal.returns
returns c =
    c.cut.ensures ∙ ap (λ (l : Counted). cut_to l 0 c.args.store.now) c.nacked_list.ensures ∙ nacked_none c.args.i c.requires
