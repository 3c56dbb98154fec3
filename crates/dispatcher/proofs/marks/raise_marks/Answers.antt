-- `dispatcher::marks::raise_marks` meets its contract: what is done to a list.
use mathlib.Core.Path.{ap, ◌∙◌}
use native.Mathlib.Omega.{arith}
use Rattle.store.specs.declared.counted.Counted.{Counted}
use Rattle.store.specs.Counted.{one_more}
use Rattle.dispatcher.proofs.Lists.{mark_inside, mark_size, mark_more}
use Rattle.dispatcher.proofs.marks.raise_marks.Goals as goal

pub raise-requires : goal.raise-requires
raise-requires c =
    let n = mark_size c.args.d c.requires.0 in
    let l = c.requires.1 in
    let g = c.requires.0.canon.long in
    rw c.mark_list.ensures (mark_inside c.args.d c.requires.0, omega arith)

pub returns : goal.returns
returns c =
    c.raise.ensures ∙ ap (λ (l : Counted). one_more l c.args.store.now) c.mark_list.ensures ∙ mark_more c.args.d c.requires.0 c.requires.1
