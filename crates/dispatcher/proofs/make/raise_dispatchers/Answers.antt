-- `dispatcher::make::raise_dispatchers` meets its contract: what is done to a list.
use mathlib.Core.Path.{ap, ◌∙◌}
use native.Mathlib.Omega.{arith}
use Rattle.store.specs.declared.counted.Counted.{Counted}
use Rattle.store.specs.Counted.{one_more}
use Rattle.dispatcher.proofs.Lists.{dispatcher_inside, dispatcher_size, dispatcher_more}
use Rattle.dispatcher.proofs.make.raise_dispatchers.Goals as goal

pub raise-requires : goal.raise-requires
raise-requires c =
    let n = dispatcher_size c.requires.0 in
    let l = c.requires.1 in
    let g = c.requires.0.long in
    rw c.dispatcher_list.ensures (dispatcher_inside c.requires.0, omega arith)

pub returns : goal.returns
returns c =
    c.raise.ensures ∙ ap (λ (l : Counted). one_more l c.args.store.now) c.dispatcher_list.ensures ∙ dispatcher_more c.requires.0 c.requires.1
