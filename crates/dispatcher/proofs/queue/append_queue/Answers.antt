-- `dispatcher::queue::append_queue` meets its contract: what is done to a list.
use mathlib.Core.Path.{ap, ◌∙◌}
use mathlib.Core.List.{[], ◌∷◌}
use native.Mathlib.Omega.{arith}
use Rattle.store.specs.declared.counted.Counted.{Counted}
use Rattle.store.specs.Counted.{with_last}
use Rattle.dispatcher.proofs.Lists.{queue_inside, queue_size, queue_with}
use Rattle.dispatcher.proofs.queue.append_queue.Goals as goal

pub push-requires : goal.push-requires
push-requires c =
    let n = queue_size c.args.d c.requires.0 in
    let l = c.requires.1 in
    let f = c.requires.0.inside in
    let g = c.requires.0.canon.long in
    rw c.queue_list.ensures (omega arith, (queue_inside c.args.d c.requires.0, omega arith, omega arith))

pub returns : goal.returns
returns c =
    c.push.ensures ∙ ap (λ (l : Counted). with_last l (c.args.k ∷ []) c.args.store.now) c.queue_list.ensures ∙ queue_with c.args.d c.requires.0 c.args.k c.requires.1
