-- `dispatcher::queue::drop_queue` meets its contract: what is done to a list.
use mathlib.Core.Path.{ap, ◌∙◌}
use native.Mathlib.Omega.{arith}
use Rattle.store.specs.declared.counted.Counted.{Counted}
use Rattle.store.specs.Counted.{without_first}
use Rattle.dispatcher.proofs.Places.{dropped_none}
use Rattle.dispatcher.proofs.Lists.{queue_inside, queue_size, queue_without}
use Rattle.dispatcher.proofs.queue.drop_queue.Goals as goal

pub drop_first-requires : goal.drop_first-requires
drop_first-requires c =
    let n = queue_size c.args.d c.requires.0 in
    let l = c.requires.1 in
    rw c.queue_list.ensures (queue_inside c.args.d c.requires.0, omega arith)

pub returns : goal.returns
returns c =
    c.drop_first.ensures ∙ ap (λ (l : Counted). without_first l c.args.n c.args.store.now) c.queue_list.ensures ∙ queue_without c.args.d c.requires.0 c.args.n c.requires.1

pub returns-then-n-eq0 : goal.returns-then-n-eq0
returns-then-n-eq0 c = dropped_none c.args.d c.args.n c.requires.0 c.if-n-eq0.true
