-- `push::bound::most_due` meets its contract: the two sums are small.
use native.Mathlib.Omega.{arith}
use Rattle.layout.specs.Layout.{decode}
use Rattle.push.proofs.Most.{most_small}
use Rattle.push.proofs.bound.most_due.Goals as goal

pub overflow_add-result : goal.overflow_add-result
overflow_add-result c =
    let f = most_small (decode c.args.store.now) c.requires.shaped in
    let a = c.waiting_shared.ensures in
    let b = c.waiting_plain.ensures in
    omega (arith, f, a, b)
