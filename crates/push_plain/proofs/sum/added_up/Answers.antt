-- `push_plain::sum::added_up` meets its contract: each number joins the sum of those before it.
use Rattle.std.proofs.Common.{arith}
use Rattle.push_plain.proofs.Adding.{added_first, added_on}
use Rattle.push_plain.proofs.sum.added_up.Goals as goal

pub loop-i-init : goal.loop-i-init
loop-i-init g c = record { added = added_first _; small = omega arith }

pub loop-i-preserved : goal.loop-i-preserved
loop-i-preserved g c =
    let v = c.loop-i.invariant.small in
    let h = c.requires.small c.loop-i.i c.number-sum.result c.loop-i-test.true c.number-sum.ensures in
    record {
      added = added_on _ c.loop-i.i c.loop-i.sum c.number-sum.result c.loop-i.invariant.added c.number-sum.ensures;
      small = omega (arith, v, h);
    }
