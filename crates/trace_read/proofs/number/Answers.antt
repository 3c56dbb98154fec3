-- `trace_read::number` meets its contract: each byte is carried on, and at the end none is left.
use Rattle.std.proofs.Common.{arith, rules}
use Rattle.trace_read.proofs.Numbers.{partly_start, room, partly_on, partly_end}
use Rattle.trace_read.proofs.number.Goals as goal

pub loop-i-init : goal.loop-i-init
loop-i-init c = partly_start _

pub overflow_mul-n : goal.overflow_mul-n
overflow_mul-n c = omega (arith, room c.loop-i.invariant (search rules) c.requires)

pub overflow_add-n : goal.overflow_add-n
overflow_add-n c = omega (arith, room c.loop-i.invariant (search rules) c.requires)

pub loop-i-preserved : goal.loop-i-preserved
loop-i-preserved c = partly_on c.loop-i.invariant (search rules) (search rules) (search rules)

pub returns : goal.returns
returns c = partly_end c.loop-i.invariant (search rules)
