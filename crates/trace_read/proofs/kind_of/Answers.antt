-- `trace_read::kind_of` meets its contract: a whole record has its kind in front.
use native.Mathlib.Omega.{arith}
use Rattle.trace.specs.Format.{record_in}
use Rattle.trace.proofs.Format.{whole}
use Rattle.trace_read.proofs.kind_of.Goals as goal

pub bounds-bytes-0 : goal.bounds-bytes-0
bounds-bytes-0 c = omega (arith, whole _ _ c.requires)

pub returns : goal.returns
unfolding record_in
returns c = c.from.ensures
