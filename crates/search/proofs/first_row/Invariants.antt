-- `search::first_row`. The loop's invariant: none of the rows before i passes.
use Rattle.std.proofs.Common.{ℕ, ◌<◌, false}
use Rattle.search.proofs.first_row.Given as goal

abbrev pub invariant-loop-i : goal.invariant-loop-i
invariant-loop-i g l = (k : ℕ) → k < l.i → goal.F-post g l.passes k false
