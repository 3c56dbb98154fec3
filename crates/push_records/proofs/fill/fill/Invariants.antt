-- The loop of `fill`: the first `i` records are those of the flat words, the later ones as they were.
use Rattle.std.proofs.Common.{◌≡◌}
use Rattle.push_records.proofs.Partway.{partway}
use Rattle.push_records.proofs.fill.fill.Given as goal

abbrev pub invariant-loop-i : goal.invariant-loop-i
invariant-loop-i l = l.list ≡ partway l.flat l.fn.list l.i
