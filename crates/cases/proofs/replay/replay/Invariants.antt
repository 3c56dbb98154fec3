-- The store keeps its length.
use mathlib.Core.Path.{◌≡◌}
use lib.ListN.{length}
use Rattle.cases.proofs.replay.replay.Given as goal

abbrev pub invariant-loop-turns : goal.invariant-loop-turns
invariant-loop-turns g l = 8192 ≡ length l.store
