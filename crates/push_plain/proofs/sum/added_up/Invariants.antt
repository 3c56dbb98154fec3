-- The loop of `added_up`: the numbers of the rows before i are added up, and their sum is small.
use Rattle.std.proofs.Common.{ℕ, ◌*◌, ◌≤◌}
use Rattle.push_plain.specs.Sum.{AddedUp}
use Rattle.push_plain.proofs.sum.added_up.Given as goal

abbrev pub invariant-loop-i : goal.invariant-loop-i
invariant-loop-i g l = record { added : AddedUp (λ (i r : ℕ). goal.F-post g l.number i r) l.i l.sum; small : l.sum ≤ l.i * 8192 }
