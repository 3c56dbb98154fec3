-- The list keeps its 832 words, so that there is room for each record.
use Rattle.std.proofs.Common.{◌≡◌, ◌≤◌, length}
use Rattle.cases_twin.specs.Twin.{written_back}
use Rattle.cases_twin.proofs.write_back.Given as goal

abbrev pub invariant-loop-i : goal.invariant-loop-i
invariant-loop-i l = record { long : length l.list ≡ 832; within : l.i ≤ l.n; written : l.list ≡ written_back l.records l.i l.initial.list }
