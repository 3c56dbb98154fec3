-- What was counted and what is left make the whole; the measure is what is left.
use Rattle.std.proofs.Common.{◌≡◌, ◌+◌, ◌≤◌, length}
use Rattle.row.specs.Script.{script_calls}
use Rattle.row_script.specs.Counted.{counted}
use Rattle.row_script.proofs.count_calls.Given as goal

abbrev pub invariant-loop-rest : goal.invariant-loop-rest
invariant-loop-rest l = record {
  few : l.calls + length l.rest ≤ length l.script;
  rest : counted l.calls (script_calls l.rest) ≡ counted 0 (script_calls l.script);
}

abbrev pub decreases-loop-rest : goal.decreases-loop-rest
decreases-loop-rest l = length l.rest
