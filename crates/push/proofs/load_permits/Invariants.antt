-- The loop of `load_permits`: the permits up to i are the consumers', those from i on as they were.
use mathlib.Core.Path.{◌≡◌}
use mathlib.Core.List.{◌++◌}
use lib.ListN.{take, drop}
use Rattle.layout.specs.Layout.{decode}
use Rattle.push_laws.specs.Whole.{permits_now}
use Rattle.push.proofs.load_permits.Given as goal

abbrev pub invariant-loop-i : goal.invariant-loop-i
invariant-loop-i l = l.list ≡ take l.i (permits_now (decode l.store)) ++ drop l.i l.initial.list
