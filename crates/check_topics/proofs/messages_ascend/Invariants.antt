-- `check_topics::messages_ascend` meets its contract. The loop's invariant: the sizes before message m are right, ledger and
-- entry are the id before it, and each id up to that one is above the one before it.
use mathlib.Core.Path.{◌≡◌}
use mathlib.Core.Bool.{true}
use Prim.Native.Nat.{◌-◌}
use Rattle.check_rows.specs.Below.{each_below}
use Rattle.check_rows.specs.Rows.{row, row_second, two_ascends}
use Rattle.check_topics.specs.Orders.{batch_right}
use Rattle.check_topics.proofs.messages_ascend.Given as goal

abbrev pub invariant-loop-m : goal.invariant-loop-m
invariant-loop-m l =
    (l.ledger ≡ row l.store l.first 4 (l.m - 1)) × (l.entry ≡ row_second l.store l.first 4 (l.m - 1))
    × (each_below (batch_right l.store l.first) l.m ≡ true) × (each_below (two_ascends l.store l.first 4) (l.m - 1) ≡ true)
