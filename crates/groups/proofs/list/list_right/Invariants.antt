-- The words that are left have the form, with as many groups as are left, exactly where the list has it.
use Rattle.std.proofs.Common.{◌-◌}
use Rattle.groups.proofs.Forms.{Formed}
use Rattle.groups.proofs.list.list_right.Given as goal

abbrev pub invariant-loop : goal.invariant-loop
invariant-loop l = Formed l.list l.rest (64 - l.counter)
