-- The count and what is ahead make up the whole.
use Rattle.std.proofs.Common.{◌≡◌, ◌+◌, length}
use Rattle.groups.specs.Lent.{groups_in}
use Rattle.rules.specs.State.{ledger_of}
use Rattle.rules.specs.Commands.{found_positions}
use Rattle.layout.specs.Layout.{decode}
use Rattle.layout.specs.Fields.{consumer_nth}
use Rattle.redeliver.proofs.found.found_count.Given as goal

abbrev pub invariant-loop-group : goal.invariant-loop-group
invariant-loop-group l =
    l.count + length (found_positions (ledger_of (decode l.store) (consumer_nth (decode l.store) l.i).pair.topic) (groups_in l.group-iterator))
    ≡ length (found_positions (ledger_of (decode l.store) (consumer_nth (decode l.store) l.i).pair.topic) (groups_in l.fn.groups))
