-- The count and what is ahead make up the whole.
use Rattle.std.proofs.Common.{◌≡◌, ◌+◌, length}
use Rattle.groups.specs.Lent.{groups_in}
use Rattle.rules.specs.State.{ledger_of}
use Rattle.layout.specs.Layout.{decode}
use Rattle.layout.specs.Fields.{dispatcher_nth}
use Rattle.ack.specs.NewIds.{new_count}
use Rattle.ack.proofs.outside_ids.new_ids.Given as goal

abbrev pub invariant-loop-group : goal.invariant-loop-group
invariant-loop-group l =
    l.count + new_count (ledger_of (decode l.store) l.topic) (dispatcher_nth (decode l.store) l.d).outside (groups_in l.left)
    ≡ new_count (ledger_of (decode l.store) l.topic) (dispatcher_nth (decode l.store) l.d).outside (groups_in l.groups)

abbrev pub decreases-loop-group : goal.decreases-loop-group
decreases-loop-group l = length (groups_in l.left)
