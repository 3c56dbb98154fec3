-- Under the first numbers one field more is seen.
use Rattle.std.proofs.Common.{◌≡◌}
use Rattle.wire_fields.proofs.Walks.{up_to}
use Rattle.wire_fields.proofs.pick.all_with.Given as goal

abbrev pub invariant-loop-i : goal.invariant-loop-i
invariant-loop-i g l = l.now ≡ up_to l.i l.tags l.seen l.f
