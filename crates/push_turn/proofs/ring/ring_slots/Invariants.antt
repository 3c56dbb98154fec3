-- The loop of `ring_slots`: the first j places are written, the others as they were.
use mathlib.Core.Path.{◌≡◌}
use Prim.Native.Nat.{ℕ}
use Rattle.rules.specs.State.{by_id}
use Rattle.layout.specs.Layout.{decode}
use Rattle.layout.specs.Fields.{dispatcher_nth}
use Rattle.store.specs.Find.{slot}
use Rattle.push_turn.proofs.Slots.{written}
use Rattle.push_turn.proofs.ring.ring_slots.Given as goal

abbrev pub invariant-loop-j : goal.invariant-loop-j
invariant-loop-j l =
    l.ring ≡ written (λ (i : ℕ). slot by_id i (decode l.store).consumers) (dispatcher_nth (decode l.store) l.d).attached l.initial.ring l.j
