-- The words are those of the entry with the words from i on moved.
use mathlib.Core.Path.{◌≡◌}
use Prim.Native.Nat.{◌≤◌, ◌-◌}
use lib.ListN.{length}
use Rattle.words.specs.Act.{up}
use Rattle.store.proofs.movers.open_gap.Given as goal

abbrev pub invariant-loop-i : goal.invariant-loop-i
invariant-loop-i l =
    (l.i ≤ length l.initial.words - l.width)
    × (l.words ≡ (up l.width (length l.initial.words - l.width - l.i)).run l.i l.initial.words)
