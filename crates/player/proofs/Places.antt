-- What a step and a turn tell of the player's next place.
use Prim.Native.Nat.{ℕ, ◌+◌, ◌-◌, ◌≤◌}
use mathlib.Core.Path.{◌≡◌, subst}
use mathlib.Core.List.{List}
use native.Mathlib.Omega.{arith}
use Rattle.std.proofs.Common.{Option, None, Some}
use lib.ListN.{length, take, drop, length-drop}
use lib.Seq.{length-take-le}
use Rattle.trace_lines.specs.Told.{lines_bytes}
use Rattle.trace_step.specs.declared.Did.TheVariants as done
use Rattle.trace_step.specs.Stepped.{Within}
use Rattle.player.specs.declared.place.Place as place
use Rattle.player.specs.Places.{held_bytes, out_bytes, Placed, GoesOn, WentOn}

-- the length of a part
part_length : (l : List ℕ) (from to : ℕ) → from ≤ to → to ≤ length l → length (take (to - from) (drop from l)) ≡ to - from
part_length l from to h g = let d = length-drop from l in length-take-le (to - from) (drop from l) (omega arith)

-- a step that went on took what lies in the part held, and wrote what it may
pub went_within : {size written : ℕ} (l : List ℕ) (from to : ℕ) → from ≤ to → to ≤ length l
    → Within (length (take (to - from) (drop from l))) (done.Went size written) → (size ≤ to - from) × (written ≤ lines_bytes)
unfolding Within
went_within l from to h g w = let e = part_length l from to h g in (omega (arith, w.0, e), w.1)

-- and one that was bad wrote what it may
pub bad_within : {written : ℕ} (n : ℕ) → Within n (done.Bad written) → written ≤ lines_bytes
unfolding Within
bad_within n h = h

-- which finds room behind the lines that are kept
pub kept : (n filled written : ℕ) → n ≡ out_bytes → filled + lines_bytes ≤ out_bytes → written ≤ lines_bytes → filled + written ≤ n
kept n filled written e h w = omega arith

-- after a step the player goes on
pub goes_on : (next : place.Place) (before : ℕ) (r : Option place.Place) → next.from ≤ next.to → next.to ≤ held_bytes → next.number ≤ before + 1
    → WentOn next r → GoesOn before r
unfolding WentOn GoesOn
goes_on next before (Some p) h g k w =
    let a = w.0 in
    let b = w.1 in
    let c = w.2 in (record { order = omega arith; inside = omega arith; space = w.3 }, omega arith)
goes_on next before None h g k w = tt

-- the place of a turn that goes on
pub next_place : {r : Option place.Place} {p : place.Place} (number : ℕ) → GoesOn number r → r ≡ Some p
    → Placed p × (p.number ≤ number + 1)
unfolding GoesOn
next_place number h e = subst (GoesOn number) e h
