-- `player::play` meets its contract: every turn leaves the place in its ranges.
use native.Mathlib.Omega.{arith}
use Rattle.player.proofs.Places.{next_place}
use Rattle.player.proofs.play.Goals as goal

pub loop-turns-init : goal.loop-turns-init
loop-turns-init g c =
    (c.requires, record { order = omega arith; inside = omega arith; space = omega arith }, omega arith)

pub turn-requires : goal.turn-requires
turn-requires g c =
    let i = c.loop-turns.invariant in
    let more = c.loop-turns-test.true in (i.0, i.1, omega (arith, i.2, more))

pub loop-turns-preserved : goal.loop-turns-preserved
loop-turns-preserved g c =
    let i = c.loop-turns.invariant in
    let p = next_place _ c.turn.ensures.1 c.in-Some.is in
    (c.turn.ensures.0, p.0, omega (arith, i.2, p.1))
