-- `player::wait` meets its contract: all that is kept is printed, and what is read lies behind what is held.
use Rattle.std.proofs.Common.{arith}
use Rattle.player.specs.Places.{GoesOn}
use Rattle.player.proofs.wait.Goals as goal

pub returns-in_err-ok : goal.returns-in_err-ok
unfolding GoesOn
returns-in_err-ok g c = rw c.from_residual.ensures tt

pub returns-then-got-eq0 : goal.returns-then-got-eq0
unfolding GoesOn
returns-then-got-eq0 g c = tt

pub returns : goal.returns
unfolding GoesOn
returns g c = (record { order = omega arith; inside = omega arith; space = omega arith }, omega arith)
