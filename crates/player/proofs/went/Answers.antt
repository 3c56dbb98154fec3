-- `player::went` meets its contract: all lines are printed, or there is room for more.
use Rattle.std.proofs.Common.{refl, arith}
use Rattle.player.specs.Places.{WentOn}
use Rattle.player.proofs.went.Goals as goal

pub returns-in_err-ok : goal.returns-in_err-ok
unfolding WentOn
returns-in_err-ok g c = rw c.from_residual.ensures tt

pub returns-then-place-lt-LINES_BYTES : goal.returns-then-place-lt-LINES_BYTES
unfolding WentOn
returns-then-place-lt-LINES_BYTES g c = (refl, refl, refl, omega arith)

pub returns : goal.returns
unfolding WentOn
returns g c = (refl, refl, refl, omega arith)
