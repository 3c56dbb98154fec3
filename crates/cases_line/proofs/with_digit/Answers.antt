-- The sum fits, or the largest number stands.
use native.Mathlib.Omega.{arith}
use Rattle.cases_line.specs.Line.{with_digit}
use Rattle.cases_line.proofs.with_digit.Goals as goal

pub returns : goal.returns
unfolding with_digit
returns c = omega arith
