-- Every row of the readings K1 to K12 and of the worked histories comes out as it must, by computation.
use mathlib.Core.Path.{◌≡◌, refl}
use mathlib.Core.List.{map}
use Rattle.rules.specs.Readings.{Row, readings}
use Rattle.rules.specs.Histories.{histories}
use Rattle.rules.proofs.Computes.{computes}

-- K1 to K12
pub readings_hold : map (λ (r : Row). r.comes_out) readings ≡ map (λ (r : Row). r.must) readings
unfolding computes
readings_hold = refl

-- the worked histories
pub histories_hold : map (λ (r : Row). r.comes_out) histories ≡ map (λ (r : Row). r.must) histories
unfolding computes
histories_hold = refl
