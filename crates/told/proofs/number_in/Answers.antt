-- `told::number_in` meets its contract: it is the definition.
use mathlib.Core.Path.{refl}
use Rattle.rules.specs.Calls.{number_in}
use Rattle.told.proofs.number_in.Goals as goal

pub returns : goal.returns
unfolding number_in
returns c = refl
