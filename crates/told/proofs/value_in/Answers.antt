-- `told::value_in` meets its contract: it is the definition.
use mathlib.Core.Path.{refl}
use Rattle.rules.specs.Calls.{value_in}
use Rattle.told.proofs.value_in.Goals as goal

pub returns : goal.returns
unfolding value_in
returns c = refl
