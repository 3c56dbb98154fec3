-- `check_state::stamps::Stamps::advance` meets its contract: no stamp was above the one before.
use mathlib.Core.Path.{refl}
use Rattle.check_state.proofs.stamps.Stamps.advance.Goals as goal

pub returns : goal.returns
returns c = (refl, c.args.self.now.under)
