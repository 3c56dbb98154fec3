-- `Head::dispatched` meets its contract: the subtraction has its room by the `requires`, and the result is the record that `Moves.dispatched` says, by definition.
use Rattle.std.proofs.Common.{refl}
use Rattle.head.specs.Moves.{dispatched}
use Rattle.head.proofs.Head.dispatched.Goals as goal

pub returns : goal.returns
unfolding dispatched
returns c = refl
