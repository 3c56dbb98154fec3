-- `Head::advanced` meets its contract: the result is the record that `Moves.advanced` says, field by field, by definition.
use Rattle.std.proofs.Common.{refl}
use Rattle.head.specs.Moves.{advanced}
use Rattle.head.proofs.Head.advanced.Goals as goal

pub returns : goal.returns
unfolding advanced
returns c = refl
