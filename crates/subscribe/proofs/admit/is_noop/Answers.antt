-- `subscribe::admit::is_noop` meets its contract: the switch word is 1.
use mathlib.Core.Path.{ap, ◌∙◌}
use Prim.Native.Nat.{ℕ}
use lib.Dec.{eqb}
use Rattle.layout.proofs.Gets.{read_noop}
use Rattle.dispatcher.proofs.Loads.{bit_set}
use Rattle.subscribe.proofs.admit.is_noop.Goals as goal

pub returns : goal.returns
returns c = ap (λ (w : ℕ). eqb w 1) (read_noop c.requires) ∙ bit_set _
