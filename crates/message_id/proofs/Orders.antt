-- What `<` and `<=` of ids say, in the rules' words. (`==` says it by its definition.)
use mathlib.Core.Path.{◌≡◌}
use native.Mathlib.Omega.{arith}
use Rattle.std.proofs.lemmas.Bool.Decides.{nat_tests}
use Rattle.std.specs.Ordering.{partial_lt, partial_le}
use Rattle.rules.specs.State.{Id}
use Rattle.rules.specs.Ledger.{at_or_after, after_id}
use Rattle.message_id.specs.contracts.IdPartialOrd.TheImpl as order

-- an id is at most another where the other is it or a greater one
pub upto_is : (a b : Id) → partial_le (order.partial_cmp-value).it a b ≡ at_or_after b a
unfolding at_or_after
upto_is a b = grind (arith, nat_tests)

-- an id is below another where the other comes after it
pub below_is : (a b : Id) → partial_lt (order.partial_cmp-value).it a b ≡ after_id b a
unfolding after_id
below_is a b = grind (arith, nat_tests)
