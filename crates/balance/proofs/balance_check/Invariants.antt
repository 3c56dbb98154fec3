-- `balance::balance_check` meets its contract. The loop's invariant: the sum so far, with what is left of the ring,
-- is the whole; and the sum is in the range of as many consumers.
use mathlib.Core.Path.{◌≡◌}
use lib.ListN.{drop}
use Rattle.rules.specs.Dispatcher.{sum_permits, balance_check}
use Rattle.layout.specs.Layout.{decode}
use Rattle.layout.specs.Fields.{dispatcher_nth}
use Rattle.balance.proofs.Balances.{InRange}
use Rattle.balance.proofs.balance_check.Given as goal

abbrev pub invariant-loop-j : goal.invariant-loop-j
invariant-loop-j l =
    (sum_permits (decode l.store) (dispatcher_nth (decode l.store) l.d).pair l.sum (drop l.j (dispatcher_nth (decode l.store) l.d).attached) ≡ balance_check (decode l.store) (dispatcher_nth (decode l.store) l.d))
    × InRange l.sum l.j
