-- Demand 3, proved for every list of calls that it speaks of, and the balance check after such a list.
use mathlib.Core.Path.{◌≡◌}
use mathlib.Core.Bool.{Bool, true, false}
use mathlib.Core.List.{List, Memᴰ}
use Prim.Native.Nat.{ℕ}
use Rattle.rules.specs.State.{Dispatcher}
use Rattle.rules.specs.Dispatcher.{balance_check}
use Rattle.rules.specs.Calls.{Call}
use Rattle.rules.specs.Demand.{at_opening, after_calls, never_replaces, Demand3}
use Rattle.rules.proofs.Demand.Calls.{history_keeps}
use Rattle.rules.proofs.Demand.Accounted.{accounted}
use Rattle.rules.proofs.Demand.Balance.{balance_check_is_total}
pub mod Invariant
pub mod Known
pub mod Sums
pub mod Changes
pub mod Outcomes
pub mod Marks
pub mod Append
pub mod Subscribe
pub mod Flow
pub mod Ack
pub mod Seek
pub mod Redeliver
pub mod Close
pub mod Handed
pub mod Turn
pub mod Push
pub mod Calls
pub mod Accounted
pub mod Balance
pub mod Needed

-- demand 3
pub demand_3 : Demand3
unfolding Demand3
demand_3 e noop calls low high never = accounted (after_calls (at_opening e false noop) calls) (history_keeps e noop calls never)

-- after every such list the balance check of every dispatcher is its total
pub balance_checks : (e : ℕ) (noop : Bool) (calls : List Call) → never_replaces (at_opening e false noop) calls ≡ true
    → (d : Dispatcher) → Memᴰ d (after_calls (at_opening e false noop) calls).state.dispatchers
    → balance_check (after_calls (at_opening e false noop) calls).state d ≡ d.total_available_permits
balance_checks e noop calls never =
    balance_check_is_total (after_calls (at_opening e false noop) calls).state
    (after_calls (at_opening e false noop) calls).book (history_keeps e noop calls never)
