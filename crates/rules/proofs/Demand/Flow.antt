-- Flow: a shared consumer, its dispatcher and its account gain the grant together.
use Prim.Native.Nat.{ℕ, ◌+◌, ◌≤◌}
use mathlib.Core.Path.{◌≡◌}
use mathlib.Core.List.{[]}
use mathlib.Core.Option.{some}
use native.Mathlib.Omega.{arith}
use Rattle.rules.specs.Permits.{least_permits}
use Rattle.rules.specs.State.{Consumer, State, consumer_of, dispatcher, put_consumer, put_dispatcher}
use Rattle.rules.specs.State.Kind.{plain, shared}
use Rattle.rules.specs.Dispatcher.{with_total}
use Rattle.rules.specs.Commands.{with_permits, flow}
use Rattle.rules.specs.Calls.Call.{Flow}
use Rattle.rules.specs.Book.{Book, enter_done, enter_flow, records_of}
use Rattle.rules.proofs.State.{consumer_id}
use Rattle.rules.proofs.Demand.Invariant.{Invariant}
use Rattle.rules.proofs.Demand.Known.{known, known_plain}
use Rattle.rules.proofs.Demand.Changes.{reconsumed, same_plain, charged}
use Rattle.rules.proofs.Demand.Outcomes.{Keeps, keeps_guard, keeps_live, keeps_kind}

module _ (s : State) (b : Book) (h : Invariant s b) (i grant : ℕ) (c : Consumer) (e : consumer_of s i ≡ some c) where
  -- a plain consumer gains the grant alone
  flow_plain : c.kind ≡ plain → Invariant (put_consumer s (with_permits c (c.permits + grant))) (enter_done b (Flow i grant) [])
  unfolding enter_done enter_flow with_permits
  flow_plain k =
      rw (known_plain s b h i c e k)
      (reconsumed s b h i c (with_permits c (c.permits + grant)) e (consumer_id s i c e) (same_plain c (with_permits c (c.permits + grant)) k k))

  -- a shared one with its dispatcher
  flow_shared : c.kind ≡ shared
      → Invariant
      (put_dispatcher (put_consumer s (with_permits c (c.permits + grant)))
      (with_total (dispatcher s c.pair) ((dispatcher s c.pair).total_available_permits + grant)))
      (enter_done b (Flow i grant) [])
  unfolding enter_done enter_flow
  flow_shared k =
      let a = known s b h i c e k in
      let l : least_permits ≤ c.permits + grant = omega (arith, a.least) in
      rw a.who_is
      (charged s b h i c e k a (c.permits + grant) ((dispatcher s c.pair).total_available_permits + grant) (a.grants + grant) a.costs
      (omega (arith, a.balanced)) l (omega arith))

-- flow keeps the invariant
pub flow_keeps : (s : State) (b : Book) → Invariant s b → (i grant : ℕ) → Keeps s b (Flow i grant) (flow s i grant)
unfolding flow records_of
flow_keeps s b h i grant =
    keeps_live s b h (Flow i grant) i _ (λ c e.
    keeps_guard s b h (Flow i grant) _ 9 _ (λ t.
    keeps_kind s b h (Flow i grant) c.kind _ _ (flow_plain s b h i grant c e)
    (λ k. keeps_guard s b h (Flow i grant) _ 9 _ (λ u. flow_shared s b h i grant c e k))))
