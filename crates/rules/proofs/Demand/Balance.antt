-- The balance check of document 01: wherever the invariant holds, the permits of a dispatcher's ring add up to its total.
-- A consumer's permits are at least -255 and a ring has at most 32 ids, so that no partial sum is cut off at 0.
use Prim.Native.Nat.{ℕ, ◌+◌, ◌-◌, ◌*◌, ◌≤◌, ◌<◌}
use mathlib.Core.Path.{◌≡◌, sym, ap, ap₂, ◌∙◌, subst}
use mathlib.Core.Bool.{Bool, false, cond}
use mathlib.Core.List.{List, [], ◌∷◌, Memᴰ}
use mathlib.Core.Option.{some}
use native.Mathlib.Omega.{arith}
use lib.ListN.{length}
use Rattle.rules.specs.Permits.{zero_permits}
use Rattle.rules.specs.Table.{count}
use Rattle.rules.specs.State.{Pair, same_pair, Kind, by_kind, Consumer, Dispatcher, State, consumer_of, dispatcher}
use Rattle.rules.specs.State.Kind.{shared}
use Rattle.rules.specs.Dispatcher.{live_under, add_permits, sum_permits, balance_check}
use Rattle.rules.specs.Book.{Book}
use Rattle.rules.specs.Demand.{sum_over, grants_of, costs_of}
use Rattle.rules.proofs.Table.{count_append, count_self}
use Rattle.rules.proofs.State.{decides_pairs}
use Rattle.rules.proofs.Demand.Invariant.{Invariant}
use Rattle.rules.proofs.Demand.Known.{known, ring_live}
use Rattle.rules.proofs.Demand.Accounted.{own}

module _ (s : State) (b : Book) (h : Invariant s b) (p : Pair) where
  -- a consumer live under the pair adds its permits
  added : (sum : ℕ) (c : Consumer) → c.kind ≡ shared → c.pair ≡ p → add_permits p sum (some c) ≡ sum + c.permits - zero_permits
  unfolding add_permits live_under by_kind
  added sum c k q =
      ap (λ (t : Bool). cond t (sum + c.permits - zero_permits) sum)
      (ap₂ (λ (x : Kind) (y : Pair). by_kind x false (same_pair p y)) k q ∙ decides_pairs.self p)

  -- one more ring id: the sum gains its grants less its costs, and loses at most 255
  added_id : (i sum : ℕ) → 0 < count i (b.attached p) → 255 ≤ sum
      → (add_permits p sum (consumer_of s i) + costs_of (b.who i) ≡ grants_of (b.who i) + sum) × (sum ≤ add_permits p sum (consumer_of s i) + 255)
  unfolding costs_of grants_of
  added_id i sum g room =
      let y = ring_live s b h p i g in
      let a = known s b h i y.0 y.1 y.2 in
      rw (y.1, added sum y.0 y.2 y.3, a.who_is) (omega (arith, a.balanced, a.least))

  -- a sum over ids of the ring is their grants less their costs, as long as it has room for 255 each
  sum_is : (ids : List ℕ) → ((i : ℕ) → 0 < count i ids → 0 < count i (b.attached p)) → (sum : ℕ) → 255 * length ids ≤ sum
      → sum_permits s p sum ids + sum_over costs_of b.who ids ≡ sum_over grants_of b.who ids + sum
  unfolding sum_permits sum_over
  sum_is [] f sum room = omega arith
  sum_is (i ∷ ids) f sum room =
      let y = added_id i sum (f i (omega (arith, count_append i (i ∷ []) ids, count_self i))) (omega arith) in
      let e = sum_is ids (λ j g. f j (omega (arith, count_append j (i ∷ []) ids))) (add_permits p sum (consumer_of s i)) (omega arith) in
      omega arith

  -- the whole sum
  ring_sum : sum_permits s p zero_permits (b.attached p) ≡ (dispatcher s p).total_available_permits
  ring_sum =
      let e = sum_is (b.attached p) (λ i g. g) zero_permits (omega (arith, (h.fits p).ringed.ring_size)) in
      omega (arith, (h.fits p).ringed.balanced)

-- the balance check of every dispatcher is its total
pub balance_check_is_total : (s : State) (b : Book) → Invariant s b → (d : Dispatcher) → Memᴰ d s.dispatchers
    → balance_check s d ≡ d.total_available_permits
unfolding balance_check
balance_check_is_total s b h d m =
    let e = own s b h d m in
    let r : b.attached d.pair ≡ d.attached = sym (subst (λ (x : Dispatcher). x.attached ≡ b.attached d.pair) e (h.fits d.pair).ringed.ring_is) in
    ap (sum_permits s d.pair zero_permits) (sym r) ∙ ring_sum s b h d.pair ∙ ap (λ (x : Dispatcher). x.total_available_permits) e
