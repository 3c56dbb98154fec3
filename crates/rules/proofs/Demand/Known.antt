-- What the invariant says of one consumer, and of the pair that it is attached to.
use Prim.Native.Nat.{ℕ, ◌+◌, ◌≤◌, ◌<◌}
use mathlib.Core.Path.{◌≡◌, refl, sym, ap, ◌∙◌, subst}
use mathlib.Core.Bool.{true, false}
use mathlib.Core.List.{List, []}
use mathlib.Core.Option.{Option, none, some}
use native.Mathlib.Omega.{arith}
use lib.ListN.{length}
use Rattle.rules.specs.Permits.{zero_permits, least_permits}
use Rattle.rules.specs.Table.{count, is_some, or_else}
use Rattle.rules.specs.State.{Pair, same_pair, Consumer, Dispatcher, State, new_dispatcher, consumer_of, dispatcher_of, ledger_of, dispatcher}
use Rattle.rules.specs.State.Kind.{plain, shared}
use Rattle.rules.specs.Book.{Book, Who}
use Rattle.rules.specs.Book.Who.{away, live_plain, attached_to}
use Rattle.rules.proofs.Table.{by_test}
use Rattle.rules.proofs.State.{decides_pairs}
use Rattle.rules.proofs.Demand.Invariant.{Agree, attached_count, Invariant}

-- an account of a pair
abbrev pub account : Pair → ℕ → ℕ → Who
account p g k = attached_to (record { pair = p; grants = g; costs = k })

-- a shared consumer by the book
pub record Known (b : Book) (i : ℕ) (c : Consumer) : Type 0 where
  -- its grants and its costs
  pub grants : ℕ
  pub costs : ℕ
  -- its account
  pub who_is : b.who i ≡ account c.pair grants costs
  -- its permits are the grants less the costs
  pub balanced : c.permits + costs ≡ grants + zero_permits
  -- they are at least -255
  pub least : least_permits ≤ c.permits
  -- it is attached to its pair, once
  pub in_ring : count i (b.attached c.pair) ≡ 1
  -- and to no other
  pub in_no_other : (q : Pair) → same_pair q c.pair ≡ false → count i (b.attached q) ≡ 0

-- a consumer that is shared is no plain one
pub not_plain : {P : Type 0} (c : Consumer) → c.kind ≡ shared → c.kind ≡ plain → P
not_plain c e f = let z : ◌≡◌ {A = ℕ} 0 1 = cc in absurd (omega arith)

-- it is known by who the book says it is
known_as : (b : Book) (i : ℕ) (c : Consumer) (w : Who) → b.who i ≡ w → Agree (some c) w → c.kind ≡ shared
    → ((q : Pair) → count i (b.attached q) ≡ attached_count q (b.who i)) → Known b i c
known_as b i c away e h k m = absurd h
known_as b i c live_plain e h k m = not_plain c k h
known_as b i c (attached_to a) e h k m = record {
  grants = a.grants;
  costs = a.costs;
  who_is = e ∙ ap (λ (p : Pair). account p a.grants a.costs) (sym h.pair_is);
  balanced = h.balanced;
  least = h.least;
  in_ring = m c.pair ∙ rw (e, h.pair_is, decides_pairs.self a.pair);
  in_no_other = λ q t. m q ∙ rw (e, ← h.pair_is, t);
}

module _ (s : State) (b : Book) (h : Invariant s b) where
  -- a shared consumer of the state is attached in the book
  pub known : (i : ℕ) (c : Consumer) → consumer_of s i ≡ some c → c.kind ≡ shared → Known b i c
  known i c e k = known_as b i c (b.who i) refl (rw e at (h.live i)) k (λ q. h.attached_once q i)

  -- a plain consumer of the state is a plain one of the book
  pub known_plain : (i : ℕ) (c : Consumer) → consumer_of s i ≡ some c → c.kind ≡ plain → b.who i ≡ live_plain
  known_plain i c e k = go (b.who i) (rw e at (h.live i))
    where
      go : (w : Who) → Agree (some c) w → w ≡ live_plain
      go away x = absurd x
      go live_plain x = refl
      go (attached_to a) x = not_plain c x.kind_is k

  -- who is attached to a pair is a live shared consumer of that pair
  pub ring_live : (p : Pair) (i : ℕ) → 0 < count i (b.attached p) → (c : Consumer) × (consumer_of s i ≡ some c) × (c.kind ≡ shared) × (c.pair ≡ p)
  ring_live p i g = go (consumer_of s i) refl (b.who i) (h.live i) (subst (λ (n : ℕ). 0 < n) (h.attached_once p i) g)
    where
      go : (o : Option Consumer) → consumer_of s i ≡ o → (w : Who) → Agree o w → 0 < attached_count p w
          → (c : Consumer) × (consumer_of s i ≡ some c) × (c.kind ≡ shared) × (c.pair ≡ p)
      go none e away a x = absurd (omega arith)
      go none e live_plain a x = absurd a
      go none e (attached_to v) a x = absurd a
      go (some c) e away a x = absurd a
      go (some c) e live_plain a x = absurd (omega arith)
      go (some c) e (attached_to v) a x =
          by_test (same_pair p v.pair)
          (λ t. (c, e, a.kind_is, a.pair_is ∙ sym (decides_pairs.equal p v.pair t)))
          (λ t. absurd (let z : 0 < 0 = rw t at x in omega arith))

  -- a pair with someone attached has a dispatcher
  pub has_dispatcher : (p : Pair) (i : ℕ) → 0 < count i (b.attached p) → is_some (dispatcher_of s p) ≡ true
  unfolding is_some dispatcher or_else new_dispatcher count
  has_dispatcher p i l = go (dispatcher_of s p)
      (λ (o : Option Dispatcher). (or_else o (new_dispatcher p (length (ledger_of s p.topic)))).attached) refl (h.fits p).ringed.ring_is
    where
      go : (o : Option Dispatcher) (f : Option Dispatcher → List ℕ) → f none ≡ [] → f o ≡ b.attached p → is_some o ≡ true
      go none f e r = let z : count i [] ≡ count i (b.attached p) = ap (count i) (sym e ∙ r) in absurd (omega arith)
      go (some d) f e r = refl
