-- The consumer that a dispatcher's turn chooses is live, in the ring, and has permits above 0.
use Prim.Native.Nat.{ℕ, suc, ◌+◌, ◌-◌, ◌≤◌, ◌<◌}
use mathlib.Core.Path.{◌≡◌, refl, subst}
use mathlib.Core.Bool.{true}
use mathlib.Core.List.{List, [], ◌∷◌, Memᴰ}
use mathlib.Core.Option.{Option, none, some, none-ne-some, some-injective}
use native.Mathlib.Omega.{arith}
use lib.Dec.{eqb, ltb}
use lib.ListN.{length, take, drop, length-take, length-drop}
use borrow.Author.Tests.{ltb-true, eqb-false}
use Rattle.rules.specs.Permits.{zero_permits, above_zero}
use Rattle.rules.specs.Table.{Every, count}
use Rattle.rules.specs.State.{Consumer, Dispatcher, State, consumer_of}
use Rattle.rules.specs.Push.{Choice, choose_ready, first_ready, choose, slot_after}
use Rattle.rules.proofs.Says.{every_tail}
use Rattle.rules.proofs.Table.{by_test, count_append, count_self, count_drop, count_take}
use Rattle.rules.proofs.State.{consumer_id}
use Rattle.rules.proofs.Kept.Every.{every_take, every_drop}

-- a chosen consumer: live, in the ring, with permits above 0
pub record Chosen (s : State) (ring : List ℕ) (x : Choice) : Type 0 where
  pub slot_below : x.slot < length ring
  pub live : consumer_of s x.consumer.id ≡ some x.consumer
  pub in_ring : Memᴰ x.consumer.id ring
  pub ready : zero_permits < x.consumer.permits

-- a choice, if there is one
abbrev pub IfChosen : State → List ℕ → Option Choice → Type 0
IfChosen s ring none = Unit {0}
IfChosen s ring (some x) = Chosen s ring x

-- the first ready one of a part of the ring, or what follows
first_ready_chosen : (s : State) (ring : List ℕ) (slot : ℕ) (part : List ℕ) (more : Option Choice) → Every (λ (i : ℕ). Memᴰ i ring) part
    → slot + length part ≤ length ring → IfChosen s ring more → IfChosen s ring (first_ready s slot part more)
unfolding first_ready choose_ready above_zero
first_ready_chosen s ring slot [] more f h g = g
first_ready_chosen s ring slot (i ∷ part) more f h g =
    go (consumer_of s i) refl (first_ready_chosen s ring (suc slot) part more (every_tail {P = λ (j : ℕ). Memᴰ j ring} f) (omega arith) g)
  where
    go : (o : Option Consumer) → consumer_of s i ≡ o → IfChosen s ring (first_ready s (suc slot) part more)
        → IfChosen s ring (choose_ready slot o (first_ready s (suc slot) part more))
    go none e r = r
    go (some c) e r =
        by_test (ltb zero_permits c.permits)
        (λ t. rw t
        (record {
          slot_below = omega arith;
          live = subst (λ (j : ℕ). consumer_of s j ≡ some c) (consumer_id s i c e) e;
          in_ring = subst (λ (j : ℕ). Memᴰ j ring) (consumer_id s i c e) (f i (Memᴰ.head refl));
          ready = ltb-true zero_permits c.permits t;
        }))
        (λ t. rw t r)

-- the first ready one from next, going round
pub choose_chosen : (s : State) (d : Dispatcher) → d.next ≤ length d.attached → IfChosen s d.attached (choose s d)
unfolding choose
choose_chosen s d h =
    let ring : List ℕ = d.attached in
    let a : length (drop d.next ring) ≡ length ring - d.next = length-drop d.next ring in
    let b = length-take d.next ring in
    first_ready_chosen s ring d.next (drop d.next ring) (first_ready s 0 (take d.next ring) none)
    (every_drop {P = λ (i : ℕ). Memᴰ i ring} d.next ring (λ i m. m)) (omega arith)
    (first_ready_chosen s ring 0 (take d.next ring) none
    (every_take {P = λ (i : ℕ). Memᴰ i ring} d.next ring (λ i m. m)) (omega arith) tt)

-- what holds of a ready consumer and of what follows holds of the choice
choice_all : (P : Choice → Type 0) (slot : ℕ) (o : Option Consumer) (more : Option Choice)
    → ((c : Consumer) → o ≡ some c → above_zero c.permits ≡ true → P (record { slot = slot; consumer = c }))
    → ((x : Choice) → more ≡ some x → P x) → (x : Choice) → choose_ready slot o more ≡ some x → P x
unfolding choose_ready
choice_all P slot none more f g x e = g x e
choice_all P slot (some c) more f g x e =
    by_test (above_zero c.permits)
    (λ t. subst P (some-injective (record { slot = slot; consumer = c }) x (rw t at e)) (f c refl t))
    (λ t. g x (rw t at e))

-- what holds of every ready consumer of some ring ids, and of what follows, holds of the first one
ready_all : (P : Choice → Type 0) (s : State) (slot : ℕ) (ring : List ℕ) (more : Option Choice)
    → ((i n : ℕ) (c : Consumer) → 0 < count i ring → consumer_of s i ≡ some c → above_zero c.permits ≡ true
    → P (record { slot = n; consumer = c }))
    → ((x : Choice) → more ≡ some x → P x) → (x : Choice) → first_ready s slot ring more ≡ some x → P x
unfolding first_ready
ready_all P s slot [] more f g x e = g x e
ready_all P s slot (i ∷ ring) more f g x e =
    choice_all P slot (consumer_of s i) (first_ready s (suc slot) ring more)
    (λ c y t. f i slot c (omega (arith, count_append i (i ∷ []) ring, count_self i)) y t)
    (ready_all P s (suc slot) ring more (λ j n c q. f j n c (omega (arith, count_append j (i ∷ []) ring))) g) x e

-- and of the first one of the ring, going round
pub chosen_all : (P : Choice → Type 0) (s : State) (y : Dispatcher)
    → ((i n : ℕ) (c : Consumer) → 0 < count i y.attached → consumer_of s i ≡ some c → above_zero c.permits ≡ true
    → P (record { slot = n; consumer = c }))
    → (x : Choice) → choose s y ≡ some x → P x
unfolding choose
chosen_all P s y f =
    ready_all P s y.next (drop y.next y.attached) (first_ready s 0 (take y.next y.attached) none)
    (λ i n c q. f i n c (omega (arith, count_drop i y.next y.attached)))
    (ready_all P s 0 (take y.next y.attached) none (λ i n c q. f i n c (omega (arith, count_take i y.next y.attached)))
    (λ x e. absurd (none-ne-some x e)))

-- the slot after one is in the ring
pub slot_after_below : (slot : ℕ) (ring : List ℕ) → slot < length ring → slot_after slot ring < length ring
unfolding slot_after
slot_after_below slot ring h =
    by_test (eqb (suc slot) (length ring))
    (λ t. rw t (omega arith))
    (λ t. rw t (let n = eqb-false (suc slot) (length ring) t in omega arith))
