-- Consumers with other permits: what stays, what changes.
use mathlib.Core.Path.{◌≡◌, refl, ap}
use mathlib.Core.Bool.{cond}
use mathlib.Core.List.{List, [], ◌∷◌, map, Memᴰ}
use Prim.Native.Nat.{ℕ, zero, suc, ◌<◌}
use native.Mathlib.Nat.{le_of_suc-le-suc, not-suc-le-zero}
use native.Mathlib.Omega.{arith}
use lib.Dec.{eqb}
use lib.ListN.{length, get_or, set, drop}
use borrow.Author.Tests.{eq-eqb, ne_eqb}
use Rattle.rules.specs.Table.{Every}
use Rattle.rules.specs.State.{Consumer, by_id}
use Rattle.rules.specs.Valid.{Ascending}
use Rattle.rules.specs.Commands.{with_permits}
use Rattle.rules.proofs.Says.{every_cons}
use Rattle.store.specs.Find.{slot}
use Rattle.push_laws.specs.Applied.{with_each}

-- as many
pub length_each : (l : List Consumer) (ps : List ℕ) → length (with_each l ps) ≡ length l
unfolding with_each
length_each [] ps = refl
length_each (c ∷ l) ps = ap suc (length_each l (drop 1 ps))

-- the same slots
pub slot_each : (j : ℕ) (l : List Consumer) (ps : List ℕ) → slot by_id j (with_each l ps) ≡ slot by_id j l
unfolding with_each slot with_permits
slot_each j [] ps = refl
slot_each j (c ∷ l) ps = ap (λ (n : ℕ). cond (eqb j c.id) 0 (suc n)) (slot_each j l (drop 1 ps))

-- the permits by slot are those given
pub permits_each : (l : List Consumer) (ps : List ℕ) → length ps ≡ length l → map (λ (c : Consumer). c.permits) (with_each l ps) ≡ ps
unfolding with_each with_permits
permits_each [] [] e = refl
permits_each [] (p ∷ ps) e = absurd (omega arith)
permits_each (c ∷ l) [] e = absurd (omega arith)
permits_each (c ∷ l) (p ∷ ps) e = ap (λ (r : List ℕ). p ∷ r) (permits_each l ps (omega arith))

-- with their own permits consumers stay as they are
pub each_own : (l : List Consumer) → with_each l (map (λ (c : Consumer). c.permits) l) ≡ l
unfolding with_each with_permits
each_own [] = refl
each_own (c ∷ l) = ap (λ (r : List Consumer). c ∷ r) (each_own l)

-- the consumer in a slot
pub nth_each : (l : List Consumer) (ps : List ℕ) (i : ℕ) (z : Consumer) → i < length l
    → get_or (with_each l ps) i z ≡ with_permits (get_or l i z) (get_or ps i 0)
unfolding with_each
nth_each [] ps i z h = absurd (not-suc-le-zero h)
nth_each (c ∷ l) ps zero z h = refl
nth_each (c ∷ l) [] (suc i) z h = nth_each l [] i z (le_of_suc-le-suc h)
nth_each (c ∷ l) (p ∷ ps) (suc i) z h = nth_each l ps i z (le_of_suc-le-suc h)

-- other permits for one of them
pub set_each : (l : List Consumer) (ps : List ℕ) (i v : ℕ) (z : Consumer) → i < length l → length ps ≡ length l
    → set (with_each l ps) i (with_permits (get_or l i z) v) ≡ with_each l (set ps i v)
unfolding with_each
set_each [] ps i v z h e = absurd (not-suc-le-zero h)
set_each (c ∷ l) [] i v z h e = absurd (omega arith)
set_each (c ∷ l) (p ∷ ps) zero v z h e = refl
set_each (c ∷ l) (p ∷ ps) (suc i) v z h e =
    ap (λ (r : List Consumer). with_permits c p ∷ r) (set_each l ps i v z (le_of_suc-le-suc h) (omega arith))

-- ids stay in order
below_each : (c : Consumer) (l : List Consumer) (ps : List ℕ) → Every (λ (d : Consumer). c.id < d.id) l → Every (λ (d : Consumer). c.id < d.id) (with_each l ps)
unfolding with_each with_permits
below_each c [] ps h = h
below_each c (d ∷ l) ps h =
    every_cons {P = λ (x : Consumer). c.id < x.id} (h d (Memᴰ.head refl)) (below_each c l (drop 1 ps) (λ x m. h x (Memᴰ.tail m)))

pub ascending_each : (l : List Consumer) (ps : List ℕ) → Ascending l → Ascending (with_each l ps)
unfolding with_each Ascending with_permits
ascending_each [] ps a = a
ascending_each (c ∷ l) ps a = (below_each c l (drop 1 ps) a.0, ascending_each l (drop 1 ps) a.1)

-- what stands in a slot stands in the list
pub getD_in : {A : Type 0} (l : List A) (i : ℕ) (z : A) → i < length l → Memᴰ (get_or l i z) l
getD_in [] i z h = absurd (not-suc-le-zero h)
getD_in (a ∷ l) zero z h = Memᴰ.head refl
getD_in (a ∷ l) (suc i) z h = Memᴰ.tail (getD_in l i z (le_of_suc-le-suc h))

-- a consumer stands in the slot of its own id
pub slot_own : (l : List Consumer) (i : ℕ) (z : Consumer) → Ascending l → i < length l → slot by_id (get_or l i z).id l ≡ i
unfolding slot Ascending
slot_own [] i z a h = absurd (not-suc-le-zero h)
slot_own (c ∷ l) zero z a h = rw (eq-eqb c.id c.id refl)
slot_own (c ∷ l) (suc i) z a h =
    let k = a.0 (get_or l i z) (getD_in l i z (le_of_suc-le-suc h)) in
    rw (ne_eqb (get_or l i z).id c.id (λ e. omega (arith, k, e))) (ap suc (slot_own l i z a.1 (le_of_suc-le-suc h)))

-- other permits over other permits
pub each_each : (l : List Consumer) (ps qs : List ℕ) → with_each (with_each l ps) qs ≡ with_each l qs
unfolding with_each with_permits
each_each [] ps qs = refl
each_each (c ∷ l) ps qs = ap (λ (r : List Consumer). with_permits c (get_or qs 0 0) ∷ r) (each_each l (drop 1 ps) (drop 1 qs))

-- ids stay, also past the end
pub id_each : (l : List Consumer) (ps : List ℕ) (i : ℕ) (z : Consumer) → (get_or (with_each l ps) i z).id ≡ (get_or l i z).id
unfolding with_each with_permits
id_each [] ps i z = refl
id_each (c ∷ l) ps zero z = refl
id_each (c ∷ l) ps (suc i) z = id_each l (drop 1 ps) i z
