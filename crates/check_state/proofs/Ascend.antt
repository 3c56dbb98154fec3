-- Consumers with ascending ids: `ascending` element by element, each against the last one before it.
use mathlib.Core.Path.{◌≡◌, refl, sym, ap, ap₂, ◌∙◌}
use mathlib.Core.Bool.{Bool, true, ◌&&◌, and-false, and-eq-true_iff}
use mathlib.Core.List.{List, [], ◌∷◌, ◌++◌}
use Prim.Native.Nat.{ℕ, suc, ◌-◌, ◌<◌}
use native.Mathlib.Omega.{arith}
use lib.Dec.{ltb}
use lib.ListN.{length, get_or, take}
use lib.Seq.{take-suc}
use borrow.Author.Tests.{ltb-true, lt-ltb}
use Rattle.rules.specs.Table.{all}
use Rattle.rules.specs.State.{Consumer}
use Rattle.rules.specs.Valid.{ascending}
use Rattle.rules.proofs.Table.{by_test, all_weaker}
use Rattle.layout.specs.Fields.{zero_consumer}
use Rattle.store.proofs.Prefixes.{Stepwise, and_swap, all_steps}

-- whether every id of a list is below a consumer's
abbrev pub below : Consumer → List Consumer → Bool
below c l = all (λ (d : Consumer). ltb d.id c.id) l

-- each id is above all before it
pub ascending_steps : Stepwise ascending (λ l c. below c l)
unfolding ascending all
ascending_steps = record { none = refl; more = more }
  where
    more : (l : List Consumer) (c : Consumer) → ascending (l ++ c ∷ []) ≡ (ascending l && below c l)
    more [] c = refl
    more (d ∷ l) c =
        ap₂ {A = Bool} {B = Bool} ◌&&◌ ((all_steps (λ (x : Consumer). ltb d.id x.id)).more l c) (more l c)
        ∙ and_swap (all (λ (x : Consumer). ltb d.id x.id) l) (ltb d.id c.id) (ascending l) (below c l)

-- where ids ascend, one above the last is above all
last_decides : (l : List Consumer) (b c : Consumer) → ascending (l ++ b ∷ []) ≡ true → ltb b.id c.id ≡ below c (l ++ b ∷ [])
last_decides l b c h =
    by_test (ltb b.id c.id)
    (λ t.
    let a : below b l ≡ true = ((and-eq-true_iff (ascending l) (below b l)).0 (sym (ascending_steps.more l b) ∙ h)).1 in
    let lower : below c l ≡ true =
    all_weaker (λ (d : Consumer). ltb d.id b.id) (λ (d : Consumer). ltb d.id c.id) (λ d e. between d t e) l a in
    t ∙ sym ((all_steps (λ (d : Consumer). ltb d.id c.id)).more l b ∙ rw (lower, t)))
    (λ t. t ∙ sym ((all_steps (λ (d : Consumer). ltb d.id c.id)).more l b ∙ rw t (and-false (below c l))))
  where
    between : (d : Consumer) → ltb b.id c.id ≡ true → ltb d.id b.id ≡ true → ltb d.id c.id ≡ true
    between d t e =
        let x : b.id < c.id = ltb-true b.id c.id t in
        let y : d.id < b.id = ltb-true d.id b.id e in
        lt-ltb d.id c.id (omega arith)

-- the consumer at i against the one before it
pub one_before : (l : List Consumer) (i : ℕ) → 0 < i → i < length l → ascending (take i l) ≡ true
    → ltb (get_or l (i - 1) zero_consumer).id (get_or l i zero_consumer).id ≡ below (get_or l i zero_consumer) (take i l)
one_before l i p h a =
    let e : i ≡ suc (i - 1) = omega arith in
    let f : take i l ≡ take (i - 1) l ++ get_or l (i - 1) zero_consumer ∷ [] = ap (λ (n : ℕ). take n l) e ∙ take-suc l (i - 1) zero_consumer (omega arith) in
    last_decides (take (i - 1) l) (get_or l (i - 1) zero_consumer) (get_or l i zero_consumer) (sym (ap ascending f) ∙ a) ∙ ap (below (get_or l i zero_consumer)) (sym f)
