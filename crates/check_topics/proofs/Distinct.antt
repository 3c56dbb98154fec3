-- Elements tested for a same one before them: `distinct` element by element, and rows of a table by their slots.
use mathlib.Core.Path.{◌≡◌, refl, ap, ap₂, ◌∙◌}
use mathlib.Core.Bool.{Bool, true, false, not, ◌&&◌, ◌||◌, or-false}
use mathlib.Core.List.{List, [], ◌∷◌, ◌++◌, map}
use Prim.Native.Nat.{ℕ, zero, suc, ◌≤◌, ◌<◌}
use native.Mathlib.Nat.{le_of_suc-le-suc, not-suc-le-zero}
use lib.ListN.{length, take}
use Rattle.rules.specs.Table.{Key, any, distinct}
use Rattle.rules.proofs.Table.{by_test, Decides, same_comm, any_append}
use Rattle.store.specs.Find.{slot}
use Rattle.store.proofs.Prefixes.{Stepwise}

-- a and b are each unlike the rest, and unlike each other
sorted_out : (x y z u : Bool) → (not (x || y) && (z && not u)) ≡ (not x && z && not (y || u))
sorted_out true y z u = refl
sorted_out false true true u = refl
sorted_out false true false u = refl
sorted_out false false z u = refl

-- no element is the same as one before it
pub distinct_steps : {A : Type 0} {same : A → A → Bool} → Decides same → Stepwise (distinct same) (λ l a. not (any (same a) l))
unfolding distinct any
distinct_steps {A} {same} w = record { none = refl; more = more }
  where
    more : (l : List A) (a : A) → distinct same (l ++ a ∷ []) ≡ (distinct same l && not (any (same a) l))
    more [] a = refl
    more (b ∷ l) a =
        ap₂ {A = Bool} {B = Bool} (λ x y. not x && y)
        (any_append (same b) l (a ∷ []) ∙ ap (λ (x : Bool). any (same b) l || x) (or-false (same b a) ∙ same_comm w b a)) (more l a)
        ∙ sorted_out (any (same b) l) (same a b) (distinct same l) (any (same a) l)

module _ {A K : Type 0} (k : Key A K) (j : K) where
  -- the slot is before i: a row before i has the key
  pub slot_seen : (l : List A) (i : ℕ) → i ≤ length l → slot k j l < i → any (k.same j) (map k.key (take i l)) ≡ true
  unfolding any slot
  slot_seen l zero b h = absurd (not-suc-le-zero h)
  slot_seen [] (suc i) b h = absurd (not-suc-le-zero b)
  slot_seen (a ∷ l) (suc i) b h =
      by_test (k.same j (k.key a)) (λ t. rw t)
      (λ t. let g : suc (slot k j l) < suc i = rw t at h in rw t (slot_seen l i (le_of_suc-le-suc b) (le_of_suc-le-suc g)))

  -- it is not: none has
  pub slot_new : (l : List A) (i : ℕ) → i ≤ slot k j l → any (k.same j) (map k.key (take i l)) ≡ false
  unfolding any slot
  slot_new l zero h = refl
  slot_new [] (suc i) h = refl
  slot_new (a ∷ l) (suc i) h =
      by_test (k.same j (k.key a)) (λ t. let g : suc i ≤ 0 = rw t at h in absurd (not-suc-le-zero g))
      (λ t. let g : suc i ≤ suc (slot k j l) = rw t at h in rw t (slot_new l i (le_of_suc-le-suc g)))
