-- A row sought slot by slot: what the loops that look for one turn on, for any table, and what the slot says of the row.
use mathlib.Core.Path.{◌≡◌, refl, ◌∙◌}
use mathlib.Core.Bool.{true, false, cond}
use mathlib.Core.List.{List, [], ◌∷◌}
use mathlib.Core.Option.{none, some}
use Prim.Native.Nat.{ℕ, suc, ◌+◌, ◌≤◌, ◌<◌}
use native.Mathlib.Nat.{zero-add, le_of_suc-le-suc, not-suc-le-zero}
use native.Mathlib.Numerals.{add-one}
use native.Mathlib.Omega.{arith}
use lib.ListN.{length, get_or, drop, drop_of_length-le}
use lib.Seq.{drop-cons}
use Rattle.rules.specs.Table.{Key, find}
use Rattle.rules.proofs.Table.{by_test}
use Rattle.store.specs.Find.{slot}

module _ {A K : Type 0} (k : Key A K) (j : K) where
  -- the slot among the rows from i on, counted from 0, is the slot among all
  abbrev pub Sought : List A → ℕ → Type 0
  Sought l i = i + slot k j (drop i l) ≡ slot k j l

  module _ (l : List A) (i : ℕ) (d : A) where
    step : i < length l → slot k j (drop i l) ≡ cond (k.same j (k.key (get_or l i d))) 0 (suc (slot k j (drop (i + 1) l)))
    unfolding slot
    step h = rw (add-one i, drop-cons l i d h)

    -- the row at i is the one
    pub sought_here : i < length l → Sought l i → k.same j (k.key (get_or l i d)) ≡ true → i ≡ slot k j l
    sought_here h s t = let e : slot k j (drop i l) ≡ 0 = step h ∙ rw t in omega arith

    -- it is not
    pub sought_on : i < length l → Sought l i → k.same j (k.key (get_or l i d)) ≡ false → Sought l (i + 1)
    sought_on h s t = let e : slot k j (drop i l) ≡ suc (slot k j (drop (i + 1) l)) = step h ∙ rw t in omega arith

  pub sought_start : (l : List A) → Sought l 0
  sought_start l = zero-add (slot k j l)

  -- no row is left
  pub sought_end : (l : List A) (i : ℕ) → length l ≤ i → Sought l i → i ≡ slot k j l
  unfolding slot
  sought_end l i h s =
      let e : slot k j (drop i l) ≡ 0 = rw (drop_of_length-le l h) in omega arith

  -- ---- what a slot says

  -- the slot of a row that is found
  pub slot_found : (l : List A) (d : A) → slot k j l < length l → find k j l ≡ some (get_or l (slot k j l) d)
  unfolding slot find
  slot_found [] d h = absurd (not-suc-le-zero h)
  slot_found (a ∷ l) d h =
      by_test (k.same j (k.key a)) (λ t. rw t)
      (λ t. let h' : suc (slot k j l) < suc (length l) = rw t at h in rw t (slot_found l d (le_of_suc-le-suc h')))

  -- no row has the key
  pub slot_none : (l : List A) → length l ≤ slot k j l → find k j l ≡ none
  unfolding slot find
  slot_none [] h = refl
  slot_none (a ∷ l) h =
      by_test (k.same j (k.key a)) (λ t. let h' : suc (length l) ≤ 0 = rw t at h in absurd (not-suc-le-zero h'))
      (λ t. let h' : suc (length l) ≤ suc (slot k j l) = rw t at h in rw t (slot_none l (le_of_suc-le-suc h')))

  pub slot_le : (l : List A) → slot k j l ≤ length l
  unfolding slot
  slot_le [] = omega arith
  slot_le (a ∷ l) = let h = slot_le l in by_test (k.same j (k.key a)) (λ t. rw t (omega arith)) (λ t. rw t (omega arith))
