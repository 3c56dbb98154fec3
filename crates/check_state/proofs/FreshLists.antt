-- Two lists of positions that rows of words spell: fresh one after the other is fresh together.
use mathlib.Core.Path.{◌≡◌, sym, ap, ap₂, ◌∙◌}
use mathlib.Core.Bool.{Bool, false, not, ◌&&◌, ◌||◌, and_comm}
use mathlib.Core.List.{List, ◌++◌}
use Prim.Native.Nat.{ℕ, ◌+◌, ◌<◌}
use native.Mathlib.Omega.{arith}
use lib.Dec.{eqb, ltb}
use lib.ListN.{length, get_or, length-append, get_or-append}
use lib.Seq.{get_or-append-add}
use Rattle.rules.specs.Table.{all, distinct}
use Rattle.rules.proofs.Table.{decides_numbers}
use Rattle.check_rows.specs.Below.{each_below, some_below}
use Rattle.check_rows.specs.Rows.{among}
use Rattle.check_state.specs.Places.{fresh_place, fresh_places}
use Rattle.check_rows.proofs.Below.{each_same, some_same, each_both, each_add, some_add}
use Rattle.check_rows.proofs.Elements.{all_each, distinct_each}
use Rattle.check_rows.proofs.RowLists.{Spell, among_before}

module _ (ws : List ℕ) (first₁ w₁ first₂ w₂ cursor : ℕ) (l m : List ℕ) (left : Spell ws first₁ w₁ l) (right : Spell ws first₂ w₂ m) where
  -- position j of both: below the cursor, and other than each before it
  fresh_at : ℕ → Bool
  fresh_at j = ltb (get_or (l ++ m) j 0) cursor && not (some_below (λ i. eqb (get_or (l ++ m) j 0) (get_or (l ++ m) i 0)) j)

  -- one of the first list
  at_left : (j : ℕ) → j < length l → fresh_place ws first₁ w₁ cursor (λ p. false) j ≡ fresh_at j
  unfolding fresh_at
  at_left j h =
      rw (get_or-append l m 0 j h, left j h)
      (ap (λ (b : Bool). ltb (get_or l j 0) cursor && not b)
      (among_before ws first₁ w₁ l left j (get_or l j 0) (omega arith)
      ∙ some_same (λ i. eqb (get_or l j 0) (get_or l i 0)) (λ i. eqb (get_or l j 0) (get_or (l ++ m) i 0)) j
      (λ i k. ap (eqb (get_or l j 0)) (sym (get_or-append l m 0 i (omega arith))))))

  -- one of the second
  at_right : (j : ℕ) → j < length m → fresh_place ws first₂ w₂ cursor (λ p. among ws first₁ w₁ (length l) p) j ≡ fresh_at (length l + j)
  unfolding fresh_at
  at_right j h =
      rw (get_or-append-add l m j 0, right j h)
      (ap (λ (b : Bool). ltb (get_or m j 0) cursor && not b)
      (ap₂ ◌||◌
      (among_before ws first₁ w₁ l left (length l) (get_or m j 0) (omega arith)
      ∙ some_same (λ i. eqb (get_or m j 0) (get_or l i 0)) (λ i. eqb (get_or m j 0) (get_or (l ++ m) i 0)) (length l)
      (λ i k. ap (eqb (get_or m j 0)) (sym (get_or-append l m 0 i k))))
      (among_before ws first₂ w₂ m right j (get_or m j 0) (omega arith)
      ∙ some_same (λ i. eqb (get_or m j 0) (get_or m i 0)) (λ i. eqb (get_or m j 0) (get_or (l ++ m) (length l + i) 0)) j
      (λ i k. ap (eqb (get_or m j 0)) (sym (get_or-append-add l m i 0))))
      ∙ sym (some_add (λ i. eqb (get_or m j 0) (get_or (l ++ m) i 0)) (length l) j)))

  -- fresh one after the other: below the cursor and distinct together
  pub fresh_lists : (fresh_places ws first₁ w₁ (length l) cursor (λ p. false) && fresh_places ws first₂ w₂ (length m) cursor (λ p. among ws first₁ w₁ (length l) p))
      ≡ (distinct eqb (l ++ m) && all (λ (k : ℕ). ltb k cursor) (l ++ m))
  unfolding fresh_places fresh_at
  fresh_lists =
      ap₂ ◌&&◌ (each_same (fresh_place ws first₁ w₁ cursor (λ p. false)) fresh_at (length l) at_left)
      (each_same (fresh_place ws first₂ w₂ cursor (λ p. among ws first₁ w₁ (length l) p)) (λ j. fresh_at (length l + j)) (length m) at_right)
      ∙ sym (each_add fresh_at (length l) (length m))
      ∙ ap (each_below fresh_at) (sym (length-append l m))
      ∙ each_both (λ j. ltb (get_or (l ++ m) j 0) cursor) (λ j. not (some_below (λ i. eqb (get_or (l ++ m) j 0) (get_or (l ++ m) i 0)) j)) (length (l ++ m))
      ∙ and_comm (each_below (λ j. ltb (get_or (l ++ m) j 0) cursor) (length (l ++ m)))
      (each_below (λ j. not (some_below (λ i. eqb (get_or (l ++ m) j 0) (get_or (l ++ m) i 0)) j)) (length (l ++ m)))
      ∙ ap₂ ◌&&◌ (sym (distinct_each decides_numbers (l ++ m) 0)) (sym (all_each (λ (k : ℕ). ltb k cursor) (l ++ m) 0))
