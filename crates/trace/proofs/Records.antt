-- Records one after the other, in whatever form they stand, as bytes of a trace or words of a script: how far the first one
-- reaches, and that the records are the first one and those of the rest.
use Prim.Native.Nat.{ℕ, zero, suc, ◌≤◌, ◌<◌}
use mathlib.Core.Path.{◌≡◌, refl, ap, ◌∙◌, subst}
use mathlib.Core.Bool.{Bool, true, false, cond}
use mathlib.Core.List.{List, [], ◌∷◌}
use mathlib.Core.Option.{Option, none, some}
use native.Mathlib.Omega.{arith}
use lib.Dec.{ltb}
use lib.ListN.{length, drop, length-drop}
use borrow.Author.Tests.{ltb-true, ltb-false, le-ltb}
use Rattle.trace.specs.Format.{Record, MOST_WORDS, Reach, reach_in, Form, first_record, records_within, records_by}
use Rattle.trace.specs.Format.Reach.{ends, cut_off, wrong}

-- ---- how far a record reaches

-- what is told of a record that ends: its front is there, its words are not too many, and all of it is there
pub record EndsIn (long fore count most size : ℕ) : Type 0 where
  pub front : fore ≤ long
  pub few : count ≤ MOST_WORDS
  pub inside : most ≤ long
  pub is_size : size ≡ most

module _ (long fore count most : ℕ) where
  -- by cases
  unfoldable Told : Reach → Type 0
  Told (ends size) = EndsIn long fore count most size
  Told cut_off = Unit {0}
  Told wrong = (fore ≤ long) × (MOST_WORDS < count)

  -- it is told by the tests
  told : Told (reach_in long fore count most)
  unfolding Told
  told = go (ltb long fore) (ltb MOST_WORDS count) (ltb long most) refl refl refl
    where
      go : (a b c : Bool) → ltb long fore ≡ a → ltb MOST_WORDS count ≡ b → ltb long most ≡ c
          → Told (cond a cut_off (cond b wrong (cond c cut_off (ends most))))
      go true b c e f g = tt
      go false true c e f g = (ltb-false long fore e, ltb-true MOST_WORDS count f)
      go false false true e f g = tt
      go false false false e f g =
          record { front = ltb-false long fore e; few = ltb-false MOST_WORDS count f; inside = ltb-false long most g; is_size = refl }

  -- a record that ends
  pub ends_in : (size : ℕ) → reach_in long fore count most ≡ ends size → EndsIn long fore count most size
  unfolding Told
  ends_in size e = subst Told e told

  -- one with too many words
  pub too_many_in : reach_in long fore count most ≡ wrong → (fore ≤ long) × (MOST_WORDS < count)
  unfolding Told
  too_many_in e = subst Told e told

  -- and back
  pub reaches_in : fore ≤ long → count ≤ MOST_WORDS → most ≤ long → reach_in long fore count most ≡ ends most
  reaches_in h f g = rw (le-ltb long fore h, le-ltb MOST_WORDS count f, le-ltb long most g)

-- ---- one after the other

module _ (form : Form) (inside : (ws : List ℕ) (size : ℕ) → form.reach ws ≡ ends size → (1 ≤ size) × (size ≤ length ws)) where
  -- more than enough steps are enough
  fuel : (k j : ℕ) (ws : List ℕ) → length ws ≤ k → length ws ≤ j → records_within form k ws ≡ records_within form j ws
  unfolding records_within first_record
  fuel zero zero ws h g = refl
  fuel zero (suc j) [] h g = refl
  fuel zero (suc j) (w ∷ ws) h g = absurd (omega arith)
  fuel (suc k) zero [] h g = refl
  fuel (suc k) zero (w ∷ ws) h g = absurd (omega arith)
  fuel (suc k) (suc j) [] h g = refl
  fuel (suc k) (suc j) (w ∷ ws) h g = go (form.reach (w ∷ ws)) refl (λ rest m n. fuel k j rest m n)
    where
      go : (r : Reach) → form.reach (w ∷ ws) ≡ r
          → ((rest : List ℕ) → length rest ≤ k → length rest ≤ j → records_within form k rest ≡ records_within form j rest)
          → first_record form (w ∷ ws) (records_within form k) r ≡ first_record form (w ∷ ws) (records_within form j) r
      go (ends size) e more =
          let s = inside (w ∷ ws) size e in
          let l = length-drop size (w ∷ ws) in
          ap {B = List (Option Record)} (λ t. some (form.first (w ∷ ws)) ∷ t) (more (drop size (w ∷ ws)) (omega (arith, s.0)) (omega (arith, s.0)))
      go cut_off e more = refl
      go wrong e more = refl

  -- by how far the first one reaches
  by_reach : (w : ℕ) (ws : List ℕ) (r : Reach) → form.reach (w ∷ ws) ≡ r
      → records_by form (w ∷ ws) ≡ first_record form (w ∷ ws) (records_within form (length ws)) r
  unfolding records_by records_within
  by_reach w ws r e = rw e

  -- a record, and those after it
  pub by_first : (ws : List ℕ) (size : ℕ) → form.reach ws ≡ ends size → records_by form ws ≡ some (form.first ws) ∷ records_by form (drop size ws)
  unfolding first_record records_by
  by_first [] size e = absurd (let s = inside [] size e in omega (arith, s.0, s.1))
  by_first (w ∷ ws) size e =
      let s = inside (w ∷ ws) size e in
      let l = length-drop size (w ∷ ws) in
      by_reach w ws (ends size) e
      ∙ ap {B = List (Option Record)} (λ t. some (form.first (w ∷ ws)) ∷ t)
      (fuel (length ws) (length (drop size (w ∷ ws))) (drop size (w ∷ ws)) (omega (arith, s.0)) (omega arith))

  -- one with too many words, and no more
  pub by_wrong : (w : ℕ) (ws : List ℕ) → form.reach (w ∷ ws) ≡ wrong → records_by form (w ∷ ws) ≡ none ∷ []
  unfolding first_record
  by_wrong w ws e = by_reach w ws wrong e

  -- one that is cut off, and no more
  pub by_cut : (w : ℕ) (ws : List ℕ) → form.reach (w ∷ ws) ≡ cut_off → records_by form (w ∷ ws) ≡ none ∷ []
  unfolding first_record
  by_cut w ws e = by_reach w ws cut_off e
