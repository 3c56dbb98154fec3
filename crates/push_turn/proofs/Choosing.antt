-- The choice of a place: what the search of a part of a ring finds is the part's first place, and the two parts of a ring
-- make up the choice that goes round.
use mathlib.Core.Path.{◌≡◌, refl, sym, ap, ◌∙◌}
use mathlib.Core.Bool.{Bool, false, true≢false}
use mathlib.Core.List.{List, [], ◌∷◌}
use mathlib.Core.Option.{Option, none, some}
use Prim.Native.Nat.{ℕ, zero, suc, ◌+◌, ◌-◌, ◌≤◌, ◌<◌}
use native.Mathlib.Omega.{arith}
use lib.Dec.{ltb}
use lib.ListN.{length, get_or, take, drop, length-drop, length-take}
use lib.Seq.{take_all}
use borrow.Author.Tests.{ltb-true, ltb-false, le-ltb}
use Rattle.std.specs.Prelude as prelude
use Rattle.std.specs.Prelude.{Some, None}
use Rattle.std.specs.List.{position, position_or_len}
use Rattle.std.proofs.lemmas.List.{get_or-drop, get_or-take}
use Rattle.std.proofs.lemmas.Option.{cond_some, none-some}
use Rattle.rules.specs.Permits.{zero_permits, above_zero}
use Rattle.rules.specs.Table.{is_some, or_else}
use Rattle.rules.proofs.Table.{by_test}
use Rattle.push_laws.specs.Local.{Place, first_with_permits}
use Rattle.push_turn.specs.Turns.{place_named, first_place}

-- permits past the end of a list are none
pub none_past : (permits : List ℕ) (c : ℕ) → length permits ≤ c → false ≡ above_zero (get_or permits c 0)
unfolding above_zero
none_past [] c h = sym (le-ltb zero_permits 0 (omega arith))
none_past (p ∷ permits) zero h = absurd (omega arith)
none_past (p ∷ permits) (suc c) h = none_past permits c (omega arith)

-- a place is not none
pub some_not_none : {p : Place} → some p ≡ none → ⊥
unfolding is_some
some_not_none e = true≢false (ap (λ (o : Option Place). is_some o) e)

-- ---- a part of a ring

module _ (permits : List ℕ) where
  -- whether the consumer in a slot has permits
  abbrev pub has : ℕ → Bool
  has c = above_zero (get_or permits c 0)

  -- the first place of a part whose consumer has, or the part's length
  abbrev first : List ℕ → ℕ
  first part = position_or_len has part

  -- where there is one, it is the first from k on, whatever follows
  first_found : (k : ℕ) (part : List ℕ) (more : Option Place) → first part < length part
      → first_with_permits permits k part more ≡ some (record { place = k + first part; consumer = get_or part (first part) 0 })
  unfolding first_with_permits
  first_found k [] more h = absurd (omega arith)
  first_found k (c ∷ part) more h =
      by_test (has c) (λ t. let z : k + 0 ≡ k = omega arith in rw (t, z))
      (λ t. let a : 1 + first part ≡ suc (first part) = omega arith in
      let b : k + suc (first part) ≡ suc k + first part = omega arith in
      let i : 1 + first part < suc (length part) = rw t at h in
      rw (t, a, b) (first_found (suc k) part more (omega arith)))

  -- where there is none, what follows counts
  first_missing : (k : ℕ) (part : List ℕ) (more : Option Place) → length part ≤ first part → first_with_permits permits k part more ≡ more
  unfolding first_with_permits
  first_missing k [] more h = refl
  first_missing k (c ∷ part) more h =
      by_test (has c) (λ t. let i : suc (length part) ≤ 0 = rw t at h in absurd (omega arith))
      (λ t. let i : suc (length part) ≤ 1 + first part = rw t at h in rw t (first_missing (suc k) part more (omega arith)))

  -- what a search says that finds a place
  searched : (part : List ℕ) (r : ℕ) → Some r ≡ position has part → (first part < length part) × (first part ≡ r)
  searched part r e = let q = cond_some (ltb (first part) (length part)) (first part) r (sym e) in (ltb-true _ _ q.0, q.1)

  -- and one that finds none
  searched_not : (part : List ℕ) → None ≡ position has part → length part ≤ first part
  searched_not part e =
      by_test (ltb (first part) (length part)) (λ t. absurd (none-some _ (rw t at e))) (λ t. ltb-false (first part) (length part) t)

  -- ---- the two parts

  module _ (ring : List ℕ) (next : ℕ) (within : next ≤ length ring) where
    -- the first part as code lends it
    rest : take (length ring - next) (drop next ring) ≡ drop next ring
    rest = let l = length-drop next ring in take_all (length ring - next) (drop next ring) (omega arith)

    -- a place from next on
    pub chosen_first : (r : ℕ) → Some r ≡ position has (take (length ring - next) (drop next ring))
        → place_named ring (Some (next + r)) ≡ first_place ring permits next
    unfolding place_named first_place
    chosen_first r e =
        let q = searched (drop next ring) r (rw rest at e) in
        let f = first_found next (drop next ring) (first_with_permits permits 0 (take next ring) none) q.0 in
        let g : first_with_permits permits next (drop next ring) (first_with_permits permits 0 (take next ring) none)
        ≡ some (record { place = next + r; consumer = get_or ring (next + r) 0 }) =
        f ∙ rw (q.1, get_or-drop next ring r 0) in
        sym g

    -- a place before next, or none
    around : None ≡ position has (drop next ring) → (o : prelude.Option ℕ) → o ≡ position has (take next ring)
        → place_named ring o ≡ first_place ring permits next
    unfolding place_named first_place
    around e None f =
        sym (first_missing next (drop next ring) _ (searched_not (drop next ring) e) ∙ first_missing 0 (take next ring) none (searched_not (take next ring) f))
    around e (Some r) f =
        let q = searched (take next ring) r f in
        let l = length-take next ring in
        let h = q.0 in
        let i = q.1 in
        let z : 0 + r ≡ r = omega arith in
        let below : r < next = omega arith in
        let g : first_with_permits permits 0 (take next ring) none ≡ some (record { place = r; consumer = get_or ring r 0 }) =
        first_found 0 (take next ring) none q.0 ∙ rw (q.1, z, get_or-take next ring r 0 below) in
        sym (first_missing next (drop next ring) _ (searched_not (drop next ring) e) ∙ g)

    pub chosen_again : None ≡ position has (take (length ring - next) (drop next ring)) → (o : prelude.Option ℕ) → o ≡ position has (take next ring)
        → place_named ring o ≡ first_place ring permits next
    chosen_again e o f = around (rw rest at e) o f

-- ---- whose place was chosen has permits

module _ (permits : List ℕ) (p : Place) where
  -- in one part
  first_ready : (k : ℕ) (ring : List ℕ) (more : Option Place) → (more ≡ some p → zero_permits < get_or permits p.consumer 0)
      → first_with_permits permits k ring more ≡ some p → zero_permits < get_or permits p.consumer 0
  unfolding first_with_permits above_zero or_else
  first_ready k [] more m e = m e
  first_ready k (c ∷ ring) more m e =
      by_test (ltb zero_permits (get_or permits c 0))
      (λ t. let f : some (record { place = k; consumer = c }) ≡ some p = rw t at e in
      let g : c ≡ p.consumer = ap (λ (o : Option Place). (or_else o p).consumer) f in
      ltb-true zero_permits (get_or permits p.consumer 0) (rw g at t))
      (λ t. first_ready (suc k) ring more m (rw t at e))

  -- going round
  pub chosen_ready : (ring : List ℕ) (next : ℕ) → first_place ring permits next ≡ some p → zero_permits < get_or permits p.consumer 0
  unfolding first_place
  chosen_ready ring next e =
      first_ready next (drop next ring) (first_with_permits permits 0 (take next ring) none)
      (first_ready 0 (take next ring) none (λ z. absurd (some_not_none (sym z)))) e
