-- The tests of the check, grouped as the code makes them: those of a state by table, those of words in order.
use mathlib.Core.Path.{◌≡◌, refl, sym, subst, ◌∙◌}
use mathlib.Core.Bool.{Bool, true, ◌&&◌, and_assoc}
use mathlib.Core.List.{List, map}
use Prim.Native.Nat.{ℕ, ◌+◌, ◌*◌, ◌≤◌, ◌<◌}
use native.Mathlib.Omega.{arith}
use lib.Dec.{eqb, leb}
use lib.ListN.{length, get_or, drop}
use borrow.Author.Tests.{le-leb}
use Rattle.words.specs.Store.{canonical}
use Rattle.rules.specs.Table.{all, distinct}
use Rattle.rules.specs.State.{Topic, State}
use Rattle.rules.specs.Valid.{valid_topic, ascending, valid_consumer, sound, valid}
use Rattle.rules.specs.Calls.{needed}
use Rattle.layout.specs.Layout.{body_codec, decode, spells}
use Rattle.layout.specs.Whole.{Shaped}
use Rattle.layout.specs.Canon.{CanonStore}
use Rattle.layout.specs.Check.{header_right}
use Rattle.layout.proofs.Store.{canon_entries}
use Rattle.layout.proofs.Header.{width_header}
use Rattle.layout.proofs.Spells.{says_header, says_canon, spells_parts}
use Rattle.check_state.specs.Dispatchers.{dispatchers_right}

-- ---- a state

-- topics whose numbers are distinct and that are each valid
abbrev topics_right : ℕ → State → Bool
topics_right e s = distinct eqb (map (λ (t : Topic). t.number) s.topics) && all (valid_topic e) s.topics

-- consumers in ascending order of their ids and each valid
abbrev consumers_right : State → Bool
consumers_right s = ascending s.consumers && all (valid_consumer s) s.consumers

-- the rules on the tables of a state whose lists fit their slots, table by table
by_tables : (s : State) → Shaped s → (topics_right s.entries s && (consumers_right s && dispatchers_right s)) ≡ sound s
unfolding sound
by_tables s h =
    rw (
      le-leb (length s.topics) 8 h.topics_fit,
      le-leb (length s.consumers) 32 h.consumers_fit,
      le-leb (length s.dispatchers) 8 h.dispatchers_fit,
    )
    (simp and_assoc refl)

-- with E in its range they are all the rules
by_parts : (s : State) → Shaped s → sound s ≡ valid s
unfolding valid
by_parts s h = rw (le-leb 1 s.entries h.E_least, le-leb s.entries 4096 h.E_most)

-- the same of the state that well-spelt words decode to
pub state_by_tables : {e : ℕ} {ws : List ℕ} → CanonStore e ws
    → (topics_right e (decode ws) && (consumers_right (decode ws) && dispatchers_right (decode ws))) ≡ valid (decode ws)
state_by_tables {e} {ws} h =
    subst (λ (n : ℕ). (topics_right n (decode ws) && (consumers_right (decode ws) && dispatchers_right (decode ws))) ≡ valid (decode ws))
    (canon_entries h) (by_tables (decode ws) h.shaped ∙ by_parts (decode ws) h.shaped)

-- ---- words

module _ (ws : List ℕ) where
  -- what a right header allows: reading E, and computing with it
  pub header_gives : header_right ws ≡ true → (1 < length ws) × (get_or ws 1 0 ≤ 4096)
  header_gives h =
      let g = (says_header ws).gives h in
      let l : 16 ≤ length ws = subst (λ (n : ℕ). n ≤ length ws) width_header g.0.long in
      (omega arith, g.2)

  module _ {e : ℕ} (q : e ≡ get_or ws 1 0) where
    -- that words spell a state, as the code tests it: the header, the length that E needs, the body, the rules
    pub spells_tests : (header_right ws && (leb (4096 + 128 * e) (length ws) && (canonical (body_codec e) (drop 16 ws) && valid (decode ws)))) ≡ spells ws
    unfolding needed
    spells_tests = let s = simp and_assoc at spells_parts ws in rw q (sym s)

    -- words that pass the first three tests are well spelt
    pub well_spelt : header_right ws ≡ true → 4096 + 128 * e ≤ length ws → canonical (body_codec e) (drop 16 ws) ≡ true → CanonStore e ws
    unfolding needed
    well_spelt a b c =
        subst (λ (n : ℕ). CanonStore n ws) (sym q)
        ((says_canon ws).gives (rw (a, ← q, le-leb (4096 + 128 * e) (length ws) b) c))
