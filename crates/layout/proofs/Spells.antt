-- `spells` by parts, as a check of a store makes its tests: the header's words, the length that E needs, the body spelt as
-- it should be, and the state valid.
use mathlib.Core.Path.{◌≡◌, refl, sym, ◌∙◌, subst}
use mathlib.Core.Bool.{Bool, true, false, ◌&&◌}
use mathlib.Core.List.{List}
use Prim.Native.Nat.{ℕ, ◌≤◌}
use lib.Dec.{eqb, leb}
use lib.ListN.{length, get_or, drop}
use Rattle.words.specs.Words.{blank}
use Rattle.words.specs.Store.{Canon, canonical}
use Rattle.words.proofs.Check.{canonical_true, canon_true}
use Rattle.rules.specs.Valid.{valid}
use Rattle.rules.specs.Calls.{needed}
use Rattle.rules.proofs.Says.{Says, says_as, says_leb, says_eqb, says_true, says_and}
use Rattle.layout.specs.Layout.{header_codec, layout_tag, body_codec, decode, spells}
use Rattle.layout.specs.Canon.{CanonStore}
use Rattle.layout.specs.Check.{header_right}
use Rattle.layout.specs.Offsets.{header_reserved_at, header_reserved}
use Rattle.layout.proofs.Header.{width_header, check_header}
use Rattle.layout.proofs.Store.{shaped_decode, entries_in_range, spells_canon, spells_valid, canon_spells}

-- two tests that say the same are the same
pub same_test : {x y : Bool} {P : Type 0} → Says x P → Says y P → x ≡ y
same_test {x = true} s r = sym (r.given (s.gives refl))
same_test {x = false} {y = true} s r = s.given (r.gives refl)
same_test {x = false} {y = false} s r = refl

-- the header's words that only one value spells
says_words : (ws : List ℕ)
    → Says (eqb (get_or ws 0 0) layout_tag && (leb (get_or ws 2 0) 1 && (leb (get_or ws 3 0) 1 && blank header_reserved (drop header_reserved_at ws))))
    ((get_or ws 0 0 ≡ layout_tag) × ((get_or ws 2 0 ≤ 1) × ((get_or ws 3 0 ≤ 1) × (blank header_reserved (drop header_reserved_at ws) ≡ true))))
says_words ws =
    says_and _ _ (says_eqb (get_or ws 0 0) layout_tag)
    (says_and _ _ (says_leb (get_or ws 2 0) 1) (says_and _ _ (says_leb (get_or ws 3 0) 1) (says_true (blank header_reserved (drop header_reserved_at ws)))))

-- what the tests of the header say
pub says_header : (ws : List ℕ) → Says (header_right ws) (Canon header_codec ws × (1 ≤ get_or ws 1 0) × (get_or ws 1 0 ≤ 4096))
unfolding header_right
says_header ws =
    says_as
    (λ k. (
      canonical_true header_codec ws
          (check_header ws k.0.0.0.0.0.0
          ∙ (says_words ws).given (k.0.0.0.0.0.1, (k.0.0.1, (k.0.1, k.1)))),
      k.0.0.0.0.1,
      k.0.0.0.1,
    ))
    (λ v.
    let l : 16 ≤ length ws = subst (λ (n : ℕ). n ≤ length ws) width_header v.0.long in
    let g : (get_or ws 0 0 ≡ layout_tag) × ((get_or ws 2 0 ≤ 1) × ((get_or ws 3 0 ≤ 1) × (blank header_reserved (drop header_reserved_at ws) ≡ true))) =
    (says_words ws).gives (sym (check_header ws l) ∙ canon_true header_codec v.0) in
    ((((((l, g.0), v.1), v.2), g.1.0), g.1.1.0), g.1.1.1))
    (says_and _ _
    (says_and _ _
    (says_and _ _
    (says_and _ _
    (says_and _ _ (says_and _ _ (says_leb 16 (length ws)) (says_eqb (get_or ws 0 0) layout_tag)) (says_leb 1 (get_or ws 1 0)))
    (says_leb (get_or ws 1 0) 4096))
    (says_leb (get_or ws 2 0) 1))
    (says_leb (get_or ws 3 0) 1))
    (says_true (blank header_reserved (drop header_reserved_at ws))))

-- a store as it should be, from its parts
pub canon_parts : (ws : List ℕ) → 1 ≤ get_or ws 1 0 → get_or ws 1 0 ≤ 4096 → needed (get_or ws 1 0) ≤ length ws
    → Canon header_codec ws → Canon (body_codec (get_or ws 1 0)) (drop 16 ws) → CanonStore (get_or ws 1 0) ws
unfolding needed
canon_parts ws h k l x y =
    record {
      E_word = refl;
      E_in = entries_in_range ws h k;
      E_from = h;
      E_to = k;
      long = l;
      long_needed = l;
      header = x;
      body = y;
      shaped = shaped_decode ws;
    }

-- that words are a store as it should be, as tests: the header, the length that E needs, the body
pub says_canon : (ws : List ℕ)
    → Says (header_right ws && leb (needed (get_or ws 1 0)) (length ws) && canonical (body_codec (get_or ws 1 0)) (drop 16 ws))
    (CanonStore (get_or ws 1 0) ws)
says_canon ws =
    says_as
    (λ k. canon_parts ws k.0.0.1 k.0.0.2 k.0.1 k.0.0.0 (canonical_true (body_codec (get_or ws 1 0)) (drop 16 ws) k.1))
    (λ h. (((h.header, h.E_from, h.E_to), h.long_needed), canon_true (body_codec (get_or ws 1 0)) h.body))
    (says_and _ _
    (says_and _ _ (says_header ws) (says_leb (needed (get_or ws 1 0)) (length ws)))
    (says_true (canonical (body_codec (get_or ws 1 0)) (drop 16 ws))))

-- what `spells` says
pub says_spells : (ws : List ℕ) → Says (spells ws) (CanonStore (get_or ws 1 0) ws × (valid (decode ws) ≡ true))
says_spells ws =
    record {
      gives =
          λ e.
          let h : CanonStore (decode ws).entries ws = spells_canon e in
          (subst (λ (n : ℕ). CanonStore n ws) (sym h.E_word) h, spells_valid ws e);
      given = λ k. canon_spells k.0 k.1;
    }

-- `spells`, test by test
pub spells_parts : (ws : List ℕ)
    → spells ws
    ≡ header_right ws && leb (needed (get_or ws 1 0)) (length ws) && canonical (body_codec (get_or ws 1 0)) (drop 16 ws)
    && valid (decode ws)
spells_parts ws =
    same_test (says_spells ws) (says_and _ _ (says_canon ws) (says_true (valid (decode ws))))
