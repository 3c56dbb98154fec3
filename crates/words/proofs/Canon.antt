-- What `Canon` comes to for each codec, read off the Bool equations of `Check.antt`.
use mathlib.Core.Path.{◌≡◌, refl, sym, ◌∙◌}
use mathlib.Core.Logic.{◌↔◌}
use mathlib.Core.Bool.{Bool, true, ◌&&◌}
use mathlib.Core.List.{List}
use Prim.Native.Nat.{ℕ, zero, suc, ◌+◌, ◌-◌, ◌*◌, ◌≤◌, ◌<◌, suc-le-suc}
use native.Mathlib.Nat.{zero-add, add-zero, zero-mul, not-suc-le-zero, le_of_suc-le-suc}
use native.Mathlib.Omega.{arith}
use lib.Dec.{leb}
use lib.ListN.{length, get_or, drop}
use borrow.Author.Tests.{eqb-true, eq-eqb, le-leb, leb-true}
use Rattle.words.specs.Codec.{Codec, Change, word, zeros, pair, via, flag, tag, upto}
use Rattle.words.specs.Words.{blank}
use Rattle.words.specs.Store.{Canon, canonical, canonicals, Slotted}
use Rattle.words.proofs.Check.{and_left, and_right, canonical_true, canon_true, canonical_word, canonical_flag, canonical_tag, canonical_zeros, canonical_pair, canonical_via, canonical_upto, canonicals_none, canonicals_cons}

and_both : (x y : Bool) → x ≡ true → y ≡ true → x && y ≡ true
and_both x y e f = rw (e, f)

pub canon_word : (ws : List ℕ) → Canon word ws ↔ (0 < length ws)
unfolding word
canon_word ws = (λ h. h.long, λ h. canonical_true word ws (canonical_word 0 ws h))

pub canon_flag : (ws : List ℕ) → Canon flag ws ↔ ((0 < length ws) × (get_or ws 0 0 ≤ 1))
unfolding flag via word
canon_flag ws = (
  λ h. (h.long, leb-true (get_or ws 0 0) 1 (sym (canonical_flag 0 ws h.long) ∙ canon_true flag h)),
  λ h. canonical_true flag ws (canonical_flag 0 ws h.0 ∙ le-leb (get_or ws 0 0) 1 h.1),
)

pub canon_tag : (n : ℕ) (ws : List ℕ) → Canon (tag n) ws ↔ ((0 < length ws) × (get_or ws 0 0 ≡ n))
unfolding tag via word
canon_tag n ws = (
  λ h. (h.long, eqb-true (get_or ws 0 0) n (sym (canonical_tag n 0 ws h.long) ∙ canon_true (tag n) h)),
  λ h. canonical_true (tag n) ws (canonical_tag n 0 ws h.0 ∙ eq-eqb (get_or ws 0 0) n h.1),
)

pub canon_zeros : (k : ℕ) (ws : List ℕ) → Canon (zeros k) ws ↔ (blank k ws ≡ true)
canon_zeros k ws = (λ h. sym (canonical_zeros k ws) ∙ canon_true (zeros k) h, λ e. canonical_true (zeros k) ws (canonical_zeros k ws ∙ e))

module _ {A B : Type 0} where
  pub canon_pair : (c : Codec A) (d : Codec B) (ws : List ℕ) → Canon (pair c d) ws ↔ (Canon c ws × Canon d (drop c.width ws))
  canon_pair c d ws =
      let x : Bool = canonical c ws in
      let y : Bool = canonical d (drop c.width ws) in
      let e : canonical (pair c d) ws ≡ x && y = rw (zero-add c.width) at (canonical_pair c d refl 0 ws) in (
        λ h.
            let f : x && y ≡ true = sym e ∙ canon_true (pair c d) h in
            (canonical_true c ws (and_left x y f), canonical_true d (drop c.width ws) (and_right x y f)),
        λ h. canonical_true (pair c d) ws (e ∙ and_both x y (canon_true c h.0) (canon_true d h.1)),
      )

  -- A change of type that loses nothing of what is decoded.
  pub canon_via : {c : Codec A} (v : Change c B) (ws : List ℕ) → v.from (v.to (c.dec ws)) ≡ c.dec ws → Canon (via v) ws ↔ Canon c ws
  canon_via {c} v ws e = (λ h. canonical_true c ws (sym (canonical_via v ws e) ∙ canon_true (via v) h), λ h. canonical_true (via v) ws (canonical_via v ws e ∙ canon_true c h))

module _ {A : Type 0} (c : Codec A) where
  -- Slots that pass the test are canonical each, and the other way round.
  pub canon_slots : (n off : ℕ) (ws : List ℕ) → canonicals c n (drop off ws) ≡ true → (i : ℕ) → i < n → Canon c (drop (off + i * c.width) ws)
  canon_slots zero off ws e i h = absurd (not-suc-le-zero h)
  canon_slots (suc n) off ws e zero h =
      rw (zero-mul, add-zero)
      (canonical_true c (drop off ws) (and_left (canonical c (drop off ws)) (canonicals c n (drop (off + c.width) ws)) (sym (canonicals_cons c refl n off ws) ∙ e)))
  canon_slots (suc n) off ws e (suc i) h =
      let f : off + suc i * c.width ≡ off + c.width + i * c.width = omega arith in
      rw f
      (canon_slots n (off + c.width) ws
      (and_right (canonical c (drop off ws)) (canonicals c n (drop (off + c.width) ws)) (sym (canonicals_cons c refl n off ws) ∙ e)) i (le_of_suc-le-suc h))

  pub slots_canon : (n off : ℕ) (ws : List ℕ) → ((i : ℕ) → i < n → Canon c (drop (off + i * c.width) ws)) → canonicals c n (drop off ws) ≡ true
  slots_canon zero off ws f = canonicals_none c (drop off ws)
  slots_canon (suc n) off ws f =
      let first : Canon c (drop off ws) = rw (zero-mul, add-zero) at (f 0 (omega arith)) in
      let rest : (i : ℕ) → i < n → Canon c (drop (off + c.width + i * c.width) ws) =
      λ i h. let e : off + c.width + i * c.width ≡ off + suc i * c.width = omega arith in rw e (f (suc i) (suc-le-suc h)) in
      canonicals_cons c refl n off ws ∙ and_both (canonical c (drop off ws)) (canonicals c n (drop (off + c.width) ws)) (canon_true c first) (slots_canon n (off + c.width) ws rest)

  -- A canonical list: a count within cap, as many canonical slots, and the others 0.
  pub canon_upto : (cap : ℕ) (ws : List ℕ) → Canon (upto c cap) ws ↔ Slotted c cap ws
  unfolding upto
  canon_upto cap ws =
      let n : ℕ = get_or ws 0 0 in
      let x : Bool = leb n cap in
      let y : Bool = canonicals c n (drop 1 ws) in
      let z : Bool = blank ((cap - n) * c.width) (drop (1 + n * c.width) ws) in (
        λ h.
            let w : 0 < length ws = omega (arith, h.long) in
            let e : x && y && z ≡ true = sym (canonical_upto c refl cap 0 ws w) ∙ canon_true (upto c cap) h in
            let f : x && y ≡ true = and_left (x && y) z e in
            record {
              long = w;
              count = leb-true n cap (and_left x y f);
              each = canon_slots n 1 ws (and_right x y f);
              rest = and_right (x && y) z e;
            },
        λ h.
            canonical_true (upto c cap) ws
            (canonical_upto c refl cap 0 ws h.long
            ∙ and_both (x && y) z (and_both x y (le-leb n cap h.count) (slots_canon n 1 ws h.each)) h.rest),
      )
