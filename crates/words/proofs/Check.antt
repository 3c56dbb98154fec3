-- The check of a store by parts, as Bool equations: what `canonical` comes to for each codec.
-- Code that checks a store follows these equations one by one; `canonical_true` and `canon_true` lead to `Canon` and back.
use mathlib.Core.Path.{◌≡◌, refl, sym, ap, ap₂, ◌∙◌}
use mathlib.Core.Bool.{Bool, true, false, ◌&&◌, false≢true}
use mathlib.Core.List.{List, [], ◌∷◌, ◌++◌}
use Prim.Native.Nat.{ℕ, zero, suc, ◌+◌, ◌-◌, ◌*◌, ◌≤◌, ◌<◌, min}
use native.Mathlib.Nat.{sub_self, zero-mul}
use native.Mathlib.Numerals.{add-one}
use native.Mathlib.Omega.{arith}
use lib.Dec.{eqb, leb}
use lib.ListN.{length, get_or, drop, replicate, length-append, length-replicate, replicate-append-replicate}
use lib.Seq.{drop-cons, drop-drop}
use borrow.Author.Tests.{eqb-true, eq-eqb, ne_eqb, lt-leb, leb-true, leb-false}
use Rattle.words.specs.Codec.{Codec, Change, word, zeros, pair, via, flag, asFlag, tag, asTag, is_set, bit, upto, exactly, spell, slots, length_spell, length_slots, spell_fit}
use Rattle.words.specs.Words.{starts, blank, fit}
use Rattle.words.specs.Store.{Canon, canonical, canonicals}

and_assoc : (x y z : Bool) → x && (y && z) ≡ x && y && z
and_assoc true y z = refl
and_assoc false y z = refl

pub and_left : (x y : Bool) → x && y ≡ true → x ≡ true
and_left true y e = refl
and_left false y e = e

pub and_right : (x y : Bool) → x && y ≡ true → y ≡ true
and_right true y e = e
and_right false y e = absurd (false≢true e)

pub and_true : (x : Bool) → x && true ≡ x
and_true true = refl
and_true false = refl

-- ---- starts

-- A list starts with itself.
pub starts_self : (us r : List ℕ) → starts us (us ++ r) ≡ true
unfolding starts
starts_self [] r = refl
starts_self (u ∷ us) r = rw (eq-eqb u u refl) (starts_self us r)

-- The words that a list starts with, and the rest, are the list.
pub starts_true : (us ws : List ℕ) → starts us ws ≡ true → ws ≡ us ++ drop (length us) ws
unfolding starts
starts_true [] ws e = refl
starts_true (u ∷ us) [] e = absurd (false≢true e)
starts_true (u ∷ us) (w ∷ ws) e =
    ap₂ {C = List ℕ} ◌∷◌ (eqb-true w u (and_left (eqb w u) (starts us ws) e)) (starts_true us ws (and_right (eqb w u) (starts us ws) e))

-- To start with us and then vs: by parts.
pub starts_append : (us vs ws : List ℕ) → starts (us ++ vs) ws ≡ starts us ws && starts vs (drop (length us) ws)
unfolding starts
starts_append [] vs ws = refl
starts_append (u ∷ us) vs [] = refl
starts_append (u ∷ us) vs (w ∷ ws) = rw (starts_append us vs ws) (and_assoc (eqb w u) (starts us ws) (starts vs (drop (length us) ws)))

-- The test at an offset, one word of it.
pub starts_cons : (u : ℕ) (us ws : List ℕ) (off : ℕ) → off < length ws → starts (u ∷ us) (drop off ws) ≡ eqb (get_or ws off 0) u && starts us (drop (off + 1) ws)
unfolding starts
starts_cons u us ws off h = rw (add-one off, drop-cons ws off 0 h)

-- ---- blank

pub blank_none : (ws : List ℕ) → blank 0 ws ≡ true
unfolding blank starts
blank_none ws = refl

pub blank_cons : (k : ℕ) (ws : List ℕ) (off : ℕ) → off < length ws → blank (suc k) (drop off ws) ≡ eqb (get_or ws off 0) 0 && blank k (drop (off + 1) ws)
unfolding blank
blank_cons k ws off h = starts_cons 0 (replicate k 0) ws off h

-- The turn of a loop over n words from `off` on.
pub blank_turn : (n i off : ℕ) (ws : List ℕ) → i < n → off + i < length ws
    → blank (n - i) (drop (off + i) ws) ≡ eqb (get_or ws (off + i) 0) 0 && blank (n - (i + 1)) (drop (off + (i + 1)) ws)
blank_turn n i off ws h k =
    let e : n - i ≡ suc (n - (i + 1)) = omega arith in
    let f : off + (i + 1) ≡ off + i + 1 = omega arith in
    rw (e, f) (blank_cons (n - (i + 1)) ws (off + i) k)

-- A blank stretch by parts.
pub blank_add : (j k : ℕ) (ws : List ℕ) → blank (j + k) ws ≡ blank j ws && blank k (drop j ws)
unfolding blank
blank_add j k ws = rw (← replicate-append-replicate {A = ℕ} j k 0, starts_append (replicate j 0) (replicate k 0) ws, length-replicate {A = ℕ} j 0)

-- ---- canonical and Canon

module _ {A : Type 0} (c : Codec A) where
  -- What passes the test is canonical.
  pub canonical_true : (ws : List ℕ) → canonical c ws ≡ true → Canon c ws
  unfolding canonical
  canonical_true ws e =
      let s : ws ≡ c.enc (c.dec ws) ++ drop c.width ws = rw (c.len (c.dec ws)) at (starts_true (c.enc (c.dec ws)) ws e) in
      record { long = omega (arith, c.len (c.dec ws), ap length s ∙ length-append (c.enc (c.dec ws)) (drop c.width ws)); spelt = s }

  -- What is canonical passes the test.
  pub canon_true : {ws : List ℕ} → Canon c ws → canonical c ws ≡ true
  unfolding canonical
  canon_true {ws} h = ap (starts (c.enc (c.dec ws))) h.spelt ∙ starts_self (c.enc (c.dec ws)) (drop c.width ws)

-- ---- one word, at an offset

-- A change of type of one word: the word is the one that is spelt for what it reads as.
pub canonical_code : {B : Type 0} (v : Change word B) (off : ℕ) (ws : List ℕ) → off < length ws
    → canonical (via v) (drop off ws) ≡ eqb (get_or ws off 0) (v.from (v.to (get_or ws off 0)))
unfolding canonical via word starts
canonical_code v off ws h = rw (drop-cons ws off 0 h) (and_true (eqb (get_or ws off 0) (v.from (v.to (get_or ws off 0)))))

pub canonical_word : (off : ℕ) (ws : List ℕ) → off < length ws → canonical word (drop off ws) ≡ true
unfolding canonical word starts
canonical_word off ws h = let w : ℕ = get_or ws off 0 in rw (drop-cons ws off 0 h, eq-eqb w w refl)

flag_test : (w : ℕ) → eqb w (bit (is_set w)) ≡ leb w 1
flag_test zero = refl
flag_test (suc zero) = refl
flag_test (suc (suc n)) = ne_eqb (suc (suc n)) 1 (λ e. omega arith) ∙ sym (lt-leb (suc (suc n)) 1 (omega arith))

pub canonical_flag : (off : ℕ) (ws : List ℕ) → off < length ws → canonical flag (drop off ws) ≡ leb (get_or ws off 0) 1
unfolding flag asFlag
canonical_flag off ws h = canonical_code asFlag off ws h ∙ flag_test (get_or ws off 0)

pub canonical_tag : (n off : ℕ) (ws : List ℕ) → off < length ws → canonical (tag n) (drop off ws) ≡ eqb (get_or ws off 0) n
unfolding tag asTag
canonical_tag n off ws h = canonical_code (asTag n) off ws h

-- ---- by parts

pub canonical_zeros : (k : ℕ) (ws : List ℕ) → canonical (zeros k) ws ≡ blank k ws
unfolding canonical zeros blank
canonical_zeros k ws = refl

module _ {A B : Type 0} where
  pub canonical_pair : (c : Codec A) (d : Codec B) {w : ℕ} (sized : c.width ≡ w) (off : ℕ) (ws : List ℕ)
      → canonical (pair c d) (drop off ws) ≡ canonical c (drop off ws) && canonical d (drop (off + w) ws)
  unfolding canonical pair
  canonical_pair c d {w} sized off ws =
      rw (← drop-drop w off ws, starts_append (c.enc (c.dec (drop off ws))), c.len (c.dec (drop off ws)))
      (ap (λ (k : ℕ). canonical c (drop off ws) && canonical d (drop k (drop off ws))) sized)

  pub canonical_via : {c : Codec A} (v : Change c B) (ws : List ℕ) → v.from (v.to (c.dec ws)) ≡ c.dec ws → canonical (via v) ws ≡ canonical c ws
  unfolding canonical via
  canonical_via {c} v ws e = ap (λ (a : A). starts (c.enc a) ws) e

module _ {A : Type 0} (c : Codec A) where
  canonical_slots : (n : ℕ) (ws : List ℕ) → starts (spell c (slots c n ws)) ws ≡ canonicals c n ws
  unfolding canonical canonicals spell slots starts
  canonical_slots zero ws = refl
  canonical_slots (suc n) ws = rw (starts_append (c.enc (c.dec ws)), c.len (c.dec ws), canonical_slots n (drop c.width ws))

  pub canonicals_none : (ws : List ℕ) → canonicals c 0 ws ≡ true
  unfolding canonicals
  canonicals_none ws = refl

  -- n values in cap slots: n canonical slots, and the others blank.
  starts_fit : (n cap : ℕ) (ws : List ℕ) → n ≤ cap
      → starts (fit (cap * c.width) (spell c (slots c n ws))) ws ≡ canonicals c n ws && blank ((cap - n) * c.width) (drop (n * c.width) ws)
  unfolding blank
  starts_fit n cap ws h =
      let e : length (slots c n ws) ≡ n = length_slots c n ws in
      rw (spell_fit c cap (slots c n ws) (rw e h), starts_append (spell c (slots c n ws)), length_spell c (slots c n ws), e, canonical_slots n ws)

  pub canonical_exactly : (n : ℕ) (ws : List ℕ) → canonical (exactly c n) ws ≡ canonicals c n ws
  unfolding canonical exactly blank starts
  canonical_exactly n ws = starts_fit n n ws (omega arith) ∙ rw (sub_self, zero-mul) (and_true (canonicals c n ws))

  upto_by_count : (n cap : ℕ) (ws : List ℕ) (t : Bool) → leb n cap ≡ t
      → eqb n (min cap (length (slots c (min cap n) ws))) && starts (fit (cap * c.width) (spell c (slots c (min cap n) ws))) ws
      ≡ t && canonicals c n ws && blank ((cap - n) * c.width) (drop (n * c.width) ws)
  upto_by_count n cap ws true h =
      let k : n ≤ cap = leb-true n cap h in
      let e : min cap n ≡ n = omega arith in
      rw (e, length_slots c n ws, e, eq-eqb n n refl) (starts_fit n cap ws k)
  upto_by_count n cap ws false h =
      let k : cap < n = leb-false n cap h in
      rw (length_slots c (min cap n) ws, ne_eqb n (min cap (min cap n)) (λ e. omega arith))

module _ {A : Type 0} (c : Codec A) {w : ℕ} (sized : c.width ≡ w) where
  pub canonicals_cons : (n off : ℕ) (ws : List ℕ) → canonicals c (suc n) (drop off ws) ≡ canonical c (drop off ws) && canonicals c n (drop (off + w) ws)
  unfolding canonicals
  canonicals_cons n off ws = rw (← drop-drop w off ws) (ap (λ (k : ℕ). canonical c (drop off ws) && canonicals c n (drop k (drop off ws))) sized)

  -- The turn of a loop over n slots from `off` on.
  pub canonicals_turn : (n i off : ℕ) (ws : List ℕ) → i < n
      → canonicals c (n - i) (drop (off + i * w) ws) ≡ canonical c (drop (off + i * w) ws) && canonicals c (n - (i + 1)) (drop (off + (i + 1) * w) ws)
  canonicals_turn n i off ws h =
      let e : n - i ≡ suc (n - (i + 1)) = omega arith in
      let f : off + (i + 1) * w ≡ off + i * w + w = omega arith in
      rw (e, f) (canonicals_cons (n - (i + 1)) (off + i * w) ws)

  -- A count within cap, as many canonical slots, and the others blank.
  pub canonical_upto : (cap off : ℕ) (ws : List ℕ) → off < length ws
      → canonical (upto c cap) (drop off ws)
      ≡ leb (get_or ws off 0) cap
      && canonicals c (get_or ws off 0) (drop (off + 1) ws)
      && blank ((cap - get_or ws off 0) * w) (drop (off + 1 + get_or ws off 0 * w) ws)
  unfolding canonical upto starts
  canonical_upto cap off ws h =
      let n : ℕ = get_or ws off 0 in
      rw (← drop-drop (n * w) (off + 1) ws, add-one off, drop-cons ws off 0 h)
      (upto_by_count c n cap (drop (suc off) ws) (leb n cap) refl
      ∙ ap (λ (k : ℕ). leb n cap && canonicals c n (drop (suc off) ws) && blank ((cap - n) * k) (drop (n * k) (drop (suc off) ws))) sized)
