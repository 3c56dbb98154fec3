-- Laws of `All` and `Fits`: a list that is Ok stays so when an element is set, added or taken out; and what a list decodes to.
use mathlib.Core.Path.{◌≡◌, ap, ◌∙◌}
use mathlib.Core.List.{List, [], ◌∷◌, ◌++◌}
use Prim.Native.Nat.{ℕ, zero, suc, ◌+◌, ◌*◌, ◌≤◌, ◌<◌, min}
use native.Mathlib.Nat.{zero-mul, not-suc-le-zero, le_of_suc-le-suc}
use native.Mathlib.Omega.{arith}
use lib.ListN.{length, get_or, set, take, drop, length-append, length-take, length-drop, length-set}
use lib.Seq.{drop-drop}
use Rattle.words.specs.Codec.{Codec, All, Fits, Fills, upto, slots, length_slots}

module _ {A : Type 0} (P : A → Type 0) where
  pub all_get_d : (l : List A) (i : ℕ) (d : A) → All P l → i < length l → P (get_or l i d)
  all_get_d [] i d h k = absurd (not-suc-le-zero k)
  all_get_d (a ∷ l) zero d h k = h.0
  all_get_d (a ∷ l) (suc i) d h k = all_get_d l i d h.1 (le_of_suc-le-suc k)

  pub all_set : (l : List A) (i : ℕ) (b : A) → All P l → P b → All P (set l i b)
  all_set [] i b h k = tt
  all_set (a ∷ l) zero b h k = (k, h.1)
  all_set (a ∷ l) (suc i) b h k = (h.0, all_set l i b h.1 k)

  pub all_append : (l m : List A) → All P l → All P m → All P (l ++ m)
  all_append [] m h k = k
  all_append (a ∷ l) m h k = (h.0, all_append l m h.1 k)

  pub all_take : (i : ℕ) (l : List A) → All P l → All P (take i l)
  all_take zero l h = tt
  all_take (suc i) [] h = tt
  all_take (suc i) (a ∷ l) h = (h.0, all_take i l h.1)

  pub all_drop : (i : ℕ) (l : List A) → All P l → All P (drop i l)
  all_drop zero l h = h
  all_drop (suc i) [] h = tt
  all_drop (suc i) (a ∷ l) h = all_drop i l h.1

  module _ {cap : ℕ} (l : List A) (h : Fits P cap l) where
    pub fits_set : (i : ℕ) (b : A) → P b → Fits P cap (set l i b)
    fits_set i b k = record { short = rw length-set h.short; each = all_set l i b h.each k }

    pub fits_append : (x : A) → length l < cap → P x → Fits P cap (l ++ (x ∷ []))
    fits_append x s k = record { short = rw length-append (omega arith); each = all_append l (x ∷ []) h.each (k, tt) }

    pub fits_insert : (i : ℕ) (x : A) → length l < cap → P x → Fits P cap (take i l ++ x ∷ drop i l)
    fits_insert i x s k =
        record {
          short = simp (length-append, length-take, length-drop) (omega arith);
          each = all_append (take i l) (x ∷ drop i l) (all_take i l h.each) (k, all_drop i l h.each);
        }

    pub fits_cut : (i k : ℕ) → Fits P cap (take i l ++ drop (i + k) l)
    fits_cut i k =
        record {
          short = simp (length-append, length-take, length-drop) (omega (arith, h.short));
          each = all_append (take i l) (drop (i + k) l) (all_take i l h.each) (all_drop (i + k) l h.each);
        }

    pub fits_take : (i : ℕ) → Fits P cap (take i l)
    fits_take i = record { short = rw length-take (omega (arith, h.short)); each = all_take i l h.each }

    pub fits_drop : (i : ℕ) → Fits P cap (drop i l)
    fits_drop i = record { short = rw length-drop (omega (arith, h.short)); each = all_drop i l h.each }

  pub fills_set : (n : ℕ) (l : List A) (i : ℕ) (b : A) → Fills P n l → P b → Fills P n (set l i b)
  fills_set n l i b h k = record { full = rw length-set h.full; each = all_set l i b h.each k }

-- ---- what a list decodes to

module _ {A : Type 0} (c : Codec A) where
  -- Slot i.
  pub getD_slots : (n i : ℕ) (ws : List ℕ) (d : A) → i < n → get_or (slots c n ws) i d ≡ c.dec (drop (i * c.width) ws)
  unfolding slots
  getD_slots zero i ws d h = absurd (not-suc-le-zero h)
  getD_slots (suc n) zero ws d h = rw zero-mul
  getD_slots (suc n) (suc i) ws d h =
      let e : suc i * c.width ≡ c.width + i * c.width = omega arith in
      rw (e, ← drop-drop (i * c.width) c.width ws) (getD_slots n i (drop c.width ws) d (le_of_suc-le-suc h))

  -- As many elements as the count says, and at most cap.
  pub length_dec : (cap : ℕ) (ws : List ℕ) → length ((upto c cap).dec ws) ≡ min cap (get_or ws 0 0)
  unfolding upto
  length_dec cap ws = length_slots c (min cap (get_or ws 0 0)) (drop 1 ws)

  pub dec_short : (cap : ℕ) (ws : List ℕ) → length ((upto c cap).dec ws) ≤ cap
  dec_short cap ws = rw (length_dec cap ws) (omega arith)

  -- Element i, decoded where it stands.
  pub getD_dec : {w : ℕ} (sized : c.width ≡ w) (cap i : ℕ) (ws : List ℕ) (d : A) → i < length ((upto c cap).dec ws)
      → get_or ((upto c cap).dec ws) i d ≡ c.dec (drop (1 + i * w) ws)
  unfolding upto
  getD_dec {w} sized cap i ws d h =
      getD_slots (min cap (get_or ws 0 0)) i (drop 1 ws) d (rw (length_dec cap ws) at h)
      ∙ ap (λ (k : ℕ). c.dec (drop (i * k) (drop 1 ws))) sized
      ∙ ap c.dec (drop-drop (i * w) 1 ws)
