-- Reads and writes of a list with its count in front: what `Slots.antt` says of the slots, with the count read or written too.
-- The laws ask `length l ≤ cap`, which the Ok of `upto` gives as its field `short`.
use mathlib.Core.Path.{◌≡◌, refl, ap, ap₂, ◌∙◌}
use mathlib.Core.List.{List, [], ◌∷◌, ◌++◌}
use Prim.Native.Nat.{ℕ, ◌+◌, ◌-◌, ◌*◌, ◌≤◌, ◌<◌, min}
use native.Mathlib.Nat.{zero-add, zero-mul, one-mul, sub-zero}
use native.Mathlib.Omega.{arith}
use lib.ListN.{length, set, take, drop, length-append, length-take, length-drop, length-set}
use Rattle.words.specs.Act.{Act, store, lay, clear, both, past, up, close}
use Rattle.words.specs.Codec.{Codec, exactly, upto}
use Rattle.words.specs.Field.{Reads, Writes, Place}
use Rattle.words.proofs.Act.{run_after}
use Rattle.words.proofs.Slots.{place_slot, slots_append, slots_remove, slots_insert, slots_keep}

module _ {A : Type 0} (c : Codec A) (cap : ℕ) where
  -- The count stands in front of the slots.
  enc_upto : (l : List A) (r : List ℕ) → length l ≤ cap → (upto c cap).enc l ++ r ≡ length l ∷ ((exactly c cap).enc l ++ r)
  unfolding upto exactly
  enc_upto l r h = let e : min cap (length l) ≡ length l = omega arith in rw e

  -- The first word is the count.
  pub reads_count : (l : List A) → length l ≤ cap → Reads (upto c cap) l 0 (length l)
  reads_count l h = record { got = λ r. rw (enc_upto l r h) }

  -- A change of the slots and then of the count is a change of the list.
  pub writes_list : {act : Act} {l m : List A} (i n : ℕ) → n ≡ length m → length l ≤ cap → length m ≤ cap
      → Writes (exactly c cap) l i act m → Writes (upto c cap) l 0 (both (past (1 + i) act) (store n)) m
  unfolding both past store
  writes_list {act} {l} {m} i n e h s t =
      record {
        done =
            λ r.
            let body : List ℕ = (exactly c cap).enc l ++ r in
            let ran : act.run (0 + (1 + i)) (length l ∷ body) ≡ length l ∷ act.run i body =
            ap (λ (k : ℕ). act.run k (length l ∷ body)) (zero-add (1 + i)) ∙ run_after act (length l ∷ []) body 1 i refl in
            rw (enc_upto l r h, enc_upto m r s) (ap (λ (ws : List ℕ). set ws 0 n) ran ∙ ap₂ {C = List ℕ} ◌∷◌ e (t.done r));
      }

module _ {A : Type 0} (c : Codec A) {w : ℕ} (sized : c.width ≡ w) (cap : ℕ) where
  -- Element i stands in slot i, after the count: `reads_nth` and the like say what can be done there.
  pub place_element : (l : List A) (i : ℕ) → i < length l → length l ≤ cap → Place (upto c cap) c (1 + i * w) (λ b. set l i b)
  unfolding upto exactly
  place_element l i h s =
      let p : Place (exactly c cap) c (i * w) (λ b. set l i b) = place_slot c sized cap l i h s in
      record { before = length l ∷ p.before; after = p.after; there = omega (arith, p.there); spelt = λ b. ap₂ {C = List ℕ} ◌∷◌ (rw length-set (omega arith)) (p.spelt b) }

  -- One more element at the end.
  pub writes_append : (l : List A) (x : A) → length l < cap
      → Writes (upto c cap) l 0 (both (past (1 + length l * w) (lay (c.enc x))) (store (length l + 1))) (l ++ (x ∷ []))
  writes_append l x h =
      let e : length l + 1 ≡ length (l ++ (x ∷ [])) = rw length-append in
      writes_list c cap (length l * w) (length l + 1) e (omega arith) (omega arith) (slots_append c sized cap l x h)

  -- x is put before element i.
  pub writes_insert : (l : List A) (i : ℕ) (x : A) → i ≤ length l → length l < cap
      → Writes (upto c cap) l 0 (both (past (1 + i * w) (both (up w ((length l - i) * w)) (lay (c.enc x)))) (store (length l + 1)))
      (take i l ++ x ∷ drop i l)
  writes_insert l i x h s =
      let e : length l + 1 ≡ length (take i l ++ x ∷ drop i l) = simp (length-append, length-take, length-drop) (omega arith) in
      writes_list c cap (i * w) (length l + 1) e (omega arith) (omega arith) (slots_insert c sized cap l i x h s)

  -- k elements from i on are taken out.
  pub writes_cut : (l : List A) (i k : ℕ) → i + k ≤ length l → length l ≤ cap
      → Writes (upto c cap) l 0 (both (past (1 + i * w) (close (k * w) ((length l - (i + k)) * w))) (store (length l - k)))
      (take i l ++ drop (i + k) l)
  writes_cut l i k h s =
      let e : length l - k ≡ length (take i l ++ drop (i + k) l) = simp (length-append, length-take, length-drop) (omega arith) in
      writes_list c cap (i * w) (length l - k) e s (omega arith) (slots_remove c sized cap l i k h s)

  -- Element i is taken out.
  pub writes_remove : (l : List A) (i : ℕ) → i < length l → length l ≤ cap
      → Writes (upto c cap) l 0 (both (past (1 + i * w) (close w ((length l - (i + 1)) * w))) (store (length l - 1)))
      (take i l ++ drop (i + 1) l)
  writes_remove l i h s = rw one-mul at (writes_cut l i 1 (omega arith) s)

  -- The first k elements are taken out.
  pub writes_drop : (l : List A) (k : ℕ) → k ≤ length l → length l ≤ cap
      → Writes (upto c cap) l 0 (both (past 1 (close (k * w) ((length l - k) * w))) (store (length l - k))) (drop k l)
  writes_drop l k h s = rw (zero-mul, zero-add k) at (writes_cut l 0 k (omega arith) s)

  -- The first i elements are kept.
  pub writes_keep : (l : List A) (i : ℕ) → i ≤ length l → length l ≤ cap
      → Writes (upto c cap) l 0 (both (past (1 + i * w) (clear ((length l - i) * w))) (store i)) (take i l)
  writes_keep l i h s =
      let e : i ≡ length (take i l) = rw length-take (omega arith) in
      writes_list c cap (i * w) i e s (omega arith) (slots_keep c sized cap l i h s)

  -- No element is kept.
  pub writes_empty : (l : List A) → length l ≤ cap → Writes (upto c cap) l 0 (both (past 1 (clear (length l * w))) (store 0)) []
  writes_empty l s = rw (zero-mul, sub-zero (length l)) at (writes_keep l 0 (omega arith) s)
