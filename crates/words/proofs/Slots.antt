-- Reads and writes of a list in slots: an element where it stands, and the changes of the list as a whole.
-- They are proved of `exactly`, whose list may be shorter than its slots; `Lists.antt` lifts them to `upto`, where the count stands in front.
-- `sized` says how wide an element is, so that the laws hold of the numbers that code computes with.
use mathlib.Core.Path.{◌≡◌, refl, sym, ap, ap₂, ◌∙◌}
use mathlib.Core.List.{List, [], ◌∷◌, ◌++◌, append_assoc, append-nil}
use Prim.Native.Nat.{ℕ, suc, ◌+◌, ◌-◌, ◌*◌, ◌≤◌, ◌<◌}
use native.Mathlib.Nat.{add-mul, one-mul}
use native.Mathlib.Omega.{arith}
use lib.ListN.{length, set, take, drop, replicate, length-append, length-drop, length-set, length-replicate, replicate-append-replicate, take-append-drop}
use lib.Seq.{set_split, length-take-le, drop-length, take-length, drop-drop}
use Rattle.words.specs.Act.{Act, lay, clear, both, up, close}
use Rattle.words.specs.Codec.{Codec, exactly, spell, length_spell, spell_fit}
use Rattle.words.specs.Field.{Writes, Place}
use Rattle.words.proofs.Act.{run_at, lay_over, close_words, insert_words}

-- Zero slots by parts.
pub zero_slots : (j k n w : ℕ) (r : List ℕ) → j + k ≡ n → replicate (j * w) 0 ++ (replicate (k * w) 0 ++ r) ≡ replicate (n * w) 0 ++ r
zero_slots j k n w r e =
    sym (append_assoc (replicate (j * w) 0) (replicate (k * w) 0) r)
    ∙ ap (λ (t : List ℕ). t ++ r) (replicate-append-replicate {A = ℕ} (j * w) (k * w) 0)
    ∙ ap (λ (m : ℕ). replicate m 0 ++ r) (sym (add-mul j k w) ∙ ap (λ (m : ℕ). m * w) e)

one_slot : (w : ℕ) → length (replicate {A = ℕ} (1 * w) 0) ≡ w
one_slot w = length-replicate {A = ℕ} (1 * w) 0 ∙ one-mul w

module _ {A : Type 0} (c : Codec A) where
  -- Lists are spelt by parts.
  pub spell_append : (l m : List A) → spell c (l ++ m) ≡ spell c l ++ spell c m
  unfolding spell
  spell_append [] m = refl
  spell_append (a ∷ l) m = rw (spell_append l m, append_assoc)

  spell_split : (i : ℕ) (l : List A) → spell c l ≡ spell c (take i l) ++ spell c (drop i l)
  spell_split i l = ap (spell c) (sym (take-append-drop i l)) ∙ spell_append (take i l) (drop i l)

module _ {A : Type 0} (c : Codec A) {w : ℕ} (sized : c.width ≡ w) where
  -- How many words k elements take.
  length_elements : (l : List A) (k : ℕ) → length l ≡ k → length (spell c l) ≡ k * w
  length_elements l k e = length_spell c l ∙ ap₂ ◌*◌ e sized

  -- How many words one element takes.
  length_element : (x : A) → length (c.enc x) ≡ w
  length_element x = c.len x ∙ sized

  module _ (n : ℕ) where
    -- A list in n slots: the slots that are left are 0.
    enc_filled : (l : List A) → length l ≤ n → (exactly c n).enc l ≡ spell c l ++ replicate ((n - length l) * w) 0
    unfolding exactly
    enc_filled l h = spell_fit c n l h ∙ ap (λ (k : ℕ). spell c l ++ replicate ((n - length l) * k) 0) sized

    enc_exactly : (l : List A) (r : List ℕ) → length l ≤ n → (exactly c n).enc l ++ r ≡ spell c l ++ (replicate ((n - length l) * w) 0 ++ r)
    enc_exactly l r h = rw (enc_filled l h, append_assoc (spell c l))

    -- Element i stands in slot i.
    pub place_slot : (l : List A) (i : ℕ) → i < length l → length l ≤ n → Place (exactly c n) c (i * w) (λ b. set l i b)
    unfolding spell
    place_slot l i h s =
        record {
          before = spell c (take i l);
          after = spell c (drop (suc i) l) ++ replicate ((n - length l) * w) 0;
          there = length_elements (take i l) i (length-take-le i l (omega arith));
          spelt =
              λ b.
              enc_filled (set l i b) (rw length-set s)
              ∙ rw (length-set l i b, set_split l i b h, spell_append c (take i l) (b ∷ drop (suc i) l)) (simp append_assoc);
        }

    -- An act on the slots from i on, which leaves those before.
    pub writes_from : {act : Act} (l m : List A) (i : ℕ) → i ≤ length l → length l ≤ n → i + length m ≤ n
        → ((r : List ℕ) → act.run 0 (spell c (drop i l) ++ (replicate ((n - length l) * w) 0 ++ r)) ≡ spell c m ++ (replicate ((n - (i + length m)) * w) 0 ++ r))
        → Writes (exactly c n) l (i * w) act (take i l ++ m)
    writes_from {act} l m i h s t f =
        let k : length (take i l) ≡ i = length-take-le i l h in
        let e : length (take i l ++ m) ≡ i + length m = rw (length-append, k) in
        record {
          done =
              λ r.
              rw (
                enc_exactly l r s,
                enc_exactly (take i l ++ m) r (rw e t),
                e,
                spell_split c i l,
                spell_append c (take i l) m,
                append_assoc (spell c (take i l)) (spell c (drop i l)),
                append_assoc (spell c (take i l)) (spell c m),
                run_at act (spell c (take i l)) (spell c (drop i l) ++ (replicate ((n - length l) * w) 0 ++ r)) (i * w) (length_elements (take i l) i k),
                f r,
              );
        }

    -- One more element at the end.
    pub slots_append : (l : List A) (x : A) → length l < n → Writes (exactly c n) l (length l * w) (lay (c.enc x)) (l ++ (x ∷ []))
    unfolding spell
    slots_append l x h =
        rw (take-length l) at
        (writes_from {act = lay (c.enc x)} l (x ∷ []) (length l) (omega arith) (omega arith) (omega arith)
        (λ r.
        rw (
          drop-length l,
          append-nil (c.enc x),
          ← zero_slots 1 (n - (length l + 1)) (n - length l) (w) r (omega arith),
        )
        (lay_over (replicate (1 * w) 0) (c.enc x) (replicate ((n - (length l + 1)) * w) 0 ++ r) (one_slot w ∙ sym (length_element x)))))

    -- k elements from i on are taken out.
    pub slots_remove : (l : List A) (i k : ℕ) → i + k ≤ length l → length l ≤ n
        → Writes (exactly c n) l (i * w) (close (k * w) ((length l - (i + k)) * w)) (take i l ++ drop (i + k) l)
    slots_remove l i k h s =
        let e : length (drop (i + k) l) ≡ length l - (i + k) = length-drop (i + k) l in
        let d : length (take k (drop i l)) ≡ k = length-take-le k (drop i l) (rw length-drop (omega arith)) in
        writes_from l (drop (i + k) l) i (omega arith) s (omega arith)
        (λ r.
        rw (
          spell_split c k (drop i l),
          drop-drop k i l,
          append_assoc (spell c (take k (drop i l))) (spell c (drop (i + k) l)),
          close_words (spell c (take k (drop i l))) (spell c (drop (i + k) l)) (replicate ((n - length l) * w) 0 ++ r) (k * w) ((length l - (i + k)) * w)
              (length_elements (take k (drop i l)) k d) (length_elements (drop (i + k) l) (length l - (i + k)) e),
          zero_slots k (n - length l) (n - (i + length (drop (i + k) l))) (w) r (omega arith),
        ))

    -- x is put before element i.
    pub slots_insert : (l : List A) (i : ℕ) (x : A) → i ≤ length l → length l < n
        → Writes (exactly c n) l (i * w) (both (up w ((length l - i) * w)) (lay (c.enc x))) (take i l ++ x ∷ drop i l)
    unfolding spell
    slots_insert l i x h s =
        let e : length (drop i l) ≡ length l - i = length-drop i l in
        let m : ℕ = n - (i + suc (length (drop i l))) in
        writes_from l (x ∷ drop i l) i h (omega arith) (omega arith)
        (λ r.
        rw (← zero_slots 1 m (n - length l) (w) r (omega arith), append_assoc (c.enc x))
        (insert_words (c.enc x) (spell c (drop i l)) (replicate (1 * w) 0) (replicate (m * w) 0 ++ r) (w) ((length l - i) * w)
        (length_element x) (one_slot w) (length_elements (drop i l) (length l - i) e)))

    -- The first i elements are kept.
    pub slots_keep : (l : List A) (i : ℕ) → i ≤ length l → length l ≤ n
        → Writes (exactly c n) l (i * w) (clear ((length l - i) * w)) (take i l)
    unfolding spell
    slots_keep l i h s =
        let k : ℕ = length l - i in
        rw (append-nil (take i l)) at
        (writes_from {act = clear (k * w)} l [] i h s (omega arith)
        (λ r.
        lay_over (spell c (drop i l)) (replicate (k * w) 0) (replicate ((n - length l) * w) 0 ++ r)
        (length_elements (drop i l) k (length-drop i l) ∙ sym (length-replicate {A = ℕ} (k * w) 0))
        ∙ zero_slots k (n - length l) (n - (i + 0)) (w) r (omega arith)))
