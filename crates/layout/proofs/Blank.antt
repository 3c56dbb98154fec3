-- Blank slots read as records of zeros, so raising a list's count appends such records and nothing else has to be written;
-- and a list is replaced by laying another over it and clearing what is left of the old one.
use mathlib.Core.Path.{◌≡◌, refl, sym, ap, ap₂, ◌∙◌}
use mathlib.Core.Bool.{false}
use mathlib.Core.List.{List, [], ◌∷◌, ◌++◌, append_assoc}
use Prim.Native.Nat.{ℕ, zero, suc, ◌+◌, ◌-◌, ◌*◌, ◌≤◌}
use native.Mathlib.Nat.{add-mul, zero-mul, mul-one}
use native.Mathlib.Omega.{arith}
use lib.Seq.{take-length, drop-length}
use lib.ListN.{length, drop, replicate, length-append, length-replicate, replicate-append-replicate}
use Rattle.words.specs.Act.{store, lay, clear, both, past, close}
use Rattle.words.specs.Codec.{Codec, Change, word, zeros, pair, via, flag, asFlag, upto, exactly, spell, length_spell, spell_fit}
use Rattle.words.specs.Field.{Writes}
use Rattle.words.proofs.Zero.{Zero, zero_zeros, zero_pair, zero_via, zero_upto}
use Rattle.words.proofs.Act.{lay_none}
use Rattle.words.proofs.Field.{writes_as}
use Rattle.words.proofs.Slots.{spell_append, writes_from, zero_slots}
use Rattle.words.proofs.Lists.{writes_list, writes_drop, writes_empty}
use Rattle.words.proofs.Act.{lay_over}
use Rattle.rules.specs.State.{new_mark}
use Rattle.rules.specs.State.Kind.{plain}
use Rattle.layout.specs.Records.{id_codec, message_codec, as_bits, bits_codec, as_mark, mark_codec, held_codec, as_pair, pair_codec, kind_codec, as_consumer, consumer_codec, as_topic, topic_codec, as_dispatcher, dispatcher_codec}
use Rattle.layout.specs.Fields.{zero_pair as no_pair, zero_consumer, zero_topic, zero_dispatcher}

-- a value that is spelt as zeros
pub record Blank {A : Type 0} (c : Codec A) (z : A) : Type 0 where
  pub spelt : Zero c z

-- ---- what is spelt as zeros

blank_word : Blank word 0
unfolding word
blank_word = record { spelt = refl }

blank_flag : Blank flag false
unfolding flag asFlag via word
blank_flag = record { spelt = refl }

blank_zeros : (k : ℕ) → Blank (zeros k) tt
blank_zeros k = record { spelt = zero_zeros k }

blank_pair : {A B : Type 0} {c : Codec A} {d : Codec B} {a : A} {b : B} → Blank c a → Blank d b → Blank (pair c d) (a, b)
blank_pair {c = c} {d = d} {a = a} {b = b} x y = record { spelt = zero_pair c d a b x.spelt y.spelt }

blank_via : {A B : Type 0} {c : Codec A} (v : Change c B) {b : B} → Blank c (v.from b) → Blank (via v) b
blank_via v {b = b} x = record { spelt = zero_via v b x.spelt }

-- an empty list
blank_upto : {A : Type 0} (c : Codec A) (cap : ℕ) → Blank (upto c cap) []
blank_upto c cap = record { spelt = zero_upto c cap }

blank_two : Blank pair_codec no_pair
unfolding pair_codec
blank_two = blank_via as_pair (blank_pair blank_word blank_word)

-- a mark of an entry not acknowledged
pub blank_mark : Blank mark_codec new_mark
unfolding mark_codec bits_codec
blank_mark =
    blank_via as_mark
    (blank_pair blank_flag
    (blank_pair blank_word
    (blank_via as_bits (blank_pair (blank_pair blank_word blank_word) (blank_pair blank_word blank_word)))))

blank_kind : Blank kind_codec plain
unfolding kind_codec flag asFlag via word
blank_kind = record { spelt = refl }

-- a consumer of zeros
pub blank_consumer : Blank consumer_codec zero_consumer
unfolding consumer_codec
blank_consumer =
    blank_via as_consumer
    (blank_pair blank_word
    (blank_pair blank_two
    (blank_pair blank_kind
    (blank_pair blank_word (blank_pair blank_word (blank_pair (blank_upto word 64) (blank_zeros 1)))))))

-- a topic of zeros
pub blank_topic : (e : ℕ) → Blank (topic_codec e) zero_topic
unfolding topic_codec
blank_topic e = blank_via (as_topic e) (blank_pair blank_word (blank_pair (blank_zeros 2) (blank_upto message_codec e)))

-- a dispatcher of zeros
pub blank_dispatcher : (e : ℕ) → Blank (dispatcher_codec e) zero_dispatcher
unfolding dispatcher_codec
blank_dispatcher e =
    blank_via (as_dispatcher e)
    (blank_pair blank_two
    (blank_pair (blank_pair (blank_pair blank_word blank_word) (blank_pair blank_word blank_word))
    (blank_pair (blank_zeros 5)
    (blank_pair (blank_upto word 32)
    (blank_pair (blank_upto id_codec 64)
    (blank_pair (blank_upto word e) (blank_pair (blank_upto held_codec e) (blank_upto mark_codec e))))))))

-- ---- a raised count

module _ {A : Type 0} {c : Codec A} {z : A} (b : Blank c z) (cap : ℕ) where
  spell_zeros : (k : ℕ) → spell c (replicate k z) ≡ replicate (k * c.width) 0
  unfolding spell
  spell_zeros zero = rw (zero-mul c.width)
  spell_zeros (suc k) =
      let e : c.width + k * c.width ≡ suc k * c.width = omega arith in
      ap₂ {C = List ℕ} ◌++◌ b.spelt (spell_zeros k)
      ∙ replicate-append-replicate {A = ℕ} c.width (k * c.width) 0
      ∙ ap (λ (n : ℕ). replicate n 0) e

  -- slots that are left read as records of zeros
  same_slots : (l : List A) (k : ℕ) → length l + k ≤ cap → (exactly c cap).enc l ≡ (exactly c cap).enc (l ++ replicate k z)
  unfolding exactly
  same_slots l k h =
      let n : length (l ++ replicate k z) ≡ length l + k = length-append l (replicate k z)
      ∙ ap (λ (x : ℕ). length l + x) (length-replicate k z) in
      let some : k + (cap - (length l + k)) ≡ cap - length l = omega arith in
      let left : k * c.width + (cap - (length l + k)) * c.width ≡ (cap - length l) * c.width =
      sym (add-mul k (cap - (length l + k)) c.width) ∙ ap (λ (x : ℕ). x * c.width) some in
      spell_fit c cap l (omega arith)
      ∙ ap (λ (x : ℕ). spell c l ++ replicate x 0) (sym left)
      ∙ ap (λ (r : List ℕ). spell c l ++ r) (sym (replicate-append-replicate {A = ℕ} (k * c.width) ((cap - (length l + k)) * c.width) 0))
      ∙ sym (append_assoc (spell c l) (replicate (k * c.width) 0) (replicate ((cap - (length l + k)) * c.width) 0))
      ∙ ap₂ {C = List ℕ} (λ (x : List ℕ) (m : ℕ). x ++ replicate ((cap - m) * c.width) 0)
      (ap (λ (r : List ℕ). spell c l ++ r) (sym (spell_zeros k)) ∙ sym (spell_append c l (replicate k z))) (sym n)
      ∙ sym (spell_fit c cap (l ++ replicate k z) (rw n h))

  -- k records of zeros are appended by raising the count
  pub writes_raise : (l : List A) (k : ℕ) → length l + k ≤ cap → Writes (upto c cap) l 0 (store (length l + k)) (l ++ replicate k z)
  unfolding both past
  writes_raise l k h =
      let n : length (l ++ replicate k z) ≡ length l + k = length-append l (replicate k z)
      ∙ ap (λ (x : ℕ). length l + x) (length-replicate k z) in
      writes_as {x = both (past (1 + 0) (lay [])) (store (length l + k))}
      (λ ws. ap ((store (length l + k)).run 0) (sym (lay_none (0 + (1 + 0)) ws)))
      (writes_list c cap {act = lay []} 0 (length l + k) (sym n) (omega arith) (rw n h)
      (record { done = λ r. lay_none 0 ((exactly c cap).enc l ++ r) ∙ ap (λ (x : List ℕ). x ++ r) (same_slots l k h) }))

-- ---- a list replaced by a shorter one

module _ {A : Type 0} (c : Codec A) {w : ℕ} (sized : c.width ≡ w) (cap : ℕ) where
  -- the new elements are laid over the old ones, what is left of the old ones is cleared, and the count is stored
  pub writes_replace : (l m : List A) → length m ≤ length l → length l ≤ cap
      → Writes (upto c cap) l 0 (both (past 1 (lay (spell c m ++ replicate ((length l - length m) * w) 0))) (store (length m))) m
  writes_replace l m h k =
      let n : ℕ = (length l - length m) * w in
      let us : List ℕ = spell c l in
      let vs : List ℕ = spell c m ++ replicate n 0 in
      let lm : length (spell c m) ≡ length m * w = length_spell c m ∙ ap (λ (x : ℕ). length m * x) sized in
      let ll : length us ≡ length l * w = length_spell c l ∙ ap (λ (x : ℕ). length l * x) sized in
      let some : length m + (length l - length m) ≡ length l = omega arith in
      let split : length m * w + n ≡ length l * w = sym (add-mul (length m) (length l - length m) w) ∙ ap (λ (x : ℕ). x * w) some in
      let lv : length us ≡ length vs =
      ll ∙ sym split ∙ ap₂ {C = ℕ} ◌+◌ (sym lm) (sym (length-replicate {A = ℕ} n 0)) ∙ sym (length-append (spell c m) (replicate n 0)) in
      rw (zero-mul w) at
      (writes_list c cap {act = lay vs} (0 * w) (length m) refl k (omega arith)
      (writes_from c sized cap {act = lay vs} l m 0 (omega arith) k (omega arith)
      (λ r.
      lay_over us vs (replicate ((cap - length l) * w) 0 ++ r) lv
      ∙ append_assoc (spell c m) (replicate n 0) (replicate ((cap - length l) * w) 0 ++ r)
      ∙ ap (λ (t : List ℕ). spell c m ++ t) (zero_slots (length l - length m) (cap - length l) (cap - (0 + length m)) w r (omega arith)))))

  -- more elements at the end: they are laid over blank slots, and the count is stored
  pub writes_extend : (l m : List A) → length l + length m ≤ cap
      → Writes (upto c cap) l 0 (both (past (1 + length l * w) (lay (spell c m))) (store (length l + length m))) (l ++ m)
  unfolding spell
  writes_extend l m h =
      let vs : List ℕ = spell c m in
      let lm : length vs ≡ length m * w = length_spell c m ∙ ap (λ (x : ℕ). length m * x) sized in
      let lz : length (replicate {A = ℕ} (length m * w) 0) ≡ length vs = length-replicate {A = ℕ} (length m * w) 0 ∙ sym lm in
      writes_list c cap {act = lay vs} (length l * w) (length l + length m) (sym (length-append l m)) (omega arith) (rw length-append h)
      (rw (take-length l) at
      (writes_from c sized cap {act = lay vs} l m (length l) (omega arith) (omega arith) h
      (λ r.
      rw (drop-length l, ← zero_slots (length m) (cap - (length l + length m)) (cap - length l) w r (omega arith))
      (lay_over (replicate (length m * w) 0) vs (replicate ((cap - (length l + length m)) * w) 0 ++ r) lz))))

-- numbers are spelt as they are
pub spell_numbers : (l : List ℕ) → spell word l ≡ l
unfolding spell word
spell_numbers [] = refl
spell_numbers (n ∷ l) = ap {B = List ℕ} (λ r. n ∷ r) (spell_numbers l)

-- a list of numbers replaced
pub replaces_entries : (cap : ℕ) (l m : List ℕ) → length m ≤ length l → length l ≤ cap
    → Writes (upto word cap) l 0 (both (past 1 (lay (m ++ replicate (length l - length m) 0))) (store (length m))) m
unfolding word
replaces_entries cap l m h k = simp (mul-one, spell_numbers) at (writes_replace word refl cap l m h k)

-- the first k numbers are taken out
pub drops_entries : (cap : ℕ) (l : List ℕ) (k : ℕ) → k ≤ length l → length l ≤ cap
    → Writes (upto word cap) l 0 (both (past 1 (close k (length l - k))) (store (length l - k))) (drop k l)
unfolding word
drops_entries cap l k h s = simp mul-one at (writes_drop word refl cap l k h s)

-- all numbers are taken out
pub empties_entries : (cap : ℕ) (l : List ℕ) → length l ≤ cap
    → Writes (upto word cap) l 0 (both (past 1 (clear (length l))) (store 0)) []
unfolding word
empties_entries cap l s = simp mul-one at (writes_empty word refl cap l s)

-- more numbers at the end
pub extends_entries : (cap : ℕ) (l m : List ℕ) → length l + length m ≤ cap
    → Writes (upto word cap) l 0 (both (past (1 + length l) (lay m)) (store (length l + length m))) (l ++ m)
unfolding word
extends_entries cap l m h = simp (mul-one, spell_numbers) at (writes_extend word refl cap l m h)
