-- A part of a value, in its place: where the part's words stand in the spelling of the whole, what the part is now, and the
-- whole with another part there. What reads and writes a part reads and writes the whole; parts of parts are parts.
use mathlib.Core.Path.{◌≡◌, refl, ap, ◌∙◌, subst}
use mathlib.Core.List.{List}
use Prim.Native.Nat.{ℕ, ◌+◌, ◌*◌, ◌≤◌, ◌<◌}
use native.Mathlib.Nat.{add-zero}
use lib.ListN.{length, get_or, set}
use lib.Seq.{set-get_or}
use Rattle.words.specs.Act.{Act, store}
use Rattle.words.specs.Codec.{Codec, Change, word, pair, via, upto}
use Rattle.words.specs.Field.{Reads, Writes, Place, Holds}
use Rattle.words.proofs.Field.{reads_at, writes_at, reads_in, writes_in, holds_in, place_in, place_left, place_right, place_via, reads_word, writes_word}
use Rattle.words.proofs.Lists.{place_element}

-- a value a, spelt by c, has at `off` the part b, spelt by d; `whole` is a with another part there
pub record Part {A B : Type 0} (c : Codec A) (a : A) (off : ℕ) (d : Codec B) (b : B) (whole : B → A) : Type 0 where
  pub place : Place c d off whole
  pub now : whole b ≡ a

module _ {A B : Type 0} {c : Codec A} {a : A} {d : Codec B} {b : B} {whole : B → A} where
  -- the same part, its offset written another way
  pub part_at : {m n : ℕ} → m ≡ n → Part c a m d b whole → Part c a n d b whole
  part_at e p = subst (λ (k : ℕ). Part c a k d b whole) e p

  module _ {off : ℕ} (p : Part c a off d b whole) where
    -- a word of the part
    pub reads_part : {j v : ℕ} → Reads d b j v → Reads c a (off + j) v
    reads_part {j} {v} h = subst (λ (x : A). Reads c x (off + j) v) p.now (reads_in p.place h)

    -- a change of the part
    pub writes_part : {j : ℕ} {act : Act} {x : B} → Writes d b j act x → Writes c a (off + j) act (whole x)
    writes_part {j} {act} {x} h = subst (λ (y : A). Writes c y (off + j) act (whole x)) p.now (writes_in p.place h)

    -- a change from the part's first word on
    pub writes_first : {act : Act} {x : B} → Writes d b 0 act x → Writes c a off act (whole x)
    writes_first h = writes_at (add-zero off) (writes_part h)

    -- the part as it is spelt
    pub holds_part : Holds c a off d b
    holds_part = subst (λ (x : A). Holds c x off d b) p.now (holds_in p.place b)

  -- a part of a part
  pub part_in : {E : Type 0} {e : Codec E} {x : E} {m n : ℕ} {g : E → B} → Part c a m d b whole → Part d b n e x g
      → Part c a (m + n) e x (λ y. whole (g y))
  part_in p q = record { place = place_in p.place q.place; now = ap whole q.now ∙ p.now }

-- ---- one word

module _ {A : Type 0} {c : Codec A} {a : A} {off v : ℕ} {whole : ℕ → A} (p : Part c a off word v whole) where
  -- the word is read
  pub reads_one : Reads c a off v
  reads_one = reads_at (add-zero off) (reads_part p (reads_word v))

  -- and written
  pub writes_one : (x : ℕ) → Writes c a off (store x) (whole x)
  writes_one x = writes_first p (writes_word v x)

-- ---- where parts stand

module _ {A B : Type 0} (c : Codec A) (d : Codec B) {p : A × B} where
  -- the first of two
  pub first : Part (pair c d) p 0 c p.0 (λ a. (a, p.1))
  first = record { place = place_left c d p.1; now = refl }

  -- the second of two
  pub second : {w : ℕ} → c.width ≡ w → Part (pair c d) p w d p.1 (λ b. (p.0, b))
  second sized = record { place = place_right c d sized p.0; now = refl }

  module _ {E : Type 0} {e : Codec E} {x : E} {n : ℕ} where
    -- a part of the first
    pub in_first : {g : E → A} → Part c p.0 n e x g → Part (pair c d) p (0 + n) e x (λ y. (g y, p.1))
    in_first q = part_in first q

    -- a part of the second
    pub beyond : {w : ℕ} {g : E → B} → c.width ≡ w → Part d p.1 n e x g → Part (pair c d) p (w + n) e x (λ y. (p.0, g y))
    beyond sized q = part_in (second sized) q

-- by a change of type that loses nothing
pub by_change : {A B D : Type 0} {c : Codec A} (v : Change c B) {b : B} {off : ℕ} {d : Codec D} {x : D} {f : D → A}
    → ((y : D) → v.from (v.to (f y)) ≡ f y) → Part c (v.from b) off d x f → Part (via v) b off d x (λ y. v.to (f y))
by_change v {b = b} e p = record { place = place_via v e p.place; now = ap v.to p.now ∙ v.back b }

-- element i of a list
pub nth : {A : Type 0} (c : Codec A) {w : ℕ} → c.width ≡ w → (cap : ℕ) (l : List A) (i : ℕ) (z : A) → i < length l → length l ≤ cap
    → Part (upto c cap) l (1 + i * w) c (get_or l i z) (set l i)
nth c sized cap l i z h k = record { place = place_element c sized cap l i h k; now = set-get_or l i z }
