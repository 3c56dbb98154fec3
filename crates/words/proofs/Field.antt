-- How reads and writes of a part become reads and writes of a whole, for pairs, changes of type and any other place.
-- A layout's field laws are chains of these. `sized` says how wide a codec is, so that offsets are the numbers that code computes with.
use mathlib.Core.Path.{◌≡◌, refl, sym, ap, ◌∙◌, subst}
use mathlib.Core.Bool.{Bool}
use mathlib.Core.List.{List, [], ◌++◌, append_assoc, append-nil}
use Prim.Native.Nat.{ℕ, ◌+◌, ◌<◌}
use native.Mathlib.Nat.{zero-add, add-zero}
use native.Mathlib.Omega.{arith}
use lib.ListN.{get_or, set, drop, length-append, replicate, length-replicate, get_or-replicate, get_or-append}
use lib.Seq.{get_or-append-add, get_or-drop, drop_at, drop-drop, set-get_or}
use Rattle.words.specs.Act.{Act, store, lay, both, past}
use Rattle.words.specs.Codec.{Codec, Change, word, pair, via, flag, asFlag, tag, asTag, zeros, bit}
use Rattle.words.specs.Field.{Reads, Writes, Place, Holds}
use Rattle.words.proofs.Act.{lay_over}

module _ {A : Type 0} {c : Codec A} where
  -- The same word, its offset written another way.
  pub reads_at : {a : A} {m n v : ℕ} → m ≡ n → Reads c a m v → Reads c a n v
  reads_at {a} {v = v} e h = subst (λ (k : ℕ). Reads c a k v) e h

  -- The same write, its offset written another way.
  pub writes_at : {a b : A} {m n : ℕ} {act : Act} → m ≡ n → Writes c a m act b → Writes c a n act b
  writes_at {a} {b} {act = act} e h = subst (λ (k : ℕ). Writes c a k act b) e h

  -- One write and then another.
  pub writes_both : {a b d : A} {off : ℕ} {x y : Act} → Writes c a off x b → Writes c b off y d → Writes c a off (both x y) d
  unfolding both
  writes_both {off = off} {y = y} h k = record { done = λ r. ap (y.run off) (h.done r) ∙ k.done r }

  -- A write further on.
  pub writes_past : {a b : A} {x : Act} (off i : ℕ) → Writes c a (off + i) x b → Writes c a off (past i x) b
  unfolding past
  writes_past off i h = record { done = h.done }

  -- The same write, done in another way.
  pub writes_as : {a b : A} {off : ℕ} {x y : Act} → ((ws : List ℕ) → y.run off ws ≡ x.run off ws) → Writes c a off x b → Writes c a off y b
  writes_as {a} e h = record { done = λ r. e (c.enc a ++ r) ∙ h.done r }

  -- To lay the spelling of b over that of a.
  pub writes_whole : (a b : A) → Writes c a 0 (lay (c.enc b)) b
  writes_whole a b = record { done = λ r. lay_over (c.enc a) (c.enc b) r (c.len a ∙ sym (c.len b)) }

module _ {A B : Type 0} {c : Codec A} {d : Codec B} where
  module _ {off : ℕ} {whole : B → A} (p : Place c d off whole) where
    -- The spelling of the whole, around that of the part.
    around : (b : B) (r : List ℕ) → c.enc (whole b) ++ r ≡ p.before ++ (d.enc b ++ (p.after ++ r))
    around b r = rw (p.spelt b) (simp append_assoc)

    -- A word of a part is a word of the whole.
    pub reads_in : {b : B} {i v : ℕ} → Reads d b i v → Reads c (whole b) (off + i) v
    reads_in {b} {i} h = record { got = λ r. rw (around b r, ← p.there, get_or-append-add p.before) (h.got (p.after ++ r)) }

    -- A write of a part is a write of the whole.
    pub writes_in : {b e : B} {i : ℕ} {act : Act} → Writes d b i act e → Writes c (whole b) (off + i) act (whole e)
    writes_in {b} {e} {i} {act} h =
        record { done = λ r. rw (around b r, around e r, ← p.there, act.local i p.before, h.done (p.after ++ r)) }

    -- The whole holds the part.
    pub holds_in : (b : B) → Holds c (whole b) off d b
    holds_in b =
        record {
          after = λ r. p.after ++ r;
          found = λ r. rw (around b r) (drop_at p.before (d.enc b ++ (p.after ++ r)) off p.there);
        }

    -- To lay the spelling of e where that of b stands.
    pub writes_part : (b e : B) → Writes c (whole b) off (lay (d.enc e)) (whole e)
    writes_part b e = writes_at (add-zero off) (writes_in (writes_whole b e))

  -- A word of what is held.
  pub reads_held : {a : A} {b : B} {off i v : ℕ} → Holds c a off d b → Reads d b i v → Reads c a (off + i) v
  reads_held {a} {off = off} {i = i} h t =
      record { got = λ r. sym (get_or-drop off (c.enc a ++ r) i 0) ∙ ap (λ (ws : List ℕ). get_or ws i 0) (h.found r) ∙ t.got (h.after r) }

  -- What is held by what is held.
  pub holds_held : {E : Type 0} {e : Codec E} {a : A} {b : B} {x : E} {m n : ℕ} → Holds c a m d b → Holds d b n e x → Holds c a (m + n) e x
  holds_held {a = a} {m = m} {n = n} h k =
      record { after = λ r. k.after (h.after r); found = λ r. sym (drop-drop n m (c.enc a ++ r)) ∙ ap (drop n) (h.found r) ∙ k.found (h.after r) }

  -- What stands in a part of a part.
  pub place_in : {E : Type 0} {e : Codec E} {m n : ℕ} {f : B → A} {g : E → B} → Place c d m f → Place d e n g → Place c e (m + n) (λ x. f (g x))
  place_in {m = m} {n = n} {g = g} p q =
      record {
        before = p.before ++ q.before;
        after = q.after ++ p.after;
        there = rw length-append (omega (arith, p.there, q.there));
        spelt = λ x. rw (p.spelt (g x), q.spelt x) (simp append_assoc);
      }

-- ---- an element of a list, in its place

module _ {A : Type 0} {c : Codec (List A)} {d : Codec A} {off : ℕ} (l : List A) (i : ℕ) (z : A) (p : Place c d off (λ b. set l i b)) where
  pub reads_nth : {j v : ℕ} → Reads d (get_or l i z) j v → Reads c l (off + j) v
  reads_nth h = rw (set-get_or l i z) at (reads_in p h)

  pub writes_nth : {j : ℕ} {act : Act} {b : A} → Writes d (get_or l i z) j act b → Writes c l (off + j) act (set l i b)
  writes_nth h = rw (set-get_or l i z) at (writes_in p h)

  -- The element is written whole.
  pub lays_nth : (b : A) → Writes c l off (lay (d.enc b)) (set l i b)
  lays_nth b = rw (set-get_or l i z) at (writes_part p (get_or l i z) b)

  pub holds_nth : Holds c l off d (get_or l i z)
  holds_nth = rw (set-get_or l i z) at (holds_in p (get_or l i z))

-- ---- pairs: the first stands at 0, the second after it

module _ {A B : Type 0} (c : Codec A) (d : Codec B) where
  pub place_left : (b : B) → Place (pair c d) c 0 (λ a. (a, b))
  unfolding pair
  place_left b = record { before = []; after = d.enc b; there = refl; spelt = λ a. refl }

  module _ {p : A × B} where
    pub reads_left : {off v : ℕ} → Reads c p.0 off v → Reads (pair c d) p off v
    reads_left {off} h = reads_at (zero-add off) (reads_in (place_left p.1) h)

    pub writes_left : {off : ℕ} {act : Act} {a : A} → Writes c p.0 off act a → Writes (pair c d) p off act (a, p.1)
    writes_left {off} h = writes_at (zero-add off) (writes_in (place_left p.1) h)

    pub holds_left : Holds (pair c d) p 0 c p.0
    holds_left = holds_in (place_left p.1) p.0

  module _ {w : ℕ} (sized : c.width ≡ w) where
    pub place_right : (a : A) → Place (pair c d) d w (λ b. (a, b))
    unfolding pair
    place_right a = record { before = c.enc a; after = []; there = c.len a ∙ sized; spelt = λ b. rw append-nil }

    module _ {p : A × B} where
      pub reads_right : {off v : ℕ} → Reads d p.1 off v → Reads (pair c d) p (w + off) v
      reads_right h = reads_in (place_right p.0) h

      pub writes_right : {off : ℕ} {act : Act} {b : B} → Writes d p.1 off act b → Writes (pair c d) p (w + off) act (p.0, b)
      writes_right h = writes_in (place_right p.0) h

      pub holds_right : Holds (pair c d) p w d p.1
      holds_right = holds_in (place_right p.0) p.1

-- ---- changes of type

module _ {A B : Type 0} {c : Codec A} (v : Change c B) where
  pub reads_via : {b : B} {off n : ℕ} → Reads c (v.from b) off n → Reads (via v) b off n
  unfolding via
  reads_via h = record { got = h.got }

  pub writes_via : {b e : B} {off : ℕ} {act : Act} → Writes c (v.from b) off act (v.from e) → Writes (via v) b off act e
  unfolding via
  writes_via h = record { done = h.done }

  pub holds_via : {D : Type 0} {d : Codec D} {b : B} {off : ℕ} {e : D} → Holds c (v.from b) off d e → Holds (via v) b off d e
  unfolding via
  holds_via h = record { after = h.after; found = h.found }

  -- A place stays where it is, if the way to B and back changes nothing.
  pub place_via : {D : Type 0} {d : Codec D} {off : ℕ} {f : D → A} → ((x : D) → v.from (v.to (f x)) ≡ f x) → Place c d off f
      → Place (via v) d off (λ x. v.to (f x))
  unfolding via
  place_via e p = record { before = p.before; after = p.after; there = p.there; spelt = λ x. ap c.enc (e x) ∙ p.spelt x }

-- ---- one word

pub reads_word : (n : ℕ) → Reads word n 0 n
unfolding word
reads_word n = record { got = λ r. refl }

pub writes_word : (n v : ℕ) → Writes word n 0 (store v) v
unfolding word store
writes_word n v = record { done = λ r. refl }

pub reads_flag : (b : Bool) → Reads flag b 0 (bit b)
unfolding flag asFlag
reads_flag b = reads_via asFlag (reads_word (bit b))

pub writes_flag : (b e : Bool) → Writes flag b 0 (store (bit e)) e
unfolding flag asFlag
writes_flag b e = writes_via asFlag (writes_word (bit b) (bit e))

pub reads_tag : (n : ℕ) (u : Unit {0}) → Reads (tag n) u 0 n
unfolding tag asTag
reads_tag n u = reads_via (asTag n) (reads_word n)

pub reads_zeros : (k i : ℕ) (u : Unit {0}) → i < k → Reads (zeros k) u i 0
unfolding zeros
reads_zeros k i u h =
    record { got = λ r. get_or-append (replicate k 0) r 0 i (rw (length-replicate {A = ℕ} k 0) h) ∙ get_or-replicate {A = ℕ} k i 0 0 h }
