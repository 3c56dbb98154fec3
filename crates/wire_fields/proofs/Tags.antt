-- A tag of one byte that is that of a varint field, with a number of one byte behind it: a field of two bytes, which most numbers
-- are. The readers read such a field as any other; what is said here is what they find there.
use Prim.Native.Nat.{ℕ, zero, suc, ◌+◌, ◌/◌, ◌%◌, ◌<◌, ◌≤◌}
use mathlib.Core.Path.{◌≡◌, refl, sym, ap, ◌∙◌, subst}
use mathlib.Core.Bool.{Bool, true, false, cond, ◌&&◌, and-eq-true_iff}
use mathlib.Core.List.{List}
use native.Mathlib.Omega.{arith}
use lib.Dec.{eqb, leb, ltb}
use lib.ListN.{length, get_or}
use borrow.Author.Tests.{ltb-true, leb-true, eqb-true}
use Rattle.std.specs.Prelude.{Some, None, IfSome}
use Rattle.std.specs.Prelude as code
use Rattle.wire_fields.specs.Found.{answered, as_field}
use Rattle.wire_fields.specs.Ahead.{Steps}
use Rattle.wire_fields.specs.declared.field.Field.{Field}
use Rattle.wire_fields.specs.declared.fields.Fields.{Fields}
use Rattle.wire_fields.proofs.Walks.{Stands}
use Rattle.wire_fields.proofs.TwoBytes.{two_bytes_stand}

-- the tag at a place if it is that of a varint field and has one byte; else 0, which is no tag
unfoldable pub varint_tag : List ℕ → ℕ → ℕ
varint_tag m at = cond (ltb at (length m) && (ltb (get_or m at 0) 128 && eqb (get_or m at 0 % 8) 0)) (get_or m at 0) 0

-- that of a varint field of two bytes; else 0
unfoldable pub short_tag : List ℕ → ℕ → ℕ
short_tag m at = cond (leb (at + 2) (length m) && ltb (get_or m (at + 1) 0) 128) (varint_tag m at) 0

-- what is answered under a test, and else 0, was tested if it is not 0
tested : (t : Bool) (v r : ℕ) → r ≡ cond t v 0 → (r ≡ 0 → ⊥) → (t ≡ true) × (r ≡ v)
tested true v r e n = (refl, e)
tested false v r e n = absurd (n e)

-- a tag of one byte, that of a varint field
record Tagged (m : List ℕ) (at tag : ℕ) : Type 0 where
  is : tag ≡ get_or m at 0
  high : 8 ≤ tag
  short : tag < 128
  varint : tag % 8 ≡ 0

-- it is 8 at least
at_least_8 : (tag : ℕ) → tag % 8 ≡ 0 → (tag ≡ 0 → ⊥) → 8 ≤ tag
at_least_8 tag v n = go (tag / 8) refl
  where
    go : (k : ℕ) → tag / 8 ≡ k → 8 ≤ tag
    go zero z = absurd (n (omega (arith, v)))
    go (suc k) z = omega arith

tagged : (m : List ℕ) (at tag : ℕ) → tag ≡ varint_tag m at → (tag ≡ 0 → ⊥) → Tagged m at tag
unfolding varint_tag
tagged m at tag e n =
    let p = tested (ltb at (length m) && (ltb (get_or m at 0) 128 && eqb (get_or m at 0 % 8) 0)) (get_or m at 0) tag e n in
    let q = (and-eq-true_iff (ltb at (length m)) (ltb (get_or m at 0) 128 && eqb (get_or m at 0 % 8) 0)).0 p.0 in
    let r = (and-eq-true_iff (ltb (get_or m at 0) 128) (eqb (get_or m at 0 % 8) 0)).0 q.1 in
    let v : tag % 8 ≡ 0 = rw p.1 (eqb-true (get_or m at 0 % 8) 0 r.1) in
    record {
      is = p.1;
      high = at_least_8 tag v n;
      short = rw p.1 (ltb-true (get_or m at 0) 128 r.0);
      varint = v;
    }

-- a field of two bytes
pub short_stands : (m : List ℕ) (at tag b : ℕ) → tag ≡ short_tag m at → (tag ≡ 0 → ⊥) → b ≡ get_or m (at + 1) 0
    → (at + 2 ≤ length m) × Stands m at (record { number = tag / 8; wire = 0; value = b; start = at + 1; next = at + 2 })
unfolding short_tag
short_stands m at tag b e n i =
    let p = tested (leb (at + 2) (length m) && ltb (get_or m (at + 1) 0) 128) (varint_tag m at) tag e n in
    let q = (and-eq-true_iff (leb (at + 2) (length m)) (ltb (get_or m (at + 1) 0) 128)).0 p.0 in
    let t = tagged m at tag p.1 n in
    let l = leb-true (at + 2) (length m) q.0 in
    let s : b < 128 = rw i (ltb-true (get_or m (at + 1) 0) 128 q.1) in
    (l, two_bytes_stand m at tag b l t.is i t.high t.short t.varint s)

-- so a step of a walk gives it, and goes on behind the two bytes
pub short_step : {s t : Fields} {r : code.Option (code.Option Field)} → Steps s r t → (tag b : ℕ) → tag ≡ short_tag s.m.now s.at
    → (tag ≡ 0 → ⊥) → b ≡ get_or s.m.now (s.at + 1) 0
    → (r ≡ Some (Some (record { number = tag / 8; wire = 0; value = b; start = s.at + 1; next = s.at + 2 }))) × (t.at ≡ s.at + 2)
unfolding answered
short_step {s = s} {r = None} g tag b e n i =
    let w = short_stands s.m.now s.at tag b e n i in
    let h : length s.m.now ≤ s.at = g.gives in
    absurd (omega (arith, w.0, h))
short_step {s = s} {t = t} {r = Some o} g tag b e n i =
    let w = (short_stands s.m.now s.at tag b e n i).1 in
    let k = g.gives in
    let f : o ≡ Some (as_field w.g) = k.1 ∙ ap (answered as_field) w.is in
    let p = f ∙ ap Some (sym w.same) in
    (ap Some p, subst (λ (x : code.Option Field). IfSome x (λ f. t.at ≡ f.next)) p k.2)
