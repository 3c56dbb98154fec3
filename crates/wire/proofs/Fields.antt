-- A field that was read lies inside the message and the next one begins behind its tag; and the fields from a place on are
-- read field by field, whatever the fuel, as long as it is as many as the bytes left.
use Prim.Native.Nat.{ℕ, zero, suc, ◌+◌, ◌-◌, ◌/◌, ◌%◌, ◌^◌, ◌≤◌, ◌<◌}
use mathlib.Core.Path.{◌≡◌, refl, sym, ap, ◌∙◌, subst}
use mathlib.Core.Bool.{◌&&◌}
use mathlib.Core.List.Memᴰ
use mathlib.Core.List.{List, [], ◌∷◌, Memᴰ}
use mathlib.Core.Option.{none, some, map, bind, map-eq-some_iff, bind-eq-some_iff, none-ne-some}
use native.Mathlib.Omega.{arith}
use lib.Dec.{eqb, leb, ltb}
use lib.ListN.{length, drop, length-drop}
use lib.Seq.{length-take-le}
use borrow.Author.Tests.{leb-true, le-leb, lt-leb}
use Rattle.rules.specs.Table.{keep, Every}
use Rattle.rules.proofs.Table.{by_test}
use Rattle.rules.proofs.Says.{every_cons}
use Rattle.rules.proofs.Kept.Every.{kept_was}
use Rattle.wire.specs.Varint.{varint}
use Rattle.wire.specs.Fields.{Field, inside, varint_field, delimited_field, fixed_field, field_of, field, fields_from, fields, left}
use Rattle.wire.specs.Select.{numbered, part, bytes_of}
use Rattle.wire.proofs.Options.{bind_same, asked, answered, Gives, gives_some, gives_bind, gives_cond, gives_none}
use Rattle.wire.proofs.Varint.{varint_bounds}

-- ---- a field lies inside

-- from a place on, inside the message: what begins there begins before it ends, and it ends inside
Lies : List ℕ → ℕ → Field → Type 0
Lies m at f = (at ≤ f.start) × (f.start ≤ f.next) × (f.next ≤ length m)

-- what was tested to end inside does
ends_inside : (m : List ℕ) (f g : Field) → inside m f ≡ some g → (f ≡ g) × (g.next ≤ length m)
unfolding inside
ends_inside m f g e =
    let p = answered (leb f.next (length m)) f e in
    (p.1, rw (← p.1) (leb-true f.next (length m) p.0))

-- so does a field of a fixed width
fixed_lies : (m : List ℕ) (number wire width at : ℕ) (f : Field) → fixed_field m number wire width at ≡ some f → Lies m at f
unfolding fixed_field Lies
fixed_lies m number wire width at f e =
    let p = ends_inside m _ f e in
    let s = ap (λ (g : Field). g.start) p.0 in
    let n = ap (λ (g : Field). g.next) p.0 in
    (omega arith, omega arith, p.1)

-- a varint field
varint_lies : (m : List ℕ) (number at : ℕ) (f : Field) → varint_field m number at ≡ some f → Lies m at f
unfolding varint_field Lies
varint_lies m number at f e =
    let p = (map-eq-some_iff _ (varint (drop at m))).0 e in
    let h = varint_bounds (drop at m) p.0 p.1 in
    let l = length-drop at m in
    let s = ap (λ (g : Field). g.start) p.2 in
    let n = ap (λ (g : Field). g.next) p.2 in
    (omega arith, omega arith, omega arith)

-- a length-delimited field
delimited_lies : (m : List ℕ) (number at : ℕ) (f : Field) → delimited_field m number at ≡ some f → Lies m at f
unfolding delimited_field Lies
delimited_lies m number at f e =
    let p = (bind-eq-some_iff (varint (drop at m)) _).0 e in
    let q = ends_inside m _ f p.2 in
    let s = ap (λ (g : Field). g.start) q.0 in
    let n = ap (λ (g : Field). g.next) q.0 in
    (omega arith, omega arith, q.1)

-- whatever the wire type says
of_lies : (m : List ℕ) (number wire at : ℕ) (f : Field) → field_of m number wire at ≡ some f → Lies m at f
unfolding field_of
of_lies m number wire at f e =
    by_test (eqb wire 0)
    (λ t. varint_lies m number at f (rw t at e))
    (λ t0. by_test (eqb wire 1)
    (λ t. fixed_lies m number 1 8 at f (rw (t0, t) at e))
    (λ t1. by_test (eqb wire 2)
    (λ t. delimited_lies m number at f (rw (t0, t1, t) at e))
    (λ t2. fixed_lies m number 5 4 at f (asked (eqb wire 5) (fixed_field m number 5 4 at) (rw (t0, t1, t2) at e)).1)))

-- a field ends behind the place of its tag, not before it starts, and inside the message
pub field_lies : (m : List ℕ) (at : ℕ) (f : Field) → field m at ≡ some f → (at < f.next) × (f.start ≤ f.next) × (f.next ≤ length m)
unfolding field Lies
field_lies m at f e =
    let p = (bind-eq-some_iff (varint (drop at m)) _).0 e in
    let tag = p.0 in
    let q = asked (leb 8 tag.value && ltb tag.value (2 ^ 32)) (field_of m (tag.value / 8) (tag.value % 8) (at + tag.size)) p.2 in
    let h = varint_bounds (drop at m) tag p.1 in
    let l = of_lies m (tag.value / 8) (tag.value % 8) (at + tag.size) f q.1 in
    (omega arith, l.1, l.2)

-- ---- fields from a place on

-- two fuels that are as many as the bytes left read the same
fuel : (k j : ℕ) (m : List ℕ) (at : ℕ) → length m - at ≤ k → length m - at ≤ j → fields_from k m at ≡ fields_from j m at
unfolding fields_from
fuel zero zero m at g h = refl
fuel zero (suc j) m at g h = rw (le-leb (length m) at (omega arith))
fuel (suc k) zero m at g h = rw (le-leb (length m) at (omega arith))
fuel (suc k) (suc j) m at g h =
    by_test (leb (length m) at)
    (λ t. rw t)
    (λ t. rw t
    (bind_same (field m at) _ _
    (λ f e. let l = field_lies m at f e in ap (map (λ (r : List Field). f ∷ r)) (fuel k j m f.next (omega arith) (omega arith)))))

-- all the fields are those from the start on
pub left_start : (m : List ℕ) → left m 0 ≡ fields m
unfolding left fields
left_start m = let e : length m - 0 ≡ length m = omega arith in rw e

-- at the end there are none
pub left_end : (m : List ℕ) (at : ℕ) → length m ≤ at → left m at ≡ some []
unfolding left fields_from
left_end m at h = fuel (length m - at) 0 m at (omega arith) (omega arith) ∙ rw (le-leb (length m) at h)

-- before it the field there, and those from the next on
pub left_step : (m : List ℕ) (at : ℕ) → at < length m
    → left m at ≡ bind (field m at) (λ (f : Field). map (λ (l : List Field). f ∷ l) (left m f.next))
unfolding left fields_from
left_step m at h =
    fuel (length m - at) (suc (length m - suc at)) m at (omega arith) (omega arith)
    ∙ rw (lt-leb (length m) at h)
    (bind_same (field m at) _ _
    (λ f e. let l = field_lies m at f e in
    ap (map (λ (r : List Field). f ∷ r)) (fuel (length m - suc at) (length m - f.next) m f.next (omega arith) (omega arith))))

-- ---- every field lies inside

-- a field inside a message
abbrev pub In : List ℕ → Field → Type 0
In m f = (f.start ≤ f.next) × (f.next ≤ length m)

-- every field from a place on lies inside
from_lie : (k : ℕ) (m : List ℕ) (at : ℕ) → Gives (Every (In m)) (fields_from k m at)
unfolding fields_from
from_lie zero m at = gives_cond (Every (In m)) (leb (length m) at) (some []) none (gives_some _ [] (λ a h. absurd (Memᴰ.not-nil h))) (gives_none _)
from_lie (suc k) m at =
    gives_cond (Every (In m)) (leb (length m) at) (some []) _
    (gives_some _ [] (λ a h. absurd (Memᴰ.not-nil h)))
    (gives_bind (Every (In m)) (field m at) _
    (λ f e l g.
    let p = (map-eq-some_iff (λ (r : List Field). f ∷ r) (fields_from k m f.next)).0 g in
    let h = field_lies m at f e in
    subst (Every (In m)) p.2 (every_cons (h.1, h.2) (from_lie k m f.next p.0 p.1))))

-- every field of a message lies inside
pub fields_lie : (m : List ℕ) (fs : List Field) → fields m ≡ some fs → Every (In m) fs
unfolding fields
fields_lie m = from_lie (length m) m 0

-- a part is one of the fields
part_member : (l : List Field) (f : Field) → part l ≡ some f → Memᴰ f l
unfolding part
part_member [] f e = absurd (none-ne-some f e)
part_member (g ∷ []) f e = Memᴰ.head (sym (answered (eqb g.wire 2) g e).1)
part_member (g ∷ h ∷ l) f e = absurd (none-ne-some f e)

-- so does a part
pub part_lies : (m : List ℕ) (fs : List Field) (n : ℕ) (f : Field) → fields m ≡ some fs → part (numbered n fs) ≡ some f → In m f
unfolding numbered
part_lies m fs n f e p =
    fields_lie m fs e f (kept_was (λ (g : Field). eqb g.number n) fs f (part_member (keep (λ (g : Field). eqb g.number n) fs) f p))

-- the bytes of a part are as many as from its start to the next field
pub part_length : (m : List ℕ) (f : Field) → In m f → length (bytes_of m f) ≡ f.next - f.start
part_length m f h = length-take-le (f.next - f.start) (drop f.start m) (rw length-drop (omega arith))
