-- A field read by its wire type: what each way out of `field.rt` answers, from what was read of its varints.
use Prim.Native.Nat.{ℕ, ◌+◌, ◌-◌, ◌/◌, ◌%◌, ◌^◌, ◌<◌, ◌≤◌}
use mathlib.Core.Path.{◌≡◌, refl, sym, ap, ◌∙◌}
use mathlib.Core.Bool.{Bool, true, false, cond}
use mathlib.Core.List.{List}
use mathlib.Core.Option.{Option, none, some, bind}
use Rattle.std.specs.Prelude.{Some, None}
use Rattle.std.specs.Prelude as code
use native.Mathlib.Omega.{arith}
use lib.ListN.{length, drop, length-drop}
use borrow.Author.Tests.{lt-ltb, le-ltb, le-leb, lt-leb}
use Rattle.wire.specs.Varint.{varint}
use Rattle.wire.specs.Varint as wire
use Rattle.wire.specs.Fields as wire_fields
use Rattle.wire.specs.Fields.{field, field_of, varint_field, delimited_field, fixed_field, inside}
use Rattle.wire.proofs.Varint.{varint_bounds}
use Rattle.wire_fields.specs.Found.{answered, as_varint, varint_at, as_field, part_field}
use Rattle.wire_fields.proofs.Answered.{from_some, from_none}
use Rattle.wire_fields.proofs.Varints.{Read}
use Rattle.wire_fields.specs.declared.field.Field.{Field}
use Rattle.wire_fields.specs.declared.varint.Varint.{Varint}

-- a field that was read, as the code answers it
abbrev pub Is : Field → code.Option Field
Is f = Some f

-- a varint was read at a place: its number, and the place after it, which lies inside the message
pub record Was (m : List ℕ) (at value next : ℕ) : Type 0 where
  pub size : ℕ
  pub is : varint (drop at m) ≡ some (record { value = value; size = size })
  pub place : next ≡ at + size
  pub more : at < next
  pub ends : next ≤ length m
  pub fits : value < 2 ^ 64

-- what the code read is what the bytes say
pub was_read : (m : List ℕ) (at : ℕ) → at ≤ length m → (value next : ℕ) → Read value next ≡ varint_at m at → Was m at value next
unfolding varint_at as_varint
was_read m at h value next e =
    let p = from_some (as_varint at) (varint (drop at m)) e in
    let a : value ≡ p.x.value = ap (λ (v : Varint). v.value) p.same in
    let b : next ≡ at + p.x.size = ap (λ (v : Varint). v.next) p.same in
    let of : ℕ → Option wire.Varint = λ v. some (record { value = v; size = p.x.size }) in
    let l = varint_bounds (drop at m) p.x p.is in
    let d = length-drop at m in
    record { size = p.x.size; is = p.is ∙ ap of (sym a); place = b; more = omega arith; ends = omega arith; fits = omega arith }

-- no varint is there
pub not_read : (m : List ℕ) (at : ℕ) → None ≡ varint_at m at → varint (drop at m) ≡ none
unfolding varint_at
not_read m at e = from_none (as_varint at) (varint (drop at m)) e

-- ---- a varint field

pub no_varint_field : (m : List ℕ) (number at : ℕ) → varint (drop at m) ≡ none → None ≡ answered as_field (varint_field m number at)
unfolding varint_field answered
no_varint_field m number at e = rw e

pub is_varint_field : (m : List ℕ) (number at value next : ℕ) → Was m at value next
    → Is (record { number = number; wire = 0; value = value; start = at; next = next }) ≡ answered as_field (varint_field m number at)
unfolding varint_field answered as_field
is_varint_field m number at value next w = rw (w.is, w.place)

-- ---- a field of a fixed width

pub no_fixed_field : (m : List ℕ) (number wire width at : ℕ) → at ≤ length m → length m - at < width
    → None ≡ answered as_field (fixed_field m number wire width at)
unfolding fixed_field inside answered
no_fixed_field m number wire width at h l = rw (lt-leb (at + width) (length m) (omega arith))

pub is_fixed_field : (m : List ℕ) (number wire width at : ℕ) → at ≤ length m → width ≤ length m - at
    → Is (record { number = number; wire = wire; value = 0; start = at; next = at + width })
    ≡ answered as_field (fixed_field m number wire width at)
unfolding fixed_field inside answered as_field
is_fixed_field m number wire width at h l = rw (le-leb (at + width) (length m) (omega arith))

-- ---- a length-delimited field

pub no_delimited_field : (m : List ℕ) (number at : ℕ) → varint (drop at m) ≡ none → None ≡ answered as_field (delimited_field m number at)
unfolding delimited_field answered bind
no_delimited_field m number at e = rw e

-- a part that is there or not
part_told : (b : Bool) (f : wire_fields.Field) → cond b (Is (as_field f)) None ≡ answered as_field (cond b (some f) none)
unfolding answered
part_told true f = refl
part_told false f = refl

-- its length was read: what is answered of its bytes is the field
pub is_delimited_field : (m : List ℕ) (number at size start : ℕ) → Was m at size start
    → part_field m number start size ≡ answered as_field (delimited_field m number at)
unfolding part_field delimited_field inside as_field bind
is_delimited_field m number at size start w = rw (w.is, w.place) (part_told _ _)

-- ---- a tag

-- no tag is there
pub no_tag : (m : List ℕ) (at : ℕ) → varint (drop at m) ≡ none → None ≡ answered as_field (field m at)
unfolding field answered bind
no_tag m at e = rw e

module _ (m : List ℕ) (at tag after : ℕ) (w : Was m at tag after) where
  -- the number is 0
  pub number_0 : tag < 8 → None ≡ answered as_field (field m at)
  unfolding field answered bind
  number_0 l = rw (w.is, lt-leb 8 tag l)

  -- it is 2^29 or more
  pub number_high : 8 ≤ tag → 2 ^ 32 ≤ tag → None ≡ answered as_field (field m at)
  unfolding field answered bind
  number_high l g = rw (w.is, le-leb 8 tag l, le-ltb tag (2 ^ 32) g)

  -- it is a field's number
  pub number_right : 8 ≤ tag → tag < 2 ^ 32 → answered as_field (field_of m (tag / 8) (tag % 8) after) ≡ answered as_field (field m at)
  unfolding field bind
  number_right l g = rw (w.is, le-leb 8 tag l, lt-ltb tag (2 ^ 32) g, w.place)
