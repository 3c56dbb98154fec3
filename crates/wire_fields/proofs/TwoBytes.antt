-- A field of two bytes, which most numbers are: a tag and a number of one byte each are the field of their place.
use Prim.Native.Nat.{ℕ, ◌+◌, ◌/◌, ◌%◌, ◌<◌, ◌≤◌}
use mathlib.Core.Path.{◌≡◌, ◌∙◌}
use mathlib.Core.List.{List}
use native.Mathlib.Omega.{arith}
use lib.ListN.{length, get_or}
use borrow.Author.Tests.{eq-eqb}
use Rattle.wire.specs.Fields.{field_of}
use Rattle.wire_fields.proofs.Varints.{one_byte}
use Rattle.wire_fields.proofs.FieldsRead.{was_read, number_right, is_varint_field}
use Rattle.wire_fields.proofs.Walks.{Stands, stands}

pub two_bytes_stand : (m : List ℕ) (at tag b : ℕ) → at + 2 ≤ length m → tag ≡ get_or m at 0 → b ≡ get_or m (at + 1) 0 → 8 ≤ tag → tag < 128
    → tag % 8 ≡ 0 → b < 128 → Stands m at (record { number = tag / 8; wire = 0; value = b; start = at + 1; next = at + 2 })
unfolding field_of
two_bytes_stand m at tag b h t i l k v s =
    let w = was_read m at (omega arith) tag (at + 1) (one_byte m at tag (omega arith) t k) in
    let e : at + 1 + 1 ≡ at + 2 = omega arith in
    let x = was_read m (at + 1) (omega arith) b (at + 2) (rw e at (one_byte m (at + 1) b (omega arith) i s)) in
    let r = rw (eq-eqb (tag % 8) 0 v) at (number_right m at tag (at + 1) w l (omega arith)) in
    stands m at _ (is_varint_field m (tag / 8) (at + 1) b (at + 2) x ∙ r)
