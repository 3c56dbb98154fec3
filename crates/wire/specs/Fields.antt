-- A message of the wire is the list of its fields. A field is a tag, which has its number and its wire type, and what the
-- wire type says: 0 a varint, 1 eight bytes, 2 a length and that many bytes, 5 four bytes. Groups (3, 4) and other types
-- are no field, and neither is what runs past the message's end.
use Rattle.std.specs.Prelude.{ℕ, zero, suc, ◌+◌, ◌-◌, ◌/◌, ◌%◌, ◌^◌, cond, ◌&&◌, List, [], ◌∷◌, eqb, leb, ltb, length, drop}
use Rattle.std.proofs.Math.Option.{Option, none, some, map, bind}
use Rattle.wire.specs.Varint.{Varint, varint}

-- a field: its number and wire type, the number that a varint has (else 0), and the places in the message where what the
-- wire type says begins (of type 2 the bytes after the length) and where the next field begins
pub record Field : Type 0 where
  pub number : ℕ
  pub wire : ℕ
  pub value : ℕ
  pub start : ℕ
  pub next : ℕ

-- a field that ends inside the message
unfoldable pub inside : List ℕ → Field → Option Field
inside m f = cond (leb f.next (length m)) (some f) none

-- a varint field whose number stands at a place
unfoldable pub varint_field : List ℕ → ℕ → ℕ → Option Field
varint_field m number at =
    map
    (λ (v : Varint). record { number = number; wire = 0; value = v.value; start = at; next = at + v.size })
    (varint (drop at m))

-- a length-delimited field whose length stands at a place
unfoldable pub delimited_field : List ℕ → ℕ → ℕ → Option Field
delimited_field m number at =
    bind (varint (drop at m))
    (λ (v : Varint). inside m
    (record { number = number; wire = 2; value = 0; start = at + v.size; next = at + v.size + v.value }))

-- a field of a fixed width
unfoldable pub fixed_field : List ℕ → ℕ → ℕ → ℕ → ℕ → Option Field
fixed_field m number wire width at =
    inside m (record { number = number; wire = wire; value = 0; start = at; next = at + width })

-- what a wire type says, from a place on
unfoldable pub field_of : List ℕ → ℕ → ℕ → ℕ → Option Field
field_of m number wire at =
    cond (eqb wire 0) (varint_field m number at)
    (cond (eqb wire 1) (fixed_field m number 1 8 at)
    (cond (eqb wire 2) (delimited_field m number at)
    (cond (eqb wire 5) (fixed_field m number 5 4 at)
    none)))

-- the field whose tag stands at a place: the tag is number × 8 + wire type, the number from 1 to 2^29 - 1
unfoldable pub field : List ℕ → ℕ → Option Field
field m at =
    bind (varint (drop at m))
    (λ (tag : Varint). cond (leb 8 tag.value && ltb tag.value (2 ^ 32))
    (field_of m (tag.value / 8) (tag.value % 8) (at + tag.size))
    none)

-- the fields from a place on, k of them at most, up to the message's end
unfoldable pub fields_from : ℕ → List ℕ → ℕ → Option (List Field)
fields_from zero m at = cond (leb (length m) at) (some []) none
fields_from (suc k) m at =
    cond (leb (length m) at) (some [])
    (bind (field m at) (λ (f : Field). map (λ (l : List Field). f ∷ l) (fields_from k m f.next)))

-- the fields of a message, in order; a field takes a byte at least, so that there are no more than bytes
unfoldable pub fields : List ℕ → Option (List Field)
fields m = fields_from (length m) m 0

-- the fields from a place on, up to the message's end
unfoldable pub left : List ℕ → ℕ → Option (List Field)
left m at = fields_from (length m - at) m at
