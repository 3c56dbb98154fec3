-- What the code of this crate answers, by the definitions of the wire.
use Rattle.std.specs.Prelude.{ℕ, ◌+◌, ◌-◌, ◌*◌, ◌^◌, ◌<◌, ◌≤◌, ◌≡◌, cond, List}
use Rattle.std.specs.Prelude.{leb, length, drop, Option, Some, None}
use Rattle.std.proofs.Math.Option.{none, some, map}
use Rattle.std.proofs.Math.Option as math
use Rattle.wire.specs.Varint.{varint, varint_within}
use Rattle.wire.specs.Varint as wire
use Rattle.wire.specs.Fields as wire_fields
use Rattle.wire_fields.specs.declared.field.Field.{Field}
use Rattle.wire_fields.specs.declared.varint.Varint.{Varint}

-- what is there or not by the wire's definitions, as the code answers it
unfoldable pub answered : {A B : Type 0} → (A → B) → math.Option A → Option B
answered f none = None
answered f (some x) = Some (f x)

-- what the code has as the definitions do
abbrev pub as_is : {A : Type 0} → A → A
as_is x = x

-- a varint read at a place, as the code has it
unfoldable pub as_varint : ℕ → wire.Varint → Varint
as_varint at v = record { value = v.value; next = at + v.size }

-- the varint at a place
unfoldable pub varint_at : List ℕ → ℕ → Option Varint
varint_at m at = answered (as_varint at) (varint (drop at m))

-- a varint with a number of some bytes before it
unfoldable pub after : ℕ → ℕ → wire.Varint → wire.Varint
after value size v = record { value = value + 2 ^ (7 * size) * v.value; size = size + v.size }

-- some bytes of the varint at a place are read, and each says that another follows: what is left decides
pub record Partway (m : List ℕ) (at value size : ℕ) : Type 0 where
  pub inside : at + size ≤ length m
  pub few : size ≤ 9
  pub small : value < 2 ^ (7 * size)
  pub rest : varint_within 10 (drop at m) ≡ map (after value size) (varint_within (10 - size) (drop (at + size) m))

-- a field as the code has it
unfoldable pub as_field : wire_fields.Field → Field
as_field f = record { number = f.number; wire = f.wire; value = f.value; start = f.start; next = f.next }

-- a part of some bytes from a place on, if the message has them
unfoldable pub part_field : List ℕ → ℕ → ℕ → ℕ → Option Field
part_field m number start size =
    cond (leb (start + size) (length m)) (Some (record { number = number; wire = 2; value = 0; start = start; next = start + size })) None
