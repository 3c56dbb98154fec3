-- `wire_fields::varint::varint_at` meets its contract: a byte that ends the varint is all of it.
use native.Mathlib.Omega.{arith}
use Rattle.wire_fields.proofs.Varints.{partway_start, cut_off, one_byte}
use Rattle.wire_fields.proofs.varint.varint_at.Goals as goal

pub returns-then-m-at : goal.returns-then-m-at
returns-then-m-at c = cut_off (partway_start _ _ c.requires) (omega arith)

pub returns-then-b-lt-MORE : goal.returns-then-b-lt-MORE
returns-then-b-lt-MORE c = one_byte _ _ _ (omega arith) c.from-b.ensures c.if-b-lt-MORE.true
