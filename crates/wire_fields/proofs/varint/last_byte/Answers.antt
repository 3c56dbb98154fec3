-- `wire_fields::varint::last_byte` meets its contract, by the lemmas of `Varints` for each way out.
use mathlib.Core.Path.{refl}
use native.Mathlib.Omega.{arith}
use lib.Pow.{shl_exact}
use Rattle.wire_fields.proofs.Varints.{cut_off, tenth, tenth_wide}
use Rattle.wire_fields.proofs.varint.last_byte.Goals as goal

pub returns-then-m-at : goal.returns-then-m-at
returns-then-m-at c = cut_off c.requires c.if-m-at.true

pub returns-then-b-gt1 : goal.returns-then-b-gt1
returns-then-b-gt1 c = tenth_wide c.requires c.from-b.result c.from-b.ensures (omega arith) c.if-b-gt1.true

pub returns : goal.returns
returns c =
    let b = c.from-b.result in
    tenth c.requires b c.from-b.ensures (omega arith) (omega arith) _ (shl_exact {a = b} 1 63 64 (omega arith) (omega arith)) _ refl
