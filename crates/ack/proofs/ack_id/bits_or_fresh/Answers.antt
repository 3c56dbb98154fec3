-- `ack::ack_id::bits_or_fresh` meets its contract: fresh bits, or the stored ones.
use mathlib.Core.Path.{sym, ◌∙◌}
use Rattle.ack.proofs.Marking.{bits_fresh, bits_stored}
use Rattle.ack.proofs.ack_id.bits_or_fresh.Goals as goal

pub returns-then-bits_empty : goal.returns-then-bits_empty
returns-then-bits_empty c =
    let a = c.args in
    bits_fresh a.bits c.fresh_unacked_bits.result a.batch (sym c.bits_empty.ensures ∙ c.if-bits_empty.true) c.fresh_unacked_bits.ensures

pub returns-else-bits_empty : goal.returns-else-bits_empty
returns-else-bits_empty c = let a = c.args in bits_stored a.bits a.batch (sym c.bits_empty.ensures ∙ c.if-bits_empty.false)
