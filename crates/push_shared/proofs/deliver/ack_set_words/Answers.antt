-- `push_shared::deliver::ack_set_words` meets its contract: by whether bits are stored.
use mathlib.Core.Path.{◌≡◌, sym, ◌∙◌}
use Prim.Native.Nat.{◌+◌, ◌/◌}
use native.Mathlib.Omega.{arith}
use Rattle.bits.specs.Bits.{word_count}
use Rattle.push_shared.proofs.deliver.ack_set_words.Goals as goal

pub returns-then-bits_empty : goal.returns-then-bits_empty
returns-then-bits_empty c = rw (sym c.bits_empty.ensures ∙ c.if-bits_empty.true)

pub returns-else-bits_empty : goal.returns-else-bits_empty
unfolding word_count
returns-else-bits_empty c =
    let n = c.div_ceil.ensures in
    let k : c.div_ceil.result ≡ (c.args.batch + 63) / 64 = omega arith in
    rw (sym c.bits_empty.ensures ∙ c.if-bits_empty.false, k)
