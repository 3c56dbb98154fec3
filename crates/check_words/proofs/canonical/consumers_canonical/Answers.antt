-- `check_words::canonical::consumers_canonical` meets its contract: a table whose slots are consumers.
use mathlib.Core.Path.{refl}
use Prim.Native.Nat.{◌+◌, ◌*◌, ◌<◌}
use native.Mathlib.Omega.{arith}
use lib.ListN.{length, drop}
use borrow.Author.Rules.{rules}
use Rattle.words.specs.Store.{canonical}
use Rattle.layout.specs.Records.{consumer_codec}
use Rattle.layout.proofs.Widths.{width_consumer}
use Rattle.check_words.proofs.Tables.{table_lent, slot_lent}
use Rattle.check_words.proofs.canonical.consumers_canonical.Goals as goal

pub returns : goal.returns
returns c =
    let ws = c.args.store.now in
    let l : 16 < length ws = omega arith in
    table_lent consumer_codec width_consumer ws 16 17 32 refl l
    (c.table_canonical.ensures (λ j. canonical consumer_codec (drop (17 + j * 72) ws)) (λ i r k p. slot_lent consumer_codec ws (17 + i * 72) (search rules)))
