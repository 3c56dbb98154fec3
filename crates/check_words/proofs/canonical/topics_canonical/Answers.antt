-- `check_words::canonical::topics_canonical` meets its contract: a table whose slots are topics of 4 + 4 E words.
use mathlib.Core.Path.{refl}
use Prim.Native.Nat.{◌+◌, ◌*◌, ◌<◌}
use native.Mathlib.Omega.{arith}
use lib.ListN.{length, drop}
use borrow.Author.Rules.{rules}
use Rattle.words.specs.Store.{canonical}
use Rattle.layout.specs.Records.{topic_codec}
use Rattle.layout.proofs.Widths.{width_topic}
use Rattle.store.proofs.Rooms.{slot_le}
use Rattle.check_words.proofs.Tables.{table_lent, slot_lent}
use Rattle.check_words.proofs.canonical.topics_canonical.Goals as goal

pub table_canonical-requires-clause-slots : goal.table_canonical-requires-clause-slots
table_canonical-requires-clause-slots c = λ i h. let k = slot_le i 8 8 (4 + 4 * c.args.e) h (omega arith) in search rules

pub returns : goal.returns
returns c =
    let a = c.args in
    let l : 2321 < length a.store.now = omega arith in
    table_lent (topic_codec a.e) (width_topic a.e) a.store.now 2321 2322 8 refl l
    (c.table_canonical.ensures (λ j. canonical (topic_codec a.e) (drop (2322 + j * (4 + 4 * a.e)) a.store.now)) (λ i r k p. slot_lent (topic_codec a.e) a.store.now (2322 + i * (4 + 4 * a.e)) (search rules)))
