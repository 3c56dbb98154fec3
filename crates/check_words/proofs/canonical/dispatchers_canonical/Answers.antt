-- `check_words::canonical::dispatchers_canonical` meets its contract: a table whose slots are dispatchers of 176 + 9 E words.
use mathlib.Core.Path.{refl}
use Prim.Native.Nat.{◌+◌, ◌*◌, ◌<◌}
use native.Mathlib.Omega.{arith}
use lib.ListN.{length, drop}
use borrow.Author.Rules.{rules}
use Rattle.words.specs.Store.{canonical}
use Rattle.layout.specs.Records.{dispatcher_codec}
use Rattle.layout.proofs.Widths.{width_dispatcher}
use Rattle.store.proofs.Rooms.{slot_le}
use Rattle.check_words.proofs.Tables.{table_lent, slot_lent}
use Rattle.check_words.proofs.canonical.dispatchers_canonical.Goals as goal

pub table_canonical-requires-clause-slots : goal.table_canonical-requires-clause-slots
table_canonical-requires-clause-slots c = λ i h. let k = slot_le i 8 8 (176 + 9 * c.args.e) h (omega arith) in search rules

pub returns : goal.returns
returns c =
    let a = c.args in
    let l : 2354 + 32 * a.e < length a.store.now = omega arith in
    table_lent (dispatcher_codec a.e) (width_dispatcher a.e) a.store.now (2354 + 32 * a.e) (2354 + 32 * a.e + 1) 8 refl l
    (c.table_canonical.ensures (λ j. canonical (dispatcher_codec a.e) (drop (2354 + 32 * a.e + 1 + j * (176 + 9 * a.e)) a.store.now)) (λ i r k p. slot_lent (dispatcher_codec a.e) a.store.now (2354 + 32 * a.e + 1 + i * (176 + 9 * a.e)) (search rules)))
