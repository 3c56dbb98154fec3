-- What a record that the writer takes says of a Message lies within the limits. So what is written of it is read back, and fits.
use Prim.Native.Nat.{ℕ, zero, suc, ◌^◌, ◌<◌}
use mathlib.Core.Path.{◌≡◌, refl}
use mathlib.Core.Bool.{true, ◌&&◌, and-eq-true_iff}
use mathlib.Core.List.{List, [], ◌∷◌}
use native.Mathlib.Omega.{arith}
use lib.Dec.{leb, ltb}
use lib.ListN.{get_or, drop, length-take}
use borrow.Author.Tests.{leb-true, ltb-true}
use Rattle.rules.specs.Table.{Every}
use Rattle.rules.proofs.Says.{every_head, every_tail}
use Rattle.rules.proofs.Kept.Every.{every_take, every_drop}
use Rattle.wire.specs.Answers.{message_from, writable}
use Rattle.wire.specs.Promises.{WithinLimits, IsRecord, MessagesReadBack, MessagesFit, RecordsReadBack, RecordsFit}
use Rattle.wire.proofs.Sizes.{messages_fit}
use Rattle.wire.proofs.RoundTrip.{messages_read_back}

-- a word of a record has 64 bits, and so has what stands for one past its end
word_below : (r : List ℕ) (k : ℕ) → Every (λ (w : ℕ). w < 2 ^ 64) r → get_or r k 0 < 2 ^ 64
word_below [] k h = ltb-true 0 (2 ^ 64) refl
word_below (w ∷ r) zero h = every_head h
word_below (w ∷ r) (suc k) h = word_below r k (every_tail h)

-- a record that the writer takes is a Message within the limits
pub record_within : (r : List ℕ) → IsRecord r → writable r ≡ true → WithinLimits (message_from r)
unfolding writable message_from
record_within r h e =
    let p = (and-eq-true_iff (leb (get_or r 5 0) 4) (leb (get_or r 4 0) 256 && ltb (get_or r 10 0) (2 ^ 32))).0 e in
    let q = (and-eq-true_iff (leb (get_or r 4 0) 256) (ltb (get_or r 10 0) (2 ^ 32))).0 p.1 in
    record {
      consumer = word_below r 0 h.words;
      ledger = word_below r 1 h.words;
      entry = word_below r 2 h.words;
      batch_size = leb-true (get_or r 4 0) 256 q.0;
      redelivery_count = ltb-true (get_or r 10 0) (2 ^ 32) q.1;
      count = omega (arith, length-take (get_or r 5 0) (drop 6 r), leb-true (get_or r 5 0) 4 p.0);
      words = every_take (get_or r 5 0) (drop 6 r) (every_drop 6 r h.words);
    }

-- what is written of a record is read back
pub records_read_back : RecordsReadBack
unfolding RecordsReadBack MessagesReadBack
records_read_back r h e = messages_read_back (message_from r) (record_within r h e)

-- and takes at most 114 bytes
pub records_fit : RecordsFit
unfolding RecordsFit MessagesFit
records_fit r h e = messages_fit (message_from r) (record_within r h e)
