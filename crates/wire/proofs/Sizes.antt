-- How many bytes a Message within the limits takes: at most 114, and the largest takes them. A number of 64 bits takes eleven
-- with its tag, the batch size three, the redelivery count six; the lengths of the id and of the message take a byte each.
use Prim.Native.Nat.{ℕ, zero, suc, ◌-◌, ◌*◌, ◌^◌, ◌≤◌, ◌<◌}
use mathlib.Core.Path.{refl}
use mathlib.Core.List.Memᴰ
use mathlib.Core.List.{List, [], ◌∷◌}
use native.Mathlib.Omega.{arith}
use lib.ListN.{length, replicate, length-append}
use borrow.Author.Tests.{leb-true}
use Rattle.rules.specs.Table.{Every}
use Rattle.rules.specs.State.{Id}
use Rattle.rules.proofs.Says.{every_cons, every_head, every_tail}
use Rattle.wire.specs.Varint.{written_within, written}
use Rattle.wire.specs.Message.{MESSAGE, Message, number_bytes, part_bytes, minus_one, id_bytes, ack_set_bytes, content_bytes, message_bytes}
use Rattle.wire.specs.Promises.{WithinLimits, MessagesFit, largest, LargestTakes114}
use Rattle.wire.proofs.Written.{written_length, written_short}
use Rattle.wire.proofs.Laid.{number_size, part_size}

-- words of 64 bits
abbrev pub Words : List ℕ → Type 0
Words words = Every (λ (w : ℕ). w < 2 ^ 64) words

-- a number of 64 bits takes eleven bytes at most
number_fits : (n v : ℕ) → n < 16 → v < 2 ^ 64 → length (number_bytes n v) ≤ 11
number_fits n v q h = omega (arith, number_size n v q, written_short v)

-- an id with its batch size
pub id_fits : (id : Id) (batch_size : ℕ) → id.ledger < 2 ^ 64 → id.entry < 2 ^ 64 → batch_size ≤ 256 → length (id_bytes id batch_size) ≤ 47
unfolding id_bytes
id_fits id batch_size l e b =
    let least : minus_one < 2 ^ 64 = leb-true _ _ refl in
    let f₁ = number_fits 1 id.ledger (omega arith) l in
    let f₂ = number_fits 2 id.entry (omega arith) e in
    let f₃ = number_fits 3 minus_one (omega arith) least in
    let f₄ = number_fits 4 minus_one (omega arith) least in
    let f₅ = number_size 6 batch_size (omega arith) in
    let w = written_length 1 batch_size (omega (arith, leb-true 257 (128 ^ 2) refl)) in
    simp length-append (omega arith)

-- the words of an ack set
ack_set_fits : (words : List ℕ) → Words words → length (ack_set_bytes words) ≤ 11 * length words
unfolding ack_set_bytes
ack_set_fits [] h = omega arith
ack_set_fits (w ∷ words) h =
    let f = number_fits 4 w (omega arith) (every_head h) in
    let r = ack_set_fits words (every_tail h) in
    rw length-append (omega arith)

module _ (x : Message) (h : WithinLimits x) where
  -- the id's length takes a byte
  id_part_fits : length (part_bytes 2 (id_bytes x.id x.batch_size)) ≤ 49
  id_part_fits =
      let i = id_fits x.id x.batch_size h.ledger h.entry h.batch_size in
      let w = written_length 0 (length (id_bytes x.id x.batch_size)) (omega arith) in
      omega (arith, part_size 2 (id_bytes x.id x.batch_size) (omega arith))

  -- the content
  pub content_fits : length (content_bytes x) ≤ 110
  unfolding content_bytes
  content_fits =
      let f₁ = number_fits 1 x.consumer (omega arith) h.consumer in
      let f₂ = id_part_fits in
      let f₃ = number_size 3 x.redelivery_count (omega arith) in
      let w = written_length 4 x.redelivery_count (omega (arith, leb-true (2 ^ 32) (128 ^ 5) refl)) in
      let f₄ = ack_set_fits x.ack_set h.words in
      simp length-append (omega arith)

  -- the whole
  fits : length (message_bytes x) ≤ 114
  unfolding message_bytes
  fits =
      let c = content_fits in
      let f₁ = number_size 1 MESSAGE (omega arith) in
      let w₁ = written_length 0 MESSAGE (omega arith) in
      let f₂ = part_size MESSAGE (content_bytes x) (omega arith) in
      let w₂ = written_length 0 (length (content_bytes x)) (omega arith) in
      rw length-append (omega arith)

-- a Message takes at most 114 bytes
pub messages_fit : MessagesFit
unfolding MessagesFit
messages_fit = fits

-- a list of one word has only words like it
same_words : (n w : ℕ) → w < 2 ^ 64 → Words (replicate n w)
same_words zero w h = λ a i. absurd (Memᴰ.not-nil i)
same_words (suc n) w h = every_cons h (same_words n w h)

-- the largest takes all of them
pub largest_takes_114 : LargestTakes114
unfolding LargestTakes114 largest message_bytes content_bytes id_bytes ack_set_bytes part_bytes number_bytes written written_within
largest_takes_114 =
    let most : 2 ^ 64 - 1 < 2 ^ 64 = leb-true _ _ refl in (
      record {
        consumer = most;
        ledger = most;
        entry = most;
        batch_size = omega arith;
        redelivery_count = leb-true _ _ refl;
        count = omega arith;
        words = same_words 4 (2 ^ 64 - 1) most;
      },
      refl,
    )
