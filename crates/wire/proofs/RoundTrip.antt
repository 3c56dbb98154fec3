-- A Message within the limits is read back from its bytes: they are fields laid one after another, of which the reader selects
-- what was written.
use Prim.Native.Nat.{ℕ, suc, ◌+◌, ◌^◌, ◌≤◌, ◌<◌}
use mathlib.Core.Path.{◌≡◌, refl, ap}
use mathlib.Core.Bool.{true, false}
use mathlib.Core.List.{List, [], ◌∷◌, ◌++◌, map, append_assoc, append-nil}
use mathlib.Core.Option.{some, bind}
use native.Mathlib.Omega.{arith}
use lib.Dec.{eqb}
use lib.ListN.{length, drop}
use borrow.Author.Tests.{leb-true, lt-ltb, le-leb}
use Rattle.rules.specs.Table.{keep, all}
use Rattle.rules.specs.State.{Id}
use Rattle.rules.proofs.Says.{every_head, every_tail}
use Rattle.wire.specs.Fields.{Field, fields}
use Rattle.wire.specs.Select.{numbered, uint64, uint32, int32, count, required, optional, part, bytes_of, up_to, numbers}
use Rattle.wire.specs.Ids.{id_of}
use Rattle.wire.specs.Commands.{or_16, type_of, message_of, base}
use Rattle.wire.specs.Commands.Reading.{read}
use Rattle.wire.specs.Message.{MESSAGE, Message, content_of, message}
use Rattle.wire.specs.Message.{number_bytes, part_bytes, minus_one, id_bytes, ack_set_bytes, content_bytes, message_bytes}
use Rattle.wire.specs.Promises.{WithinLimits, MessagesReadBack}
use Rattle.wire.proofs.Laid.{Lays, lays_none, lays_both, lays_number, lays_part, laid_fields, number_field, part_field, behind_bytes, part_is}
use Rattle.wire.proofs.Sizes.{Words, id_fits, content_fits}

-- ---- the fields of an ack set

-- the fields of an ack set's words, from a place on
ack_fields : List ℕ → ℕ → List Field
ack_fields [] at = []
ack_fields (w ∷ words) at = number_field 4 w at ∷ ack_fields words (at + length (number_bytes 4 w))

-- its bytes lay them
lays_ack_set : (words : List ℕ) → Words words → Lays (ack_set_bytes words) (ack_fields words)
unfolding ack_set_bytes ack_fields
lays_ack_set [] h = lays_none
lays_ack_set (w ∷ words) h = lays_both (lays_number 4 w (omega arith) (omega arith) (every_head h)) (lays_ack_set words (every_tail h))

-- none of them has another number
no_ack : (n : ℕ) → eqb 4 n ≡ false → (words : List ℕ) (at : ℕ) → keep (λ (f : Field). eqb f.number n) (ack_fields words at) ≡ []
unfolding keep ack_fields
no_ack n e [] at = refl
no_ack n e (w ∷ words) at = rw e (no_ack n e words (at + length (number_bytes 4 w)))

-- all of them have theirs
all_ack : (words : List ℕ) (at : ℕ) → keep (λ (f : Field). eqb f.number 4) (ack_fields words at) ≡ ack_fields words at
unfolding keep ack_fields
all_ack [] at = refl
all_ack (w ∷ words) at = ap (λ (l : List Field). number_field 4 w at ∷ l) (all_ack words (at + length (number_bytes 4 w)))

-- they are as many as the words
ack_count : (words : List ℕ) (at : ℕ) → length (ack_fields words at) ≡ length words
unfolding ack_fields
ack_count [] at = refl
ack_count (w ∷ words) at = ap suc (ack_count words (at + length (number_bytes 4 w)))

-- varints
ack_wires : (words : List ℕ) (at : ℕ) → all (λ (f : Field). eqb f.wire 0) (ack_fields words at) ≡ true
unfolding all ack_fields
ack_wires [] at = refl
ack_wires (w ∷ words) at = ack_wires words (at + length (number_bytes 4 w))

-- and have the words
ack_values : (words : List ℕ) (at : ℕ) → map (λ (f : Field). f.value) (ack_fields words at) ≡ words
unfolding ack_fields
ack_values [] at = refl
ack_values (w ∷ words) at = ap (λ (l : List ℕ). w ∷ l) (ack_values words (at + length (number_bytes 4 w)))

-- so the words are read from them
ack_read : (words : List ℕ) (at : ℕ) → length words ≤ 4 → numbers 4 (ack_fields words at) ≡ some words
unfolding numbers up_to
ack_read words at h =
    rw (ack_count words at, le-leb (length words) 4 h, ack_wires words at) (ap some (ack_values words at))

-- ---- an id

-- what is read of an id's bytes
record IdRead (id : Id) (batch_size : ℕ) : Type 0 where
  ids : List Field
  has : fields (id_bytes id batch_size) ≡ some ids
  is : id_of ids ≡ some id
  size : optional count (numbered 6 ids) ≡ some batch_size

-- is the id and its batch size
id_read : (id : Id) (batch_size : ℕ) → id.ledger < 2 ^ 64 → id.entry < 2 ^ 64 → batch_size ≤ 256 → IdRead id batch_size
unfolding id_bytes id_of bind numbered keep required optional uint64 count
id_read id batch_size l e b =
    let least : minus_one < 2 ^ 64 = leb-true _ _ refl in
    record {
      ids = _;
      has =
          laid_fields
          (lays_both
          (lays_both
          (lays_both
          (lays_both (lays_number 1 id.ledger (omega arith) (omega arith) l) (lays_number 2 id.entry (omega arith) (omega arith) e))
          (lays_number 3 minus_one (omega arith) (omega arith) least))
          (lays_number 4 minus_one (omega arith) (omega arith) least))
          (lays_number 6 batch_size (omega arith) (omega arith) (omega (arith, leb-true 257 (2 ^ 64) refl))));
      is = refl;
      size = rw (lt-ltb batch_size (2 ^ 31) (omega (arith, leb-true 257 (2 ^ 31) refl)));
    }

-- ---- the content

module _ (x : Message) (h : WithinLimits x) where
  -- the pieces of the content
  abbrev first : List ℕ
  first = number_bytes 1 x.consumer

  abbrev id_part : List ℕ
  id_part = id_bytes x.id x.batch_size

  abbrev second : List ℕ
  second = part_bytes 2 id_part

  abbrev third : List ℕ
  third = number_bytes 3 x.redelivery_count

  -- its fields
  abbrev content_fields : List Field
  content_fields =
      number_field 1 x.consumer 0 ∷ part_field 2 id_part (0 + length first) ∷ number_field 3 x.redelivery_count (0 + length (first ++ second))
      ∷ ack_fields x.ack_set (0 + length (first ++ second ++ third))

  -- its bytes have these
  has_content : fields (content_bytes x) ≡ some content_fields
  unfolding content_bytes
  has_content =
      let i = id_fits x.id x.batch_size h.ledger h.entry h.batch_size in
      laid_fields
      (lays_both
      (lays_both
      (lays_both
      (lays_number 1 x.consumer (omega arith) (omega arith) h.consumer)
      (lays_part 2 id_part (omega arith) (omega arith) (omega (arith, leb-true 48 (2 ^ 64) refl))))
      (lays_number 3 x.redelivery_count (omega arith) (omega arith) (omega (arith, leb-true (2 ^ 32) (2 ^ 64) refl))))
      (lays_ack_set x.ack_set h.words))

  -- the part of the id has the id's bytes
  id_there : bytes_of (content_bytes x) (part_field 2 id_part (0 + length first)) ≡ id_part
  unfolding content_bytes
  id_there =
      let e : drop 0 (content_bytes x) ≡ first ++ (second ++ (third ++ ack_set_bytes x.ack_set)) = simp append_assoc in
      part_is 2 id_part (omega arith) (content_bytes x) (0 + length first) (third ++ ack_set_bytes x.ack_set)
      (behind_bytes (content_bytes x) 0 first (second ++ (third ++ ack_set_bytes x.ack_set)) e)

  -- the consumer is read
  consumer_read : required uint64 (numbered 1 content_fields) ≡ some x.consumer
  unfolding required uint64 numbered keep
  consumer_read = rw (no_ack 1 refl x.ack_set (0 + length (first ++ second ++ third)))

  -- the id's part
  part_read : part (numbered 2 content_fields) ≡ some (part_field 2 id_part (0 + length first))
  unfolding part numbered keep
  part_read = rw (no_ack 2 refl x.ack_set (0 + length (first ++ second ++ third)))

  -- the redelivery count
  count_read : optional uint32 (numbered 3 content_fields) ≡ some x.redelivery_count
  unfolding optional required uint32 numbered keep
  count_read =
      rw (no_ack 3 refl x.ack_set (0 + length (first ++ second ++ third)), lt-ltb x.redelivery_count (2 ^ 32) h.redelivery_count)

  -- the words
  words_read : numbers 4 (numbered 4 content_fields) ≡ some x.ack_set
  unfolding numbered keep
  words_read =
      rw (all_ack x.ack_set (0 + length (first ++ second ++ third))) (ack_read x.ack_set (0 + length (first ++ second ++ third)) h.count)

  -- so the content is
  content_read : content_of (content_bytes x) ≡ some x
  unfolding content_of bind
  content_read =
      let i = id_read x.id x.batch_size h.ledger h.entry h.batch_size in
      rw (has_content, consumer_read, part_read, id_there, i.has, i.is, i.size, count_read, words_read)

  -- ---- the whole

  -- the fields of the whole
  abbrev whole_fields : List Field
  whole_fields = number_field 1 MESSAGE 0 ∷ part_field MESSAGE (content_bytes x) (0 + length (number_bytes 1 MESSAGE)) ∷ []

  -- its bytes have these
  has_whole : fields (message_bytes x) ≡ some whole_fields
  unfolding message_bytes
  has_whole =
      let c = content_fits x h in
      laid_fields
      (lays_both
      (lays_number 1 MESSAGE (omega arith) (omega arith) (leb-true _ _ refl))
      (lays_part MESSAGE (content_bytes x) (omega arith) (omega arith) (omega (arith, leb-true 111 (2 ^ 64) refl))))

  -- the part of the message has the content's bytes
  content_there : bytes_of (message_bytes x) (part_field MESSAGE (content_bytes x) (0 + length (number_bytes 1 MESSAGE))) ≡ content_bytes x
  unfolding message_bytes
  content_there =
      part_is MESSAGE (content_bytes x) (omega arith) (message_bytes x) (0 + length (number_bytes 1 MESSAGE)) []
      (behind_bytes (message_bytes x) 0 (number_bytes 1 MESSAGE) (part_bytes MESSAGE (content_bytes x) ++ []) (rw append-nil))

  -- so the whole is read
  whole_read : message (message_bytes x) ≡ read x
  unfolding message base or_16 type_of message_of bind required int32 part numbered keep
  whole_read = rw (has_whole, content_there, content_read)

-- a Message is read back from its bytes
pub messages_read_back : MessagesReadBack
unfolding MessagesReadBack
messages_read_back = whole_read
