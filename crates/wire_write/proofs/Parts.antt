-- Fields of a message written: one of a number, one of bytes whose length is filled in after them, the words of an ack set.
use mathlib.Core.Path.{◌≡◌, ap}
use mathlib.Core.List.{List, [], ◌∷◌}
use Prim.Native.Nat.{ℕ, ◌+◌, ◌-◌, ◌*◌, ◌≤◌, ◌<◌}
use native.Mathlib.Numerals.{add-one}
use native.Mathlib.Omega.{arith}
use lib.ListN.{length, get_or, set, drop, length-append, drop_of_length-le}
use lib.Seq.{drop-cons}
use Rattle.wire.specs.Varint.{written}
use Rattle.wire.specs.Message.{number_bytes, part_bytes, ack_set_bytes}
use Rattle.words.specs.Wrote.{Wrote}
use Rattle.words.proofs.Writers.{wrote_byte, and_then, byte_before, Left, left_start, left_on, left_end}
use Rattle.wire.proofs.Written.{written_short}
use Rattle.wire_write.proofs.Varints.{last_byte}

-- a number below 128 is its own varint
one_byte : (v : ℕ) → v < 128 → written v ≡ v ∷ []
unfolding written
one_byte v h = last_byte 9 v h

-- a tag and a varint are a field
pub number_written : {before after : List ℕ} {at next : ℕ} (field number : ℕ) → field < 16
    → Wrote 10 (set before at (field * 8)) (at + 1) (written number) after next → Wrote 11 before at (number_bytes field number) after next
unfolding number_bytes
number_written {before} {at = at} field number h w =
    rw (one_byte (field * 8) (omega arith)) (and_then (wrote_byte before at (field * 8)) w)

-- a tag, a byte left open, some bytes, and then their number in the open byte are a part
pub part_written : {most : ℕ} {before bytes now : List ℕ} {at next : ℕ} (field : ℕ) → field < 15 → most < 128
    → Wrote most (set before at (field * 8 + 2)) (at + 2) bytes now next
    → Wrote (2 + most) before at (part_bytes field bytes) (set now (at + 1) (next - (at + 2))) next
unfolding part_bytes
part_written {most} {before} {bytes} {now} {at} {next} field h g w =
    let tag = field * 8 + 2 in
    let size = length bytes in
    let e : next - (at + 2) ≡ size = omega arith in
    let f : at + 2 ≡ at + 1 + 1 = omega arith in
    rw (e, one_byte tag (omega arith), one_byte size (omega arith))
    (and_then (and_then (wrote_byte before at tag) (wrote_byte (set before at tag) (at + 1) size))
    (byte_before (at + 1) size (omega arith) (rw f at w)))

-- ---- the loop over the words of an ack set

-- a field of a word has eleven bytes at most
word_short : (w : ℕ) → length (number_bytes 4 w) ≤ 11
unfolding number_bytes
word_short w =
    let e = length-append (written 32) (written w) in
    let t : length (written 32) ≡ 1 = ap length (one_byte 32 (omega arith)) in
    omega (arith, written_short w)

-- so have as many fields as there are words
words_short : (ws : List ℕ) → length (ack_set_bytes ws) ≤ 11 * length ws
unfolding ack_set_bytes
words_short [] = omega arith
words_short (w ∷ ws) =
    let e = length-append (number_bytes 4 w) (ack_set_bytes ws) in omega (arith, word_short w, words_short ws)

-- Of some words i are written, and the fields of the others, laid from here on, finish the fields of all.
pub record Words (before : List ℕ) (at : ℕ) (words now : List ℕ) (here i : ℕ) : Type 0 where
  pub inside : i ≤ length words
  pub near : here ≤ at + 11 * i
  pub rest : Left before at (ack_set_bytes words) now here (ack_set_bytes (drop i words))

-- none at first
pub words_start : (before : List ℕ) (at : ℕ) (words : List ℕ) → Words before at words before at 0
words_start before at words =
    record { inside = omega arith; near = omega arith; rest = left_start before at (ack_set_bytes words) }

-- one word more
pub words_on : {before words now after : List ℕ} {at here next i : ℕ} → Words before at words now here i → i < length words
    → Wrote 11 now here (number_bytes 4 (get_or words i 0)) after next → Words before at words after next (i + 1)
unfolding ack_set_bytes
words_on {words = words} {i = i} p h w =
    record {
      inside = omega arith;
      near = omega arith;
      rest = rw (add-one i) (left_on (rw (drop-cons words i 0 h) at p.rest) w);
    }

-- all of them
pub words_end : {before words now : List ℕ} {at here i : ℕ} → Words before at words now here i → length words ≤ i → length words ≤ 4
    → Wrote 44 before at (ack_set_bytes words) now here
unfolding ack_set_bytes
words_end {words = words} {i = i} p h g =
    left_end 44 (omega (arith, words_short words)) (rw (drop_of_length-le words {i = i} h) at p.rest)
