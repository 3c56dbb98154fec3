-- A Message written as a whole: its content of four pieces, and when a record is refused.
use mathlib.Core.Path.{◌≡◌, ◌∙◌}
use mathlib.Core.Bool.{true, false, ◌&&◌, and-eq-true_iff}
use mathlib.Core.List.{List}
use Prim.Native.Nat.{ℕ, ◌+◌, ◌-◌, ◌^◌, ◌≤◌, ◌<◌}
use native.Mathlib.Nat.{zero-add}
use native.Mathlib.Omega.{arith}
use lib.Dec.{leb, ltb}
use lib.ListN.{length, get_or, take, drop}
use borrow.Author.Tests.{leb-true, le-leb, lt-leb}
use Rattle.rules.proofs.Table.{by_test}
use Rattle.wire.specs.Message.{number_bytes, part_bytes, ack_set_bytes, content_bytes, message_bytes}
use Rattle.wire.specs.Answers.{message_from, writable, write_message, bytes_answer, buffer_after}
use Rattle.words.specs.Wrote.{Wrote}
use Rattle.std.specs.Prelude.{Result, Ok, Err}
use Rattle.wire_fields.specs.Found.{as_is}
use Rattle.wire_fields.specs.Unread.{unread_word}
use Rattle.wire_fields.specs.declared.unread.Unread.{Unread}
use Rattle.wire_fields.specs.declared.unread.Unread.TheVariants.{Malformed}
use Rattle.wire_write.specs.Numbers.{id_numbers}
use Rattle.words.proofs.Writers.{and_then}

-- consumer, id, redelivery count and ack words, one after the other, are a record's content
pub content_written : (words : List ℕ) {a b c d e : List ℕ} {at p q r end : ℕ}
    → Wrote 11 a at (number_bytes 1 (get_or words 0 0)) b p
    → Wrote 57 b p (part_bytes 2 (id_numbers (get_or words 1 0) (get_or words 2 0) (get_or words 4 0))) c q
    → Wrote 11 c q (number_bytes 3 (get_or words 10 0)) d r
    → Wrote 44 d r (ack_set_bytes (take (6 + get_or words 5 0 - 6) (drop 6 words))) e end
    → Wrote 123 a at (content_bytes (message_from words)) e end
unfolding content_bytes message_from
content_written words u v w x =
    let same : 6 + get_or words 5 0 - 6 ≡ get_or words 5 0 = omega arith in
    and_then (and_then (and_then u v) w) (rw same at x)

-- ---- the answer and the buffer after the call

-- both are the definition's
pub record Answered (buffer words : List ℕ) (result : Result ℕ Unread) (after : List ℕ) : Type 0 where
  pub answer : unread_word as_is result ≡ bytes_answer (write_message buffer words)
  pub bytes : after ≡ buffer_after buffer (write_message buffer words)

-- a buffer that is too small is refused
pub refuses_buffer : (buffer words : List ℕ) → length buffer < 256 → Answered buffer words (Err Malformed) buffer
unfolding write_message bytes_answer buffer_after
refuses_buffer buffer words h = let t = lt-leb 256 (length buffer) h in record { answer = rw t; bytes = rw t }

-- a record that cannot be written is refused
pub refuses_record : (buffer words : List ℕ) → writable words ≡ false → Answered buffer words (Err Malformed) buffer
unfolding write_message bytes_answer buffer_after
refuses_record buffer words t =
    by_test (leb 256 (length buffer)) (λ s. record { answer = rw (s, t); bytes = rw (s, t) }) (λ s. record { answer = rw s; bytes = rw s })

-- another is written
pub writes : {buffer after : List ℕ} {next : ℕ} (words : List ℕ) → 256 ≤ length buffer → writable words ≡ true
    → Wrote 136 buffer 0 (message_bytes (message_from words)) after next → Answered buffer words (Ok next) after
unfolding write_message bytes_answer buffer_after
writes {buffer} {next = next} words h t w =
    let s = le-leb 256 (length buffer) h in
    let e : next ≡ length (message_bytes (message_from words)) = w.ends ∙ zero-add _ in
    record { answer = rw (s, t, e); bytes = rw (s, t) w.laid }

-- a record that can be written has four words at most
pub few_words : (words : List ℕ) → writable words ≡ true → get_or words 5 0 ≤ 4
unfolding writable
few_words words t =
    leb-true (get_or words 5 0) 4
    ((and-eq-true_iff (leb (get_or words 5 0) 4) (leb (get_or words 4 0) 256 && ltb (get_or words 10 0) (2 ^ 32))).0 t).0
