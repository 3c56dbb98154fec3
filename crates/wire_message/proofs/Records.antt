-- A Message's record: its numbers and then its ack words, laid one after the other, are the record of the definition. And what each
-- way out of `message.rt` answers and leaves.
use Prim.Native.Nat.{ℕ, ◌-◌, ◌≤◌}
use mathlib.Core.Path.{◌≡◌, refl, sym, ap, ◌∙◌}
use mathlib.Core.List.{List, [], ◌∷◌, ◌++◌, append-nil}
use mathlib.Core.Option.{Option, none, some, map}
use native.Mathlib.Omega.{arith}
use lib.Dec.{eqb}
use lib.ListN.{length, replicate}
use lib.Seq.{drop-length}
use borrow.Author.Tests.{ne_eqb}
use Rattle.words.specs.Act.{lay}
use Rattle.words.proofs.Act.{lay_front}
use Rattle.record.specs.Flat.{record_words}
use Rattle.record.specs.declared.Dispatch.{Dispatch}
use Rattle.wire.specs.Fields.{Field}
use Rattle.wire.specs.Select.{bytes_of}
use Rattle.wire.specs.Commands.{type_of, message_of, or_16}
use Rattle.wire.specs.Commands.Reading.{refused, read}
use Rattle.wire.specs.Message.{Message, MESSAGE, content_of, message}
use Rattle.wire.specs.Answers.{record_of, message_answer, record_after}
use Rattle.wire_fields.specs.Values.{values_of, Ready}
use Rattle.wire_fields.proofs.Bases.{base_untyped, base_other, base_no_message, base_message}
use Rattle.wire_message.specs.Found.{head_of, dispatch_of, content_answer, content_after}
use Rattle.wire_message.specs.declared.content.Head.{Head}
use Rattle.std.specs.Prelude.{Result, Ok, Err}
use Rattle.wire_fields.specs.declared.unread.Unread.{Unread}
use Rattle.wire_fields.specs.declared.unread.Unread.TheVariants.{Malformed, OtherType}
use Rattle.wire_fields.specs.Unread.{unread_number, unread_word}
use Rattle.wire_message.proofs.Contents.{Contained, content_words}

-- ---- the record's words

-- ack words laid over four words of 0
words_laid : (consumer ledger entry batch_size n redelivery_count : ℕ) (words : List ℕ) → length words ≤ 4
    → (lay words).run 6 (consumer ∷ ledger ∷ entry ∷ 0 ∷ batch_size ∷ n ∷ 0 ∷ 0 ∷ 0 ∷ 0 ∷ redelivery_count ∷ 0 ∷ 0 ∷ [])
    ≡ consumer ∷ ledger ∷ entry ∷ 0 ∷ batch_size ∷ n
    ∷ (words ++ replicate (4 - length words) 0) ++ redelivery_count ∷ 0 ∷ 0 ∷ []
unfolding lay
words_laid c l e b n r [] h = refl
words_laid c l e b n r (u ∷ []) h = refl
words_laid c l e b n r (u ∷ v ∷ []) h = refl
words_laid c l e b n r (u ∷ v ∷ w ∷ []) h = refl
words_laid c l e b n r (u ∷ v ∷ w ∷ x ∷ []) h = refl
words_laid c l e b n r (u ∷ v ∷ w ∷ x ∷ y ∷ words) h = absurd (omega arith)

-- thirteen words laid over thirteen
all_laid : (vs words : List ℕ) → length vs ≡ length words → (lay vs).run 0 words ≡ vs
all_laid vs words e = lay_front vs words (omega arith) ∙ rw (e, drop-length, append-nil)

-- the numbers, then the ack words
record_laid : (x : Message) (words : List ℕ) → length words ≡ 13 → length x.ack_set ≤ 4
    → (lay x.ack_set).run 6 ((lay (record_words (dispatch_of (head_of x)))).run 0 words) ≡ record_of x
unfolding record_words dispatch_of head_of record_of
record_laid x words e h =
    ap ((lay x.ack_set).run 6) (all_laid (record_words (dispatch_of (head_of x))) words (sym e))
    ∙ words_laid x.consumer x.id.ledger x.id.entry x.batch_size (length x.ack_set) x.redelivery_count x.ack_set h

-- ---- a content read

-- the answer to a content, and the record after it
pub record ContentDone (o : Option Message) (words : List ℕ) (result : Result Unit Unread) (after : List ℕ) : Type 0 where
  pub answer : unread_word (λ _. 0) result ≡ content_answer o
  pub written : after ≡ content_after words o

-- no content
pub content_refused : (m words : List ℕ) → content_of m ≡ none → ContentDone (content_of m) words (Err Malformed) words
unfolding content_answer content_after
content_refused m words e = rw e (record { answer = refl; written = refl })

-- a content was read, and its numbers are written over thirteen words
module _
    {m : List ℕ} {h : Head} {d : Dispatch} {written : List ℕ}
    (k : Contained m h) (words : List ℕ) (thirteen : length words ≡ 13)
    (e : d ≡ dispatch_of h) (w : written ≡ (lay (record_words d)).run 0 words) where
  -- there is room for the ack words
  pub words_ready : Ready m 4 (length written) 6
  words_ready =
      let s = content_words m k.x k.is in
      let long : length written ≡ length words = ap length w ∙ (lay (record_words d)).even 0 words in
      let same : length (values_of m 4) ≡ length k.x.ack_set = ap length (sym s.are) in
      record { formed = s.formed; room = omega (arith, s.few) }

  -- and they complete the record
  pub content_filled : {after : List ℕ} → after ≡ (lay (values_of m 4)).run 6 written → ContentDone (content_of m) words (Ok tt) after
  unfolding content_answer content_after
  content_filled {after} a =
      let s = content_words m k.x k.is in
      rw k.is (record { answer = refl; written = a ∙ rw (← s.are, w, e, k.same) (record_laid k.x words thirteen s.few) })

-- ---- a Message read

-- the answer to a Message, and the record after it
pub record MessageDone (m words : List ℕ) (result : Result Unit Unread) (after : List ℕ) : Type 0 where
  pub answer : unread_word (λ _. 0) result ≡ message_answer (message m)
  pub written : after ≡ record_after words (message m)

module _ (m words : List ℕ) where
  -- what is refused changes nothing
  message_refused : (why : Unread) → message m ≡ refused (unread_number why) → MessageDone m words (Err why) words
  unfolding message_answer record_after
  message_refused why e = record { answer = rw e refl; written = rw e refl }

  -- there is no type
  pub not_typed : type_of m ≡ none → MessageDone m words (Err Malformed) words
  unfolding message
  not_typed e = message_refused Malformed (base_untyped (eqb MESSAGE) _ m e)

  -- it is another
  pub other_type : (type : ℕ) → type_of m ≡ some type → (type ≡ MESSAGE → ⊥) → MessageDone m words (Err OtherType) words
  unfolding message
  other_type type e d = message_refused OtherType (base_other (eqb MESSAGE) _ m type e (ne_eqb MESSAGE type (λ p. d (sym p))))

  module _ (e : type_of m ≡ some MESSAGE) where
    -- its message is not there
    pub no_message : message_of m MESSAGE ≡ none → MessageDone m words (Err Malformed) words
    unfolding message
    no_message f = message_refused Malformed (base_no_message (eqb MESSAGE) _ m MESSAGE e refl f)

    -- its message is there, and its content decides
    pub message_read : {f : Field} {result : Result Unit Unread} {after : List ℕ} → message_of m MESSAGE ≡ some f
        → ContentDone (content_of (bytes_of m f)) words result after → MessageDone m words result after
    unfolding message or_16 message_answer record_after content_answer content_after
    message_read {f} {result} {after} p d =
        let q = go (content_of (bytes_of m f)) d in
        let b = base_message (eqb MESSAGE) (λ (type : ℕ) (g : Field). content_of (bytes_of m g)) m MESSAGE e f refl p in
        record { answer = rw b q.0; written = rw b q.1 }
      where
        go : (o : Option Message) → ContentDone o words result after
            → (unread_word (λ _. 0) result ≡ message_answer (or_16 (map read o))) × (after ≡ record_after words (or_16 (map read o)))
        go none q = (q.answer, q.written)
        go (some x) q = (q.answer, q.written)
