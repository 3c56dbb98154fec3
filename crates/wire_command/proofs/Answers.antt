-- The answer, the eight words and the list at each way out of `read.rt`.
use Prim.Native.Nat.{ℕ, ◌-◌, ◌*◌, ◌^◌, ◌≤◌, ◌<◌}
use mathlib.Core.Path.{◌≡◌, refl, sym, ap, ◌∙◌}
use mathlib.Core.Bool.{true, false, true≢false}
use mathlib.Core.List.{List}
use mathlib.Core.Option.{Option, none, some}
use native.Mathlib.Omega.{arith}
use lib.ListN.{length, take, drop}
use lib.Dec.{eqb}
use borrow.Author.Tests.{lt-ltb, le-ltb, eqb-true}
use Rattle.rules.proofs.Table.{by_test}
use Rattle.rules.specs.State.Kind.{plain, shared}
use Rattle.rules.specs.Commands.Target.{start, to_id}
use Rattle.words.specs.Act.{lay}
use Rattle.wire.specs.Commands.{Command, Reading, or_16, type_of, message_of, takes_command, command_of, command}
use Rattle.wire.specs.Commands.{SUBSCRIBE, ACK, FLOW, CLOSE_CONSUMER, REDELIVER, SEEK}
use Rattle.wire.specs.Commands.Command.{Subscribe, Flow, Ack, Seek, Redeliver, Close}
use Rattle.wire.specs.Commands.Reading.{refused}
use Rattle.wire.specs.Answers.{LIST_WORDS, read_command, kind_word, target_words, command_words}
use Rattle.wire.specs.Answers.{command_answer, command_after, ids_after}
use Rattle.wire_fields.proofs.Bases.{Placed, base_untyped, base_other, base_no_message, base_message}
use Rattle.std.specs.Prelude.{None, Some, Result, Ok, Err}
use Rattle.std.specs.Result.{result_ok}
use Rattle.wire_fields.specs.Found.{answered}
use Rattle.wire_fields.specs.declared.unread.Unread.{Unread}
use Rattle.wire_fields.specs.Unread.{unread_number, unread_word}
use Rattle.wire_fields.proofs.Answered.{Told, from_none}
use Rattle.command_parts.specs.Parts.{kind_of}
use Rattle.wire_command.specs.Found.{as_name, as_kind, as_target, as_command, words_of, content_reading, ids_words}
use Rattle.wire_command.specs.Types.{type_number, type_from}
use Rattle.wire_command.specs.declared.command_type.CommandType.{CommandType}
use Rattle.wire_command.specs.declared.command_type.CommandType.TheVariants as code_type
use Rattle.wire_command.specs.declared.command.Command as code
use Rattle.wire_command.proofs.Choices.{Chosen}

-- a call's answer, eight words and list, by what was read
pub record Done (r : Reading Command) (words list : List ℕ) (result : Result CommandType Unread) (words_after list_after : List ℕ) : Type 0 where
  pub answer : unread_word type_number result ≡ command_answer r
  pub written : words_after ≡ command_after words r
  pub laid : list_after ≡ ids_after list r

-- what is refused changes nothing
pub refused_done : {r : Reading Command} (why : Unread) (words list : List ℕ) → r ≡ refused (unread_number why)
    → Done r words list (Err why) words list
unfolding command_answer command_after ids_after
refused_done why words list e = rw e (record { answer = refl; written = refl; laid = refl })

-- what is done by one name of what was read is done by the other
pub same_done : {r s : Reading Command} {result : Result CommandType Unread} {words_after list_after : List ℕ} (words list : List ℕ) → r ≡ s
    → Done s words list result words_after list_after → Done r words list result words_after list_after
same_done words list e d = rw e d

-- ---- a content

-- there is none
pub told_no_command : (o : Option Command) → None ≡ answered as_command o → content_reading o ≡ refused 16
unfolding content_reading or_16
told_no_command o e = rw (from_none as_command o e)

-- the eight words are those of the command
words_same : (c : Command) → words_of (as_command c) ≡ command_words c
unfolding words_of as_command command_words as_name as_kind kind_of kind_word as_target target_words
words_same (Subscribe consumer request plain topic subscription) = refl
words_same (Subscribe consumer request shared topic subscription) = refl
words_same (Flow consumer permits) = refl
words_same (Ack consumer ids) = refl
words_same (Seek consumer request start) = refl
words_same (Seek consumer request (to_id id)) = refl
words_same (Redeliver consumer ids) = refl
words_same (Close consumer request) = refl

-- a command was read: the type is answered, its words are written and its ids laid
pub read_done : {o : Option Command} {c : code.Command} {m : List ℕ} {kind : CommandType} (words list : List ℕ) (t : Told as_command o c)
    → Chosen m (type_number kind) t.x
    → {words_after list_after : List ℕ} → words_after ≡ words_of c → list_after ≡ (lay (ids_words (type_number kind) m)).run 0 list
    → Done (content_reading o) words list (Ok kind) words_after list_after
unfolding content_reading or_16 command_answer command_after ids_after
read_done words list t k w l =
    rw t.is (record {
      answer = ap (λ (n : ℕ). n * 256) (sym k.type);
      written = w ∙ ap words_of t.same ∙ words_same t.x;
      laid = l ∙ ap (λ (ws : List ℕ). (lay ws).run 0 list) (sym k.list);
    })

-- ---- the whole

-- a list that is too short
pub too_short : (list bytes : List ℕ) → length list < LIST_WORDS → read_command list bytes ≡ refused 16
unfolding read_command
too_short list bytes h = rw (lt-ltb (length list) LIST_WORDS h)

-- one that is long enough: the BaseCommand decides
module _ (list bytes : List ℕ) (h : LIST_WORDS ≤ length list) where
  long_enough : read_command list bytes ≡ command bytes
  unfolding read_command
  long_enough = rw (le-ltb (length list) LIST_WORDS h)

  -- there is no type
  pub untyped : type_of bytes ≡ none → read_command list bytes ≡ refused 16
  unfolding command
  untyped e = long_enough ∙ base_untyped takes_command _ bytes e

  module _ {kind : ℕ} (e : type_of bytes ≡ some kind) where
    -- the type is another
    pub other_type : takes_command kind ≡ false → read_command list bytes ≡ refused 17
    unfolding command
    other_type t = long_enough ∙ base_other takes_command _ bytes kind e t

    -- its message is not there
    pub no_message : takes_command kind ≡ true → message_of bytes kind ≡ none → read_command list bytes ≡ refused 16
    unfolding command
    no_message t f = long_enough ∙ base_no_message takes_command _ bytes kind e t f

    -- its message is there, and the content decides
    pub message_decides : {start next : ℕ} → takes_command kind ≡ true → Placed bytes kind start next
        → read_command list bytes ≡ content_reading (command_of kind start (take (next - start) (drop start bytes)))
    unfolding command content_reading
    message_decides t p = long_enough ∙ base_message takes_command _ bytes kind e p.f t p.is ∙ rw (p.starts, p.ends)

-- ---- the type

-- no type is large
pub type_low : (kind : CommandType) → type_number kind ≤ 28
type_low code_type.Subscribe = omega arith
type_low code_type.Ack = omega arith
type_low code_type.Flow = omega arith
type_low code_type.CloseConsumer = omega arith
type_low code_type.Redeliver = omega arith
type_low code_type.Seek = omega arith

-- the types that are taken are small numbers
pub taken_low : (type : ℕ) → takes_command type ≡ true → type < 2 ^ 32
unfolding takes_command
taken_low type t =
    by_test (eqb type SUBSCRIBE) (λ e. low SUBSCRIBE (omega arith) e)
    (λ a. by_test (eqb type ACK) (λ e. low ACK (omega arith) e)
    (λ b. by_test (eqb type FLOW) (λ e. low FLOW (omega arith) e)
    (λ c. by_test (eqb type CLOSE_CONSUMER) (λ e. low CLOSE_CONSUMER (omega arith) e)
    (λ d. by_test (eqb type REDELIVER) (λ e. low REDELIVER (omega arith) e)
    (λ f. low SEEK (omega arith) (rw (a, b, c, d, f) at t))))))
  where
    low : (k : ℕ) → k < 2 ^ 32 → eqb type k ≡ true → type < 2 ^ 32
    low k h e = let q = eqb-true type k e in omega arith

-- a type that was read: its number, which is taken and small
pub record Typed (n : ℕ) (kind : CommandType) : Type 0 where
  pub is : n ≡ type_number kind
  pub taken : takes_command n ≡ true
  pub low : n < 2 ^ 32

-- what a number of a type is
of_number : (n k : ℕ) (kind : CommandType) → type_number kind ≡ k → takes_command k ≡ true → k < 2 ^ 32 → eqb n k ≡ true → Typed n kind
of_number n k kind e t l q =
    let s = eqb-true n k q in
    record { is = s ∙ sym e; taken = rw s t; low = rw s l }

module _ (n : ℕ) (kind : CommandType) where
  same_type : {k l : CommandType} → ◌≡◌ {A = Result CommandType Unread} (Ok k) (Ok l) → k ≡ l
  same_type e = cc

  -- one of the numbers was read
  one : (k : ℕ) (l : CommandType) → type_number l ≡ k → takes_command k ≡ true → k < 2 ^ 32 → eqb n k ≡ true
      → ◌≡◌ {A = Result CommandType Unread} (Ok kind) (Ok l) → Typed n kind
  one k l e t h q r = let s = same_type r in of_number n k kind (ap type_number s ∙ e) t h q

  never : {P : Type 0} {why : Unread} → ◌≡◌ {A = Result CommandType Unread} (Ok kind) (Err why) → P
  never z = absurd (cc)

  pub typed : Ok kind ≡ type_from n → Typed n kind
  unfolding type_from takes_command
  typed e =
      by_test (eqb n SUBSCRIBE) (λ t. one SUBSCRIBE code_type.Subscribe refl refl (omega arith) t (rw t at e))
      (λ a. by_test (eqb n ACK) (λ t. one ACK code_type.Ack refl refl (omega arith) t (rw (a, t) at e))
      (λ b. by_test (eqb n FLOW) (λ t. one FLOW code_type.Flow refl refl (omega arith) t (rw (a, b, t) at e))
      (λ c. by_test (eqb n CLOSE_CONSUMER) (λ t. one CLOSE_CONSUMER code_type.CloseConsumer refl refl (omega arith) t (rw (a, b, c, t) at e))
      (λ d. by_test (eqb n REDELIVER) (λ t. one REDELIVER code_type.Redeliver refl refl (omega arith) t (rw (a, b, c, d, t) at e))
      (λ f. by_test (eqb n SEEK) (λ t. one SEEK code_type.Seek refl refl (omega arith) t (rw (a, b, c, d, f, t) at e))
      (λ g. never (rw (a, b, c, d, f, g) at e)))))))

-- another was read: 17
pub untyped_number : (n : ℕ) (why : Unread) → Err why ≡ type_from n → (takes_command n ≡ false) × (unread_number why ≡ 17)
unfolding type_from takes_command
untyped_number n why e =
    by_test (eqb n SUBSCRIBE) (λ t. never (rw t at e))
    (λ a. by_test (eqb n ACK) (λ t. never (rw (a, t) at e))
    (λ b. by_test (eqb n FLOW) (λ t. never (rw (a, b, t) at e))
    (λ c. by_test (eqb n CLOSE_CONSUMER) (λ t. never (rw (a, b, c, t) at e))
    (λ d. by_test (eqb n REDELIVER) (λ t. never (rw (a, b, c, d, t) at e))
    (λ f. by_test (eqb n SEEK) (λ t. never (rw (a, b, c, d, f, t) at e))
    (λ g. let z = rw (a, b, c, d, f, g) at e in (rw (a, b, c, d, f, g), ap unread_number (same z))))))))
  where
    never : {P : Type 0} {k : CommandType} → ◌≡◌ {A = Result CommandType Unread} (Err why) (Ok k) → P
    never z = absurd (cc)

    same : {w : Unread} → ◌≡◌ {A = Result CommandType Unread} (Err why) (Err w) → why ≡ w
    same z = cc

-- it has no command
pub no_command : (n at : ℕ) (m : List ℕ) → takes_command n ≡ false → command_of n at m ≡ none
unfolding takes_command command_of
no_command n at m e =
    by_test (eqb n SUBSCRIBE) (λ t. never (rw t at e))
    (λ a. by_test (eqb n ACK) (λ t. never (rw (a, t) at e))
    (λ b. by_test (eqb n FLOW) (λ t. never (rw (a, b, t) at e))
    (λ c. by_test (eqb n CLOSE_CONSUMER) (λ t. never (rw (a, b, c, t) at e))
    (λ d. by_test (eqb n REDELIVER) (λ t. never (rw (a, b, c, d, t) at e))
    (λ f. by_test (eqb n SEEK) (λ t. never (rw (a, b, c, d, f, t) at e))
    (λ g. rw (a, b, c, d, f, g)))))))
  where
    never : {P : Type 0} → true ≡ false → P
    never z = absurd (true≢false z)

-- a number that is read as a type, or as none, where its refusal is dropped
pub a_type : (n : ℕ) {kind : CommandType} {r : Result CommandType Unread} → r ≡ type_from n → Some kind ≡ result_ok r → Ok kind ≡ type_from n
a_type n {kind = kind} {r = Ok k} e h = let same : kind ≡ k = cc in ap Ok same ∙ e
a_type n {r = Err why} e h = absurd cc

pub no_type : (n : ℕ) {r : Result CommandType Unread} → r ≡ type_from n → None ≡ result_ok r → takes_command n ≡ false
no_type n {r = Ok k} e h = absurd cc
no_type n {r = Err why} e h = (untyped_number n why e).0
