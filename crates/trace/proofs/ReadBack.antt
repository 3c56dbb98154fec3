-- What is written is read back: numbers, words, records, calls, traces.
use Prim.Native.Nat.{ℕ, zero, suc, ◌+◌, ◌*◌, ◌/◌, ◌%◌, ◌^◌, ◌≤◌, ◌<◌}
use mathlib.Core.Path.{◌≡◌, refl, sym, ap, ap₂, ◌∙◌}
use mathlib.Core.Bool.{Bool, true, ◌&&◌}
use mathlib.Core.List.{List, [], ◌∷◌, ◌++◌, map, append_assoc}
use mathlib.Core.Option.{Option, some, bind}
use native.Mathlib.Nat.{pow-suc, div-lt_iff_lt-mul}
use native.Mathlib.Omega.{arith}
use lib.Dec.{leb, ltb}
use lib.ListN.{length, take, drop, length-append}
use lib.Seq.{take_at, drop_at, drop-drop}
use borrow.Author.Tests.{eqb-true, le-leb, leb-true, lt-ltb, ltb-true}
use Rattle.words.specs.Words.{starts}
use Rattle.words.proofs.Check.{and_left, and_right}
use Rattle.rules.specs.Table.{all}
use Rattle.rules.specs.State.{Kind}
use Rattle.rules.specs.State.Kind.{plain, shared}
use Rattle.rules.specs.Commands.{Target}
use Rattle.rules.specs.Commands.Target.{start, to_id}
use Rattle.rules.specs.Valid.{is_byte, is_word, valid_id}
use Rattle.rules.specs.Calls.{Call, fits, target_fits, kind_from, target_from}
use Rattle.rules.specs.Calls.Call.{Append, Subscribe, Flow, Ack, Seek, Redeliver, Close, Push}
use Rattle.trace.specs.Format.{number_from, number, number_bytes, header, Record, MOST_WORDS, record_size}
use Rattle.trace.specs.Format.{record_reach, words_in, record_in, words_bytes, record_bytes}
use Rattle.trace.specs.Format.Reach.{ends}
use Rattle.trace.specs.Calls.{if_so, append_from, subscribe_from, flow_from, ack_from, seek_from, redeliver_from, close_from}
use Rattle.trace.specs.Calls.{push_from, call_from, that_fits, call_of, kind_of, kind_word, target_words, words_of, record_of}
use Rattle.trace.specs.Calls.{calls_bytes, trace_bytes, room_is, recordable}
use Rattle.trace.specs.Played.{ROOM, record_call, calls_in, before_bad, calls_played}
use Rattle.trace.specs.Promises.{TracesReadBack}
use Rattle.trace.proofs.Format.{count_in, reaches, calls_none, calls_first}

-- ---- numbers

-- a number in k bytes has k of them
pub length_bytes : (k n : ℕ) → length (number_bytes k n) ≡ k
unfolding number_bytes
length_bytes zero n = refl
length_bytes (suc k) n = length-append (number_bytes k (n / 256)) (n % 256 ∷ []) ∙ (let e = length_bytes k (n / 256) in omega arith)

-- bytes after bytes
number_append : (high : ℕ) (bytes : List ℕ) (b : ℕ) → number_from high (bytes ++ b ∷ []) ≡ number_from high bytes * 256 + b
unfolding number_from
number_append high [] b = refl
number_append high (c ∷ bytes) b = number_append (high * 256 + c) bytes b

-- a number that k bytes can hold is read back from them
pub number_back : (k n : ℕ) → n < 256 ^ k → number (number_bytes k n) ≡ n
unfolding number number_bytes number_from
number_back zero n h = omega arith
number_back (suc k) n h =
    let e = pow-suc 256 k in
    let g : n / 256 < 256 ^ k = (div-lt_iff_lt-mul {k = 256} (omega arith)).1 (rw e at h) in
    number_append 0 (number_bytes k (n / 256)) (n % 256)
    ∙ ap (λ (m : ℕ). m * 256 + n % 256) (number_back k (n / 256) g) ∙ omega arith

-- ---- words

-- words of 64 bits are read back
words_back : (ws more : List ℕ) → all is_word ws ≡ true → words_in (length ws) (words_bytes ws ++ more) ≡ ws
unfolding words_in words_bytes all is_word
words_back [] more h = refl
words_back (w ∷ ws) more h =
    let small : w < 2 ^ 64 = ltb-true w (2 ^ 64) (and_left (is_word w) (all is_word ws) h) in
    let rest = append_assoc (number_bytes 8 w) (words_bytes ws) more in
    let e : take 8 (number_bytes 8 w ++ words_bytes ws ++ more) ≡ number_bytes 8 w =
    ap (take 8) rest ∙ take_at (number_bytes 8 w) (words_bytes ws ++ more) 8 (length_bytes 8 w) in
    let f : drop 8 (number_bytes 8 w ++ words_bytes ws ++ more) ≡ words_bytes ws ++ more =
    ap (drop 8) rest ∙ drop_at (number_bytes 8 w) (words_bytes ws ++ more) 8 (length_bytes 8 w) in
    rw (e, f) (ap₂ (λ (x : ℕ) (xs : List ℕ). x ∷ xs) (number_back 8 w small) (words_back ws more (and_right (is_word w) (all is_word ws) h)))

-- and have 8 bytes each
length_words : (ws : List ℕ) → length (words_bytes ws) ≡ 8 * length ws
unfolding words_bytes
length_words [] = refl
length_words (w ∷ ws) =
    let e = length-append (number_bytes 8 w) (words_bytes ws) in
    let f = length_bytes 8 w in
    let g = length_words ws in
    omega arith

-- ---- records

module _ (r : Record) (more : List ℕ) (few : length r.words ≤ MOST_WORDS) where
  -- the bytes of its count, and what follows them
  abbrev count_bytes : List ℕ
  count_bytes = number_bytes 2 (length r.words)

  -- after the kind
  after_kind : drop 1 (record_bytes r ++ more) ≡ count_bytes ++ (words_bytes r.words ++ more)
  unfolding record_bytes
  after_kind = append_assoc count_bytes (words_bytes r.words) more

  -- the count
  count_back : count_in (record_bytes r ++ more) ≡ length r.words
  count_back =
      ap (λ (l : List ℕ). number (take 2 l)) after_kind
      ∙ ap number (take_at count_bytes (words_bytes r.words ++ more) 2 (length_bytes 2 (length r.words)))
      ∙ number_back 2 (length r.words) (omega arith)

  -- how many bytes there are
  length_record : length (record_bytes r ++ more) ≡ record_size (length r.words) + length more
  unfolding record_bytes
  length_record =
      let a = length-append (record_bytes r) more in
      let b = length-append count_bytes (words_bytes r.words) in
      let c = length_bytes 2 (length r.words) in
      let d = length_words r.words in
      omega arith

  -- it ends there
  pub record_ends : record_reach (record_bytes r ++ more) ≡ ends (record_size (length r.words))
  record_ends =
      let l = length_record in
      let n = count_back in
      reaches (record_bytes r ++ more) (omega arith) (rw n few) (rw n (omega arith)) ∙ ap (λ (k : ℕ). ends (record_size k)) n

  -- after the front
  after_front : drop 3 (record_bytes r ++ more) ≡ words_bytes r.words ++ more
  after_front =
      sym (drop-drop 2 1 (record_bytes r ++ more)) ∙ ap (drop 2) after_kind
      ∙ drop_at count_bytes (words_bytes r.words ++ more) 2 (length_bytes 2 (length r.words))

  -- it is read back
  pub record_back : all is_word r.words ≡ true → record_in (record_bytes r ++ more) ≡ r
  unfolding record_in record_bytes
  record_back h =
      ap₂ (λ (n : ℕ) (l : List ℕ). record { kind = r.kind; words = words_in n l }) count_back after_front
      ∙ ap (λ (l : List ℕ). record { kind = r.kind; words = l }) (words_back r.words more h)

  -- and what follows it is left
  pub rest_back : drop (record_size (length r.words)) (record_bytes r ++ more) ≡ more
  rest_back =
      let a = length-append (record_bytes r) more in
      let l = length_record in
      drop_at (record_bytes r) more (record_size (length r.words)) (omega arith)

-- ---- calls

-- a byte is a word
byte_word : (n : ℕ) → is_byte n ≡ true → is_word n ≡ true
unfolding is_byte is_word
byte_word n h = lt-ltb n (2 ^ 64) (let g = ltb-true n 256 h in omega arith)

-- a grant is a word
grant_word : (n : ℕ) → ltb n (2 ^ 32) ≡ true → is_word n ≡ true
unfolding is_word
grant_word n h = lt-ltb n (2 ^ 64) (let g = ltb-true n (2 ^ 32) h in omega arith)

-- the words of a target
target_are_words : (t : Target) → target_fits t ≡ true → all is_word (target_words t) ≡ true
unfolding target_fits target_words valid_id all is_word
target_are_words start h = refl
target_are_words (to_id i) h = rw (and_left (is_word i.ledger) (is_word i.entry) h, and_right (is_word i.ledger) (is_word i.entry) h)

-- the word of a kind
kind_is_word : (k : Kind) → is_word (kind_word k) ≡ true
unfolding kind_word is_word
kind_is_word plain = refl
kind_is_word shared = refl

-- the words of a call whose arguments have their widths are words
words_fit : (x : Call) → fits x ≡ true → all is_word (words_of x) ≡ true
unfolding fits words_of all valid_id
words_fit (Append topic m) h =
    let ids : Bool = is_word m.id.ledger && is_word m.id.entry in
    let b : is_byte topic && ids && is_word m.handle ≡ true = and_left _ (is_word m.batch_size) h in
    let c : is_byte topic && ids ≡ true = and_left _ (is_word m.handle) b in
    let d : ids ≡ true = and_right (is_byte topic) ids c in
    rw (
      byte_word topic (and_left (is_byte topic) ids c),
      and_left (is_word m.id.ledger) (is_word m.id.entry) d,
      and_right (is_word m.id.ledger) (is_word m.id.entry) d,
      and_right (is_byte topic && ids) (is_word m.handle) b,
      and_right (is_byte topic && ids && is_word m.handle) (is_word m.batch_size) h,
    )
words_fit (Subscribe i kind p) h =
    let a : is_word i && is_byte p.topic ≡ true = and_left _ (is_byte p.subscription) h in
    rw (
      and_left (is_word i) (is_byte p.topic) a,
      kind_is_word kind,
      byte_word p.topic (and_right (is_word i) (is_byte p.topic) a),
      byte_word p.subscription (and_right (is_word i && is_byte p.topic) (is_byte p.subscription) h),
    )
words_fit (Flow i grant) h =
    rw (and_left (is_word i) (ltb grant (2 ^ 32)) h, grant_word grant (and_right (is_word i) (ltb grant (2 ^ 32)) h))
words_fit (Ack i list) h = h
words_fit (Seek i target) h =
    rw (and_left (is_word i) (target_fits target) h) (target_are_words target (and_right (is_word i) (target_fits target) h))
words_fit (Redeliver i list) h = h
words_fit (Close i) h = rw h
words_fit (Push room) h = refl

-- what the words of a call say is that call
said_back : (room : ℕ) (x : Call) → room_is room x ≡ true → call_from room (kind_of x) (words_of x) ≡ some x
unfolding call_from kind_of words_of if_so append_from subscribe_from flow_from ack_from seek_from redeliver_from close_from push_from
    kind_word target_words kind_from target_from room_is
said_back room (Append topic m) h = refl
said_back room (Subscribe i plain p) h = refl
said_back room (Subscribe i shared p) h = refl
said_back room (Flow i grant) h = refl
said_back room (Ack i list) h = rw (le-leb 1 (length (i ∷ list)) (omega arith))
said_back room (Seek i start) h = refl
said_back room (Seek i (to_id target)) h = refl
said_back room (Redeliver i list) h = rw (le-leb 1 (length (i ∷ list)) (omega arith))
said_back room (Close i) h = refl
said_back room (Push k) h = ap (λ (n : ℕ). some (Push n)) (sym (eqb-true k room h))

-- and it fits
pub call_back : (room : ℕ) (x : Call) → recordable room x ≡ true → call_of room (kind_of x) (words_of x) ≡ some x
unfolding call_of bind that_fits if_so recordable
call_back room x h =
    let a = and_left (fits x && leb (length (words_of x)) MOST_WORDS) (room_is room x) h in
    rw (said_back room x (and_right (fits x && leb (length (words_of x)) MOST_WORDS) (room_is room x) h), and_left (fits x) _ a)

-- ---- traces

-- the records of calls are read back as these calls
calls_back : (calls : List Call) → all (recordable ROOM) calls ≡ true → calls_in (calls_bytes calls) ≡ map (λ (x : Call). some x) calls
unfolding calls_bytes all record_call record_of recordable
calls_back [] h = calls_none
calls_back (x ∷ calls) h =
    let r = record_of x in
    let more = calls_bytes calls in
    let one = and_left (recordable ROOM x) (all (recordable ROOM) calls) h in
    let a = and_left (fits x && leb (length (words_of x)) MOST_WORDS) (room_is ROOM x) one in
    let few : length (words_of x) ≤ MOST_WORDS = leb-true (length (words_of x)) MOST_WORDS (and_right (fits x) _ a) in
    let w = words_fit x (and_left (fits x) _ a) in
    calls_first (record_bytes r ++ more) _ (record_ends r more few)
    ∙ ap₂ (λ (o : Option Call) (l : List (Option Call)). o ∷ l)
    (ap record_call (record_back r more few w) ∙ call_back ROOM x one)
    (ap calls_in (rest_back r more few) ∙ calls_back calls (and_right (recordable ROOM x) (all (recordable ROOM) calls) h))

-- with none bad among them
none_bad : (calls : List Call) → before_bad (map (λ (x : Call). some x) calls) ≡ calls
unfolding before_bad
none_bad [] = refl
none_bad (x ∷ calls) = ap {B = List Call} (λ l. x ∷ l) (none_bad calls)

-- a trace is read back as its calls
pub traces_read_back : TracesReadBack
unfolding TracesReadBack calls_played trace_bytes header number_bytes starts
traces_read_back calls h = ap before_bad (calls_back calls h) ∙ none_bad calls
