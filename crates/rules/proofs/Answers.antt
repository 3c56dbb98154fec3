-- What a caller learns from the word that an export answers and from push's list: every refusal has a number from 1 to 255,
-- so that the number tells whether a call was done; the value of a done push is how many records it made, and these are
-- read back from their flat words; and only a push makes records.
use Prim.Native.Nat.{ℕ, ◌+◌, ◌-◌, ◌*◌, ◌/◌, ◌%◌, ◌^◌, ◌≤◌, ◌<◌}
use mathlib.Core.Path.{◌≡◌, refl, sym, ap, ap₂, ◌∙◌}
use mathlib.Core.Bool.{Bool, true, false, cond, ◌&&◌, true≢false}
use mathlib.Core.List.{List, [], ◌∷◌, ◌++◌, append_assoc}
use mathlib.Core.Option.{Option, none, some}
use native.Mathlib.Nat.{mod-eq_of_lt}
use native.Mathlib.Omega.{arith}
use lib.Dec.{eqb, leb}
use lib.ListN.{length, drop, length-append}
use borrow.Author.Tests.{ne_eqb}
use Rattle.rules.specs.Table.{Every, is_some}
use Rattle.rules.specs.State.{Kind, by_kind, Consumer, State, consumer_of}
use Rattle.rules.specs.State.Kind.{plain, shared}
use Rattle.rules.specs.Groups.{Group, groups}
use Rattle.rules.specs.Outcome.{Dispatch, Value, Outcome, guard, found_or_4, with_live}
use Rattle.rules.specs.Outcome.Outcome.{refused, short, done}
use Rattle.rules.specs.Outcome.Value.{nothing, dispatches}
use Rattle.rules.specs.Commands.{append, subscribe, flow, ack, ack_shared, seek, redeliver, redeliver_plain, close, close_found, close_consumer, with_groups}
use Rattle.rules.specs.Push.{push, push_pending, flat, flat_records, record_read, records_read}
use Rattle.rules.specs.Calls.{Call, rule, value_number, answer_word, number_in, value_in}
use Rattle.rules.specs.Calls.Call.{Append, Subscribe, Flow, Ack, Seek, Redeliver, Close, Push}
use Rattle.rules.specs.Book.{records_of}
use Rattle.rules.specs.Demand.{is_done}
use Rattle.rules.proofs.Says.{every_head, every_tail}

-- ---- what holds of every outcome

-- Something that holds of every refusal with a number from 1 to 255, and of what is done without records.
module _ (P : Outcome → Type 0) (refuses : (n : ℕ) → 1 ≤ n → n ≤ 255 → P (refused n))
    (does : (v : Value) (t : State) → records_of v ≡ [] → P (done v t)) where
  -- a refusal in its case, else what follows
  at_guard : (t : Bool) (n : ℕ) (o : Outcome) → 1 ≤ n → n ≤ 255 → P o → P (guard t n o)
  unfolding guard
  at_guard true n o h k more = refuses n h k
  at_guard false n o h k more = more

  -- one of two
  at_cond : (t : Bool) (o r : Outcome) → P o → P r → P (cond t o r)
  at_cond true o r h k = h
  at_cond false o r h k = k

  -- one of two, by the kind
  at_kind : (k : Kind) (o r : Outcome) → P o → P r → P (by_kind k o r)
  unfolding by_kind
  at_kind plain o r h k = h
  at_kind shared o r h k = k

  -- refusal 4, or what is done with the consumer
  at_live : (s : State) (i : ℕ) (f : Consumer → Outcome) → ((c : Consumer) → P (f c)) → P (with_live s i f)
  unfolding with_live found_or_4
  at_live s i f g = go (consumer_of s i)
    where
      go : (o : Option Consumer) → P (found_or_4 f o)
      go none = refuses 4 (omega arith) (omega arith)
      go (some c) = g c

  -- refusal 10, or what is done with the groups
  at_groups : (o : Option (List Group)) (f : List Group → Outcome) → ((gs : List Group) → P (f gs)) → P (with_groups o f)
  unfolding with_groups
  at_groups none f g = refuses 10 (omega arith) (omega arith)
  at_groups (some gs) f g = g gs

  -- an id that is live, or not
  at_close : (s : State) (o : Option Consumer) → P (close_found s o)
  unfolding close_found close_consumer records_of
  at_close s none = does _ _ refl
  at_close s (some c) = at_kind c.kind _ _ (does _ _ refl) (at_guard _ 9 _ (omega arith) (omega arith) (does _ _ refl))

  -- it holds of every call's outcome if it does of every push's
  of_call : (s : State) (x : Call) → ((room : ℕ) → x ≡ Push room → P (push s room)) → P (rule s x)
  unfolding rule append subscribe flow ack ack_shared seek redeliver redeliver_plain close records_of
  of_call s (Append topic m) pushes =
      at_guard _ 8 _ (omega arith) (omega arith)
      (at_guard _ 7 _ (omega arith) (omega arith)
      (at_guard _ 5 _ (omega arith) (omega arith) (at_guard _ 6 _ (omega arith) (omega arith) (does _ _ refl))))
  of_call s (Subscribe i kind p) pushes =
      at_cond (is_some (consumer_of s i) && s.live_id_subscribe_is_noop) (done nothing s) _ (does _ _ refl)
      (at_guard _ 12 _ (omega arith) (omega arith)
      (at_kind kind _ _ (does _ _ refl)
      (at_guard _ 13 _ (omega arith) (omega arith) (at_guard _ 14 _ (omega arith) (omega arith) (does _ _ refl)))))
  of_call s (Flow i grant) pushes =
      at_live s i _ (λ c.
      at_guard _ 9 _ (omega arith) (omega arith)
      (at_kind c.kind _ _ (does _ _ refl) (at_guard _ 9 _ (omega arith) (omega arith) (does _ _ refl))))
  of_call s (Ack i list) pushes =
      at_live s i _ (λ c.
      at_groups (groups list) _ (λ gs.
      at_kind c.kind _ _ (does _ _ refl) (at_guard _ 11 _ (omega arith) (omega arith) (does _ _ refl))))
  of_call s (Seek i target) pushes = at_live s i _ (λ c. does _ _ refl)
  of_call s (Redeliver i list) pushes =
      at_live s i _ (λ c.
      at_groups (groups list) _ (λ gs.
      at_kind c.kind _ _ (at_guard _ 11 _ (omega arith) (omega arith) (does _ _ refl)) (does _ _ refl)))
  of_call s (Close i) pushes = at_close s (consumer_of s i)
  of_call s (Push room) pushes = pushes room refl

-- ---- refusals have numbers

-- a refusal's number is from 1 to 255
unfoldable pub Numbered : Outcome → Type 0
Numbered (refused n) = (1 ≤ n) × (n ≤ 255)
Numbered (short n) = Unit {0}
Numbered (done v t) = Unit {0}

-- a push is done, or 15 is told apart by its form
push_numbered : (s : State) (room : ℕ) → Numbered (push s room)
unfolding push Numbered
push_numbered s room = go (leb (length (push_pending s).dispatched) room)
  where
    go : (t : Bool) → Numbered (cond t (done (dispatches (push_pending s).dispatched) (push_pending s).state) (short (length (push_pending s).dispatched)))
    go true = tt
    go false = tt

-- every call's
pub numbered : (s : State) (x : Call) → Numbered (rule s x)
unfolding Numbered
numbered s x = of_call Numbered (λ n h k. (h, k)) (λ v t e. tt) s x (λ room e. push_numbered s room)

-- ---- only a push makes records

-- the records of what is done
unfoldable pub WithoutRecords : Outcome → Type 0
WithoutRecords (refused n) = Unit {0}
WithoutRecords (short n) = Unit {0}
WithoutRecords (done v t) = records_of v ≡ []

-- whether a call is a push
unfoldable pub is_push : Call → Bool
is_push (Append topic m) = false
is_push (Subscribe i kind p) = false
is_push (Flow i grant) = false
is_push (Ack i list) = false
is_push (Seek i target) = false
is_push (Redeliver i list) = false
is_push (Close i) = false
is_push (Push room) = true

-- what holds of every other call and of every push holds of all
pub by_push : (P : Call → Type 0) → ((x : Call) → is_push x ≡ false → P x) → ((room : ℕ) → P (Push room)) → (x : Call) → P x
unfolding is_push
by_push P others pushes (Append topic m) = others (Append topic m) refl
by_push P others pushes (Subscribe i kind p) = others (Subscribe i kind p) refl
by_push P others pushes (Flow i grant) = others (Flow i grant) refl
by_push P others pushes (Ack i list) = others (Ack i list) refl
by_push P others pushes (Seek i target) = others (Seek i target) refl
by_push P others pushes (Redeliver i list) = others (Redeliver i list) refl
by_push P others pushes (Close i) = others (Close i) refl
by_push P others pushes (Push room) = pushes room

-- any other call makes none
pub without_records : (s : State) (x : Call) → is_push x ≡ false → WithoutRecords (rule s x)
unfolding WithoutRecords is_push
without_records s x h =
    of_call WithoutRecords (λ n j k. tt) (λ v t e. e) s x (λ room e. absurd (true≢false (sym (ap is_push e) ∙ h)))

-- ---- an answer read

-- the number in an answer is 0 exactly where the call was done
pub number_done : (o : Outcome) → Numbered o → eqb (number_in (answer_word o)) 0 ≡ is_done o
unfolding number_in answer_word is_done Numbered
number_done (refused n) h =
    let low : n % 256 ≡ n = mod-eq_of_lt (omega (arith, h.1)) in
    rw low (ne_eqb n 0 (λ e. omega (arith, h.0, e)))
number_done (short n) h =
    let m : ℕ = n % 2 ^ 56 in
    let low : (m * 256 + 15) % 256 ≡ 15 = omega arith in
    rw low
number_done (done v t) h =
    let m : ℕ = value_number v % 2 ^ 56 in
    let low : m * 256 % 256 ≡ 0 = omega arith in
    rw low

-- the value of a push's answer is how many records it made
pub value_made : (l : List Dispatch) (s : State) → length l < 2 ^ 56 → value_in (answer_word (done (dispatches l) s)) ≡ length l
unfolding value_in answer_word value_number
value_made l s h =
    let whole : length l % 2 ^ 56 ≡ length l = mod-eq_of_lt h in
    let n : ℕ = length l in
    let high : n * 256 / 256 ≡ n = omega arith in
    ap (λ (k : ℕ). k * 256 / 256) whole ∙ high

-- ---- records in words

-- a record has thirteen words
pub flat_length : (x : Dispatch) → length (flat x) ≡ 13
unfolding flat
flat_length x = refl

-- so records have thirteen each
pub flats_length : (l : List Dispatch) → length (flat_records l) ≡ 13 * length l
unfolding flat_records
flats_length [] = refl
flats_length (x ∷ l) = rw (length-append (flat x) (flat_records l), flat_length x, flats_length l) (omega arith)

-- permits come back from their two's complement
permits_back : (p : ℕ) → p < 2 ^ 64 → ((p + (2 ^ 64 - 2 ^ 62)) % 2 ^ 64 + 2 ^ 62) % 2 ^ 64 ≡ p
permits_back p h = omega arith

-- a record is read back from its flat words
pub record_back : (x : Dispatch) (r : List ℕ) → x.permits < 2 ^ 64 → record_read (flat x ++ r) ≡ x
unfolding record_read flat
record_back x r h =
    ap (λ (p : ℕ). record {
      consumer = x.consumer;
      message = x.message;
      ack_set_words = x.ack_set_words;
      ack_set = x.ack_set;
      redelivery_count = x.redelivery_count;
      cost = x.cost;
      permits = p;
    })
    (permits_back x.permits h)

-- 13 words on, the rest follows
past_record : (x : Dispatch) (r : List ℕ) → drop 13 (flat x ++ r) ≡ r
unfolding flat
past_record x r = refl

-- and so are records one after the other
pub records_back : (l : List Dispatch) (r : List ℕ) → Every (λ (x : Dispatch). x.permits < 2 ^ 64) l → records_read (length l) (flat_records l ++ r) ≡ l
unfolding records_read flat_records
records_back [] r h = refl
records_back (x ∷ l) r h =
    ap (λ (ws : List ℕ). record_read ws ∷ records_read (length l) (drop 13 ws)) (append_assoc (flat x) (flat_records l) r)
    ∙ ap₂ (λ (y : Dispatch) (ys : List Dispatch). y ∷ ys)
    (record_back x (flat_records l ++ r) (every_head h))
    (ap (records_read (length l)) (past_record x (flat_records l ++ r)) ∙ records_back l r (every_tail h))
