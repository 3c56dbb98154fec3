-- What is printed from an answer and from the words of a push's list is what the rule's outcome is printed as.
use Prim.Native.Nat.{ℕ, ◌+◌, ◌*◌, ◌%◌, ◌^◌, ◌≤◌, ◌<◌}
use mathlib.Core.Path.{◌≡◌, refl, sym, ap, ap₂, subst}
use mathlib.Core.Bool.{Bool, true, false, cond, true≢false}
use mathlib.Core.List.{List, [], ◌++◌}
use native.Mathlib.Nat.{mod-eq_of_lt}
use native.Mathlib.Omega.{arith}
use lib.Dec.{leb}
use lib.ListN.{length, drop}
use borrow.Author.Tests.{eqb-true, leb-true}
use Rattle.rules.specs.Table.{Every}
use Rattle.rules.specs.State.{State}
use Rattle.rules.specs.Valid.{Valid}
use Rattle.rules.specs.Outcome.{Dispatch, Outcome}
use Rattle.rules.specs.Outcome.Outcome.{refused, short, done}
use Rattle.rules.specs.Outcome.Value.{dispatches}
use Rattle.rules.specs.Push.{push, push_pending, flat_records, records_read}
use Rattle.rules.specs.Calls.{Call, rule, answer_word, number_in, value_in, value_number}
use Rattle.rules.specs.Calls.Call.{Append, Subscribe, Flow, Ack, Seek, Redeliver, Close, Push}
use Rattle.rules.specs.Book.{records_of}
use Rattle.rules.proofs.Kept.{Ranged, records_ranged}
use Rattle.rules.proofs.Answers.{Numbered, numbered, value_made, records_back, WithoutRecords, without_records, is_push}
use Rattle.layout.specs.Calls.{with_records, made_words, list_after}
use Rattle.trace.specs.Calls.{PUSH, kind_of, room_is}
use Rattle.trace.specs.Text.{refusal, made, dispatch_lines, outcome_line, outcome_text}
use Rattle.trace.specs.Played.{ROOM}
use Rattle.told.specs.Told.{dispatches_told}
use Rattle.trace_lines.specs.Told.{text_told}

-- the number in an answer is the refusal's
refusal_told : (o : Outcome) → Numbered o → number_in (answer_word o) ≡ refusal o
unfolding number_in answer_word refusal Numbered
refusal_told (refused n) h = mod-eq_of_lt (omega (arith, h.1))
refusal_told (short n) h = let m : ℕ = n % 2 ^ 56 in let e : (m * 256 + 15) % 256 ≡ 15 = omega arith in e
refusal_told (done v t) h = let m : ℕ = value_number v % 2 ^ 56 in let e : m * 256 % 256 ≡ 0 = omega arith in e

-- what is printed of so many dispatches, told or made
told_as : (number kind answer n : ℕ) (list : List ℕ) (x : Call) (o : Outcome) → kind_of x ≡ kind → number_in answer ≡ refusal o
    → dispatches_told kind answer ≡ n → n ≡ length (made o) → records_read n list ≡ made o
    → text_told number kind answer list ≡ outcome_text number x o
unfolding text_told outcome_text
told_as number kind answer n list x o k r d e l =
    rw (k, r, d)
    (ap₂ (λ (m : ℕ) (ds : List Dispatch). outcome_line number kind (refusal o) m ++ dispatch_lines ds) e l)

-- what a caller has of a call that is made: as many dispatches as a list holds at most, and their text
pub record Answered (number : ℕ) (s : State) (x : Call) (list : List ℕ) : Type 0 where
  pub few : dispatches_told (kind_of x) (answer_word (rule s x)) ≤ ROOM
  pub text : text_told number (kind_of x) (answer_word (rule s x)) (list_after list (rule s x)) ≡ outcome_text number x (rule s x)

-- ---- any call but a push

-- it tells of no dispatches
none_told : (x : Call) (answer : ℕ) → is_push x ≡ false → dispatches_told (kind_of x) answer ≡ 0
unfolding dispatches_told kind_of is_push
none_told (Append topic m) answer h = refl
none_told (Subscribe i kind p) answer h = refl
none_told (Flow i grant) answer h = refl
none_told (Ack i list) answer h = refl
none_told (Seek i target) answer h = refl
none_told (Redeliver i list) answer h = refl
none_told (Close i) answer h = refl
none_told (Push room) answer h = absurd (true≢false h)

-- and makes none
none_made : (o : Outcome) → WithoutRecords o → made o ≡ []
unfolding made WithoutRecords
none_made (refused n) h = refl
none_made (short n) h = refl
none_made (done v t) h = h

-- so its line is all
other_answered : (number : ℕ) (s : State) (x : Call) (list : List ℕ) → is_push x ≡ false → Answered number s x list
unfolding records_read
other_answered number s x list h =
    let d = none_told x (answer_word (rule s x)) h in
    let m = none_made (rule s x) (without_records s x h) in
    record {
      few = rw d (omega arith);
      text =
          told_as number (kind_of x) (answer_word (rule s x)) 0 (list_after list (rule s x)) x (rule s x) refl
          (refusal_told (rule s x) (numbered s x)) d (sym (ap length m)) (sym m);
    }

-- ---- a push

-- the permits of its records are words
permits_words : (l : List Dispatch) → Every Ranged l → Every (λ (x : Dispatch). x.permits < 2 ^ 64) l
permits_words l h x m = let p = (h x m).permits_to in omega arith

-- what is due fits that list, or not
push_parts : (number : ℕ) (list : List ℕ) (l : List Dispatch) (t : State) (c : Bool) → leb (length l) ROOM ≡ c
    → Every (λ (x : Dispatch). x.permits < 2 ^ 64) l
    → let o : Outcome = cond c (done (dispatches l) t) (short (length l)) in
    (dispatches_told PUSH (answer_word o) ≤ ROOM)
    × (text_told number PUSH (answer_word o) (list_after list o) ≡ outcome_text number (Push ROOM) o)
unfolding dispatches_told made_words list_after with_records made records_of refusal kind_of Numbered records_read
push_parts number list l t true e h =
    let o : Outcome = done (dispatches l) t in
    let few : length l ≤ ROOM = leb-true (length l) ROOM e in
    let r : number_in (answer_word o) ≡ 0 = refusal_told o tt in
    let v : value_in (answer_word o) ≡ length l = value_made l t (omega arith) in
    let d : dispatches_told PUSH (answer_word o) ≡ length l = rw (r, v) in (
      rw d few,
      told_as number PUSH (answer_word o) (length l) (with_records list (flat_records l)) (Push ROOM) o refl r d refl
          (records_back l (drop (length (flat_records l)) list) h),
    )
push_parts number list l t false e h =
    let o : Outcome = short (length l) in
    let r : number_in (answer_word o) ≡ 15 = refusal_told o tt in
    let d : dispatches_told PUSH (answer_word o) ≡ 0 = rw r in (
      rw d (omega arith),
      told_as number PUSH (answer_word o) 0 list (Push ROOM) o refl r d refl refl,
    )

-- a push of a valid state
push_answered : (number : ℕ) (s : State) (list : List ℕ) → Valid s → Answered number s (Push ROOM) list
unfolding rule push kind_of
push_answered number s list v =
    let all = push_pending s in
    let p = push_parts number list all.dispatched all.state (leb (length all.dispatched) ROOM) refl
    (permits_words all.dispatched (records_ranged s v.tables)) in
    record { few = p.0; text = p.1 }

-- ---- every call

-- a call whose room, if it is a push, is that of the player's list
pub answered : (number : ℕ) (s : State) (x : Call) (list : List ℕ) → Valid s → room_is ROOM x ≡ true → Answered number s x list
unfolding is_push room_is
answered number s (Append topic m) list v h = other_answered number s (Append topic m) list refl
answered number s (Subscribe i kind p) list v h = other_answered number s (Subscribe i kind p) list refl
answered number s (Flow i grant) list v h = other_answered number s (Flow i grant) list refl
answered number s (Ack i acked) list v h = other_answered number s (Ack i acked) list refl
answered number s (Seek i target) list v h = other_answered number s (Seek i target) list refl
answered number s (Redeliver i back) list v h = other_answered number s (Redeliver i back) list refl
answered number s (Close i) list v h = other_answered number s (Close i) list refl
answered number s (Push room) list v h =
    subst (λ (n : ℕ). Answered number s (Push n) list) (sym (eqb-true room ROOM h)) (push_answered number s list v)
