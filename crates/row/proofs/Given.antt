-- The calls of a row as they are given: a push has the room of what is left of the list, and what it makes has room there. So a
-- row has as many answers as calls, and its records have room in the list.
use Prim.Native.Nat.{ℕ, suc, ◌*◌, ◌/◌, ◌^◌, ◌≤◌, ◌<◌}
use mathlib.Core.Path.{◌≡◌, refl, sym, ap, ◌∙◌}
use mathlib.Core.Bool.{Bool, true, false, cond, true≢false}
use mathlib.Core.List.{List, [], ◌∷◌, ◌++◌}
use mathlib.Core.Option.{Option, none, some, bind, map}
use native.Mathlib.Omega.{arith}
use lib.Dec.{eqb, leb}
use lib.ListN.{length, length-append, length-drop}
use borrow.Author.Tests.{eqb-true, leb-true}
use Rattle.rules.specs.State.{State}
use Rattle.rules.specs.Valid.{is_word}
use Rattle.rules.specs.Outcome.{Outcome}
use Rattle.rules.specs.Outcome.Outcome.{refused, short, done}
use Rattle.rules.specs.Outcome.Value.{dispatches}
use Rattle.rules.specs.Push.{push, push_pending, flat_records}
use Rattle.rules.specs.Calls.{Call, fits, rule, state_after}
use Rattle.rules.specs.Calls.Call.{Append, Subscribe, Flow, Ack, Seek, Redeliver, Close, Push}
use Rattle.rules.specs.Book.{records_of}
use Rattle.rules.proofs.Answers.{WithoutRecords, is_push, by_push, without_records, flats_length}
use Rattle.layout.specs.Calls.{made_words}
use Rattle.layout.proofs.Slices.{word, few_records}
use Rattle.trace.specs.Calls.{PUSH, if_so, push_from, call_from, that_fits, call_of, kind_of}
use Rattle.trace.proofs.Calls.{IfCall, call_kind, any_room, push_kind}
use Rattle.row.specs.Row.{with_room, left_of, given, row_answers, row_records}

-- ---- a call with its room

-- only a push has one
pub same_call : (room : ℕ) (x : Call) → is_push x ≡ false → with_room room x ≡ x
unfolding with_room is_push
same_call room (Append topic m) h = refl
same_call room (Subscribe i kind p) h = refl
same_call room (Flow i grant) h = refl
same_call room (Ack i list) h = refl
same_call room (Seek i target) h = refl
same_call room (Redeliver i list) h = refl
same_call room (Close i) h = refl
same_call room (Push n) h = absurd (true≢false h)

-- a room of 64 bits is as wide as it may be
pub room_fits : (room : ℕ) (x : Call) → is_word room ≡ true → fits x ≡ true → fits (with_room room x) ≡ true
unfolding with_room fits
room_fits room (Append topic m) r h = h
room_fits room (Subscribe i kind p) r h = h
room_fits room (Flow i grant) r h = h
room_fits room (Ack i list) r h = h
room_fits room (Seek i target) r h = h
room_fits room (Redeliver i list) r h = h
room_fits room (Close i) r h = h
room_fits room (Push n) r h = r

-- a call of another kind is the same with any room
same_if_call : (room kind : ℕ) (o : Option Call) → eqb kind PUSH ≡ false → IfCall (λ x. kind_of x ≡ kind) o → map (with_room room) o ≡ o
unfolding IfCall
same_if_call room kind none k h = refl
same_if_call room kind (some x) k h = ap some (same_call room x (push_kind x ∙ ap (λ (n : ℕ). eqb n PUSH) h ∙ k))

-- what a kind and its words are with another room
pub with_any_room : (room kind : ℕ) (ws : List ℕ) → is_word room ≡ true → call_of room kind ws ≡ map (with_room room) (call_of 0 kind ws)
unfolding call_of call_from push_from bind if_so that_fits fits is_word with_room
with_any_room room kind ws r = go (eqb kind PUSH) refl
  where
    passed : (t : Bool) → bind (if_so t (Push room)) that_fits ≡ map (with_room room) (bind (if_so t (Push 0)) that_fits)
    passed true = rw r
    passed false = refl

    pushes : kind ≡ PUSH → call_of room kind ws ≡ map (with_room room) (call_of 0 kind ws)
    pushes k = rw k (passed (eqb (length ws) 0))

    go : (t : Bool) → eqb kind PUSH ≡ t → call_of room kind ws ≡ map (with_room room) (call_of 0 kind ws)
    go true k = pushes (eqb-true kind PUSH k)
    go false k = any_room room kind ws k ∙ sym (same_if_call room kind (call_of 0 kind ws) k (call_kind 0 kind ws))

-- so of one that is a call
pub call_with_room : (room kind : ℕ) (ws : List ℕ) (x : Call) → is_word room ≡ true → call_of 0 kind ws ≡ some x
    → call_of room kind ws ≡ some (with_room room x)
call_with_room room kind ws x r e = with_any_room room kind ws r ∙ ap (map (with_room room)) e

-- a list of a slice's length has a room of 64 bits
pub room_is_word : (list : List ℕ) → length list < 2 ^ 64 → is_word (length list / 13) ≡ true
room_is_word list h = word (length list / 13) (few_records (length list) h)

-- ---- what a call makes

-- any call but a push makes none
pub none_made : (s : State) (x : Call) → is_push x ≡ false → made_words (rule s x) ≡ []
unfolding WithoutRecords made_words flat_records
none_made s x h = go (rule s x) (without_records s x h)
  where
    go : (o : Outcome) → WithoutRecords o → made_words o ≡ []
    go (refused n) e = refl
    go (short n) e = refl
    go (done v t) e = ap flat_records e

-- a push makes no more than its room
push_within : (s : State) (room : ℕ) → length (made_words (push s room)) ≤ 13 * room
unfolding push made_words records_of
push_within s room = go (leb (length (push_pending s).dispatched) room) refl
  where
    go : (t : Bool) → leb (length (push_pending s).dispatched) room ≡ t
        → length (made_words (cond t (done (dispatches (push_pending s).dispatched) (push_pending s).state) (short (length (push_pending s).dispatched)))) ≤ 13 * room
    go true e =
        let few = leb-true (length (push_pending s).dispatched) room e in
        let l = flats_length (push_pending s).dispatched in
        omega arith
    go false e = omega arith

-- so what a call makes has room in the list
pub made_within : (s : State) (list : List ℕ) (x : Call) → length (made_words (rule s (with_room (length list / 13) x))) ≤ length list
unfolding with_room rule
made_within s list x =
    by_push (λ (y : Call). length (made_words (rule s (with_room (length list / 13) y))) ≤ length list)
    (λ y e. rw (same_call (length list / 13) y e, none_made s y e) (omega arith))
    (λ n. let w = push_within s (length list / 13) in let d : 13 * (length list / 13) ≤ length list = omega arith in omega arith)
    x

-- ---- the whole row

-- what is left of a list is no longer than it
pub left_short : (list : List ℕ) (o : Outcome) → length (left_of list o) ≤ length list
unfolding left_of
left_short list o = let l = length-drop (length (made_words o)) list in omega arith

-- as many calls are given as there are
pub as_many : (s : State) (list : List ℕ) (calls : List Call) → length (given s list calls) ≡ length calls
unfolding given
as_many s list [] = refl
as_many s list (x ∷ calls) =
    let o = rule s (with_room (length list / 13) x) in
    ap suc (as_many (state_after s o) (left_of list o) calls)

-- and as many answers
pub answers_many : (s : State) (calls : List Call) → length (row_answers s calls) ≡ length calls
unfolding row_answers
answers_many s [] = refl
answers_many s (x ∷ calls) = ap suc (answers_many (state_after s (rule s x)) calls)

-- their records have room in the list
pub records_within : (s : State) (list : List ℕ) (calls : List Call) → length (row_records s (given s list calls)) ≤ length list
unfolding row_records given left_of
records_within s list [] = omega arith
records_within s list (x ∷ calls) =
    more (with_room (length list / 13) x) (made_within s list x) (λ t rest. records_within t rest calls)
  where
    more : (y : Call) → length (made_words (rule s y)) ≤ length list
        → ((t : State) (rest : List ℕ) → length (row_records t (given t rest calls)) ≤ length rest)
        → length (made_words (rule s y) ++ row_records (state_after s (rule s y)) (given (state_after s (rule s y)) (left_of list (rule s y)) calls)) ≤ length list
    more y h others =
        let a = length-append (made_words (rule s y)) (row_records (state_after s (rule s y)) (given (state_after s (rule s y)) (left_of list (rule s y)) calls)) in
        let r = others (state_after s (rule s y)) (left_of list (rule s y)) in
        let d = length-drop (length (made_words (rule s y))) list in
        omega arith
