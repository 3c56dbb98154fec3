-- What a book is told by a row's script, answers and list is what it is told by the calls of the row one by one: each call's
-- answer is in its place, and its records stand in front of what is left of the list.
use Prim.Native.Nat.{ℕ, ◌*◌, ◌/◌, ◌^◌, ◌<◌}
use mathlib.Core.Path.{◌≡◌, refl, sym, ap, ap₂, ◌∙◌, subst}
use mathlib.Core.Bool.{Bool, true, false, cond, not, ◌&&◌, true≢false}
use mathlib.Core.List.{List, [], ◌∷◌, ◌++◌, append_assoc}
use native.Mathlib.Omega.{arith}
use lib.Dec.{eqb, leb}
use lib.ListN.{length}
use lib.Seq.{drop_at}
use borrow.Author.Tests.{eq-eqb}
use Rattle.words.proofs.Check.{and_left, and_right}
use Rattle.rules.specs.Table.{all}
use Rattle.rules.specs.State.{State}
use Rattle.rules.specs.Outcome.{Dispatch, Outcome}
use Rattle.rules.specs.Outcome.Outcome.{short, done}
use Rattle.rules.specs.Outcome.Value.{dispatches}
use Rattle.rules.specs.Push.{push, push_pending, flat_records}
use Rattle.rules.specs.Calls.{Call, fits, rule, state_after, answer_word, number_in}
use Rattle.rules.specs.Calls.Call.{Append, Subscribe, Flow, Ack, Seek, Redeliver, Close, Push}
use Rattle.rules.specs.Valid.{Valid}
use Rattle.rules.specs.Book.{Book, Told, enter, enter_done, records_of}
use Rattle.rules.specs.Book.Told.{told_refused, told_done}
use Rattle.rules.specs.Demand as rules
use Rattle.rules.specs.Demand.{Reached, is_done, subscribes_live}
use Rattle.rules.proofs.Valid.{says_valid}
use Rattle.rules.proofs.Answers.{Numbered, is_push, by_push, number_done, value_made, flats_length}
use Rattle.layout.specs.Layout.{decode, spells}
use Rattle.layout.specs.Calls.{run, made_words}
use Rattle.layout.specs.Demand.{Lent, room_of_list, can_be_given, told_by, WordsReached, after_call, after_calls, replaces, never_replaces}
use Rattle.layout.proofs.Store.{spells_valid}
use Rattle.layout.proofs.Calls.{answer_is, decode_after, spells_after}
use Rattle.layout.proofs.FewDue.{few_due}
use Rattle.layout.proofs.Demand.{call_same, told_front}
use Rattle.row.specs.Row.{with_room, left_of, given, row_answers, row_records}
use Rattle.row.specs.Demand.{left_told, enter_calls, none_replaced}
use Rattle.row.proofs.Given.{same_call, room_fits, room_is_word, none_made, left_short}

-- ---- the book does not look at a push's room

-- what is entered
entered_same : (b : Book) (room : ℕ) (x : Call) (t : Told) → enter b (with_room room x) t ≡ enter b x t
unfolding enter enter_done with_room
entered_same b room x told_refused = refl
entered_same b room (Append topic m) (told_done l) = refl
entered_same b room (Subscribe i kind p) (told_done l) = refl
entered_same b room (Flow i grant) (told_done l) = refl
entered_same b room (Ack i list) (told_done l) = refl
entered_same b room (Seek i target) (told_done l) = refl
entered_same b room (Redeliver i list) (told_done l) = refl
entered_same b room (Close i) (told_done l) = refl
entered_same b room (Push n) (told_done l) = refl

-- whether a live id is subscribed
live_same : (b : Book) (room : ℕ) (x : Call) → subscribes_live b (with_room room x) ≡ subscribes_live b x
unfolding subscribes_live with_room
live_same b room (Append topic m) = refl
live_same b room (Subscribe i kind p) = refl
live_same b room (Flow i grant) = refl
live_same b room (Ack i list) = refl
live_same b room (Seek i target) = refl
live_same b room (Redeliver i list) = refl
live_same b room (Close i) = refl
live_same b room (Push n) = refl

-- ---- what is left of the list

-- a push that is done tells how many records it made, one that is not made none
left_push : (n : ℕ) (l : List Dispatch) (t : State) (more : List ℕ) → length l < 2 ^ 56 → (c : Bool)
    → left_told (Push n) (answer_word (cond c (done (dispatches l) t) (short (length l)))) (made_words (cond c (done (dispatches l) t) (short (length l))) ++ more) ≡ more
unfolding left_told made_words records_of is_done Numbered
left_push n l t more few true =
    let z : eqb (number_in (answer_word (done (dispatches l) t))) 0 ≡ true = number_done (done (dispatches l) t) tt in
    rw (z, value_made l t few) (drop_at (flat_records l) more (13 * length l) (flats_length l))
left_push n l t more few false = rw (number_done (short (length l)) tt)

-- any other call makes none
left_other : (x : Call) (a : ℕ) (list : List ℕ) → is_push x ≡ false → left_told x a list ≡ list
unfolding left_told is_push
left_other (Append topic m) a list h = refl
left_other (Subscribe i kind p) a list h = refl
left_other (Flow i grant) a list h = refl
left_other (Ack i acked) a list h = refl
left_other (Seek i target) a list h = refl
left_other (Redeliver i back) a list h = refl
left_other (Close i) a list h = refl
left_other (Push n) a list h = absurd (true≢false h)

-- so what a caller takes to be left is what is left
left_is : (s : State) (room : ℕ) (x : Call) (more : List ℕ) → Valid s
    → left_told x (answer_word (rule s (with_room room x))) (made_words (rule s (with_room room x)) ++ more) ≡ more
unfolding with_room rule push
left_is s room x more v =
    by_push (λ (y : Call). left_told y (answer_word (rule s (with_room room y))) (made_words (rule s (with_room room y)) ++ more) ≡ more)
    (λ y e.
    left_other y _ _ e ∙ ap (λ (l : List ℕ). l ++ more) (ap (λ (z : Call). made_words (rule s z)) (same_call room y e) ∙ none_made s y e))
    (λ n.
    left_push n (push_pending s).dispatched (push_pending s).state more (omega (arith, few_due s v)) (leb (length (push_pending s).dispatched) room))
    x

-- ---- the calls of a row, each with the list lent to it

-- as the exports would be given them
unfoldable pub lent : State → List ℕ → List Call → List Lent
lent s list [] = []
lent s list (x ∷ calls) =
    let y = with_room (length list / 13) x in
    record { call = y; list = list } ∷ lent (state_after s (rule s y)) (left_of list (rule s y)) calls

-- a push's room is what its list holds
room_right : (list : List ℕ) (x : Call) → room_of_list (with_room (length list / 13) x) list ≡ true
unfolding room_of_list with_room
room_right list (Append topic m) = refl
room_right list (Subscribe i kind p) = refl
room_right list (Flow i grant) = refl
room_right list (Ack i acked) = refl
room_right list (Seek i target) = refl
room_right list (Redeliver i back) = refl
room_right list (Close i) = refl
room_right list (Push n) = eq-eqb (length list / 13) (length list / 13) refl

-- the exports can be given them
pub lent_given : (s : State) (list : List ℕ) (calls : List Call) → length list < 2 ^ 64 → all fits calls ≡ true
    → all can_be_given (lent s list calls) ≡ true
unfolding lent all can_be_given
lent_given s list [] h f = refl
lent_given s list (x ∷ calls) h f =
    let y = with_room (length list / 13) x in
    let one : fits y ≡ true = room_fits (length list / 13) x (room_is_word list h) (and_left (fits x) (all fits calls) f) in
    let l = left_short list (rule s y) in
    rw (one, room_right list x)
    (lent_given (state_after s (rule s y)) (left_of list (rule s y)) calls (omega arith) (and_right (fits x) (all fits calls) f))

-- the words after them are those of the row
pub lent_words : (r : WordsReached) (s : State) (list : List ℕ) (calls : List Call)
    → (after_calls r (lent s list calls)).words ≡ run r.words (given s list calls)
unfolding after_calls after_call lent given run
lent_words r s list [] = refl
lent_words r s list (x ∷ calls) =
    let y = with_room (length list / 13) x in
    lent_words (after_call r (record { call = y; list = list })) (state_after s (rule s y)) (left_of list (rule s y)) calls

-- ---- the book after them

-- one call: the book, the list and the answer that follow it
module _ (r : WordsReached) (h : spells r.words ≡ true) (list : List ℕ) (small : length list < 2 ^ 64) (x : Call) (f : fits x ≡ true) where
  -- as it is made
  abbrev as_made : Call
  as_made = with_room (length list / 13) x

  -- what it comes to
  abbrev comes_to : Outcome
  comes_to = rule (decode r.words) as_made

  -- with its list
  abbrev as_lent : Lent
  as_lent = record { call = as_made; list = list }

  -- it fits
  made_fits : fits as_made ≡ true
  made_fits = room_fits (length list / 13) x (room_is_word list small) f

  -- the words' state is valid
  its_valid : Valid (decode r.words)
  its_valid = (says_valid (decode r.words)).gives (spells_valid r.words h)

  -- its records in front of whatever tell the book what the call told it
  pub same_entered : (more : List ℕ) → enter r.book x (told_by (answer_word comes_to) (made_words comes_to ++ more)) ≡ (after_call r as_lent).book
  unfolding rules.after_call
  same_entered more =
      sym (entered_same r.book (length list / 13) x _)
      ∙ told_front r.book (decode r.words) as_made more its_valid
      ∙ sym (ap (λ (z : Reached). z.book) (call_same r as_lent h made_fits))

  -- and leave what follows them
  pub same_left : (more : List ℕ) → left_told x (answer_word comes_to) (made_words comes_to ++ more) ≡ more
  same_left more = left_is (decode r.words) (length list / 13) x more its_valid

  -- it replaces a live id where that does
  pub same_replaces : (noop : ℕ) → subscribes_live r.book x && eqb (number_in (answer_word comes_to)) 0 && eqb noop 0 ≡ replaces noop r as_lent
  unfolding replaces
  same_replaces noop =
      ap₂ (λ (t : Bool) (a : ℕ). t && eqb (number_in a) 0 && eqb noop 0)
      (sym (live_same r.book (length list / 13) x)) (sym (answer_is r.words as_made h))

  -- the words after it spell the state after it
  pub next_spells : spells (after_call r as_lent).words ≡ true
  unfolding after_call
  next_spells = spells_after r.words as_made h made_fits

  pub next_state : decode (after_call r as_lent).words ≡ state_after (decode r.words) comes_to
  unfolding after_call
  next_state = decode_after r.words as_made h made_fits

-- the answers and the list of a row, with anything behind them, tell the book what the calls one by one tell it
pub row_told : (calls : List Call) (r : WordsReached) (list : List ℕ) (s : State) → decode r.words ≡ s → spells r.words ≡ true
    → length list < 2 ^ 64 → all fits calls ≡ true → (u v : List ℕ)
    → enter_calls r.book calls (row_answers s (given s list calls) ++ u) (row_records s (given s list calls) ++ v)
    ≡ (after_calls r (lent s list calls)).book
unfolding enter_calls after_calls lent given row_answers row_records all
row_told [] r list s e h small f u v = refl
row_told (x ∷ calls) r list s e h small f u v =
    let one = and_left (fits x) (all fits calls) f in
    let y = with_room (length list / 13) x in
    let o = rule s y in
    let t = state_after s o in
    let rest = left_of list o in
    let l = left_short list o in
    let more = row_records t (given t rest calls) ++ v in
    let answers = row_answers t (given t rest calls) ++ u in
    let c : Lent = record { call = y; list = list } in
    ap (λ (k : List ℕ). enter_calls (enter r.book x (told_by (answer_word o) k)) calls answers (left_told x (answer_word o) k))
    (append_assoc (made_words o) (row_records t (given t rest calls)) v)
    ∙ ap₂ (λ (b : Book) (k : List ℕ). enter_calls b calls answers k)
    (subst (λ (z : State). enter r.book x (told_by (answer_word (rule z y)) (made_words (rule z y) ++ more)) ≡ (after_call r c).book) e
    (same_entered r h list small x one more))
    (subst (λ (z : State). left_told x (answer_word (rule z y)) (made_words (rule z y) ++ more) ≡ more) e (same_left r h list small x one more))
    ∙ row_told calls (after_call r c) rest t (subst (λ (z : State). decode (after_call r c).words ≡ state_after z (rule z y)) e (next_state r h list small x one))
    (next_spells r h list small x one) (omega arith) (and_right (fits x) (all fits calls) f) u v

-- and whether a live id is replaced
pub row_replaced : (noop : ℕ) (calls : List Call) (r : WordsReached) (list : List ℕ) (s : State) → decode r.words ≡ s → spells r.words ≡ true
    → length list < 2 ^ 64 → all fits calls ≡ true → (u v : List ℕ)
    → none_replaced noop r.book calls (row_answers s (given s list calls) ++ u) (row_records s (given s list calls) ++ v)
    ≡ never_replaces noop r (lent s list calls)
unfolding none_replaced never_replaces lent given row_answers row_records all
row_replaced noop [] r list s e h small f u v = refl
row_replaced noop (x ∷ calls) r list s e h small f u v =
    let one = and_left (fits x) (all fits calls) f in
    let y = with_room (length list / 13) x in
    let o = rule s y in
    let t = state_after s o in
    let rest = left_of list o in
    let l = left_short list o in
    let more = row_records t (given t rest calls) ++ v in
    let answers = row_answers t (given t rest calls) ++ u in
    let c : Lent = record { call = y; list = list } in
    let replaced : Bool = subscribes_live r.book x && eqb (number_in (answer_word o)) 0 && eqb noop 0 in
    ap (λ (k : List ℕ). not replaced && none_replaced noop (enter r.book x (told_by (answer_word o) k)) calls answers (left_told x (answer_word o) k))
    (append_assoc (made_words o) (row_records t (given t rest calls)) v)
    ∙ ap₂ (λ (p q : Bool). not p && q)
    (subst (λ (z : State). subscribes_live r.book x && eqb (number_in (answer_word (rule z y))) 0 && eqb noop 0 ≡ replaces noop r c) e
    (same_replaces r h list small x one noop))
    (ap₂ (λ (b : Book) (k : List ℕ). none_replaced noop b calls answers k)
    (subst (λ (z : State). enter r.book x (told_by (answer_word (rule z y)) (made_words (rule z y) ++ more)) ≡ (after_call r c).book) e
    (same_entered r h list small x one more))
    (subst (λ (z : State). left_told x (answer_word (rule z y)) (made_words (rule z y) ++ more) ≡ more) e (same_left r h list small x one more))
    ∙ row_replaced noop calls (after_call r c) rest t (subst (λ (z : State). decode (after_call r c).words ≡ state_after z (rule z y)) e (next_state r h list small x one))
    (next_spells r h list small x one) (omega arith) (and_right (fits x) (all fits calls) f) u v)
