-- Demand 3 over words, from demand 3 over states: a call on words is the rule on the state that they spell, and what the
-- book is told by the answer and the lent list is what the outcome tells it.
use Prim.Native.Nat.{ℕ, ◌^◌, ◌<◌}
use mathlib.Core.Path.{◌≡◌, refl, sym, ap, ap₂, ◌∙◌, subst}
use mathlib.Core.Bool.{Bool, true, false, cond, not, ◌&&◌}
use mathlib.Core.List.{List, [], ◌∷◌, ◌++◌, map}
use native.Mathlib.Omega.{arith}
use lib.Dec.{eqb, leb}
use lib.ListN.{length, drop}
use Rattle.words.proofs.Check.{and_left, and_right}
use Rattle.rules.specs.Table.{all, Every}
use Rattle.rules.specs.State.{State}
use Rattle.rules.specs.Outcome.{Dispatch, Outcome}
use Rattle.rules.specs.Outcome.Outcome.{refused, short, done}
use Rattle.rules.specs.Outcome.Value.{dispatches}
use Rattle.rules.specs.Push.{push, push_pending, flat_records, records_read}
use Rattle.rules.specs.Calls.{Call, opened, rule, fits, answer_word, number_in, value_in}
use Rattle.rules.specs.Calls.Call.{Append, Subscribe, Flow, Ack, Seek, Redeliver, Close, Push}
use Rattle.rules.specs.Book.{Book, empty_book, enter_done, records_of, told, enter}
use Rattle.rules.specs.Book.Told.{told_refused, told_done}
use Rattle.rules.specs.Valid.{Valid}
use Rattle.rules.specs.Demand as rules
use Rattle.rules.specs.Demand.{Reached, is_done, subscribes_live, Accounted, Demand3}
use Rattle.rules.proofs.Valid.{says_valid}
use Rattle.rules.proofs.Kept.{records_ranged, settings_kept}
use Rattle.rules.proofs.Answers.{Numbered, numbered, number_done, value_made, records_back}
use Rattle.rules.proofs.Demand.{demand_3}
use Rattle.layout.specs.Layout.{decode, spells}
use Rattle.layout.specs.Calls.{answer, made_words, with_records, list_after}
use Rattle.layout.specs.Demand.{Lent, can_be_given, told_by, WordsReached, at_opening, after_call, after_calls, replaces, never_replaces, Demand3Words}
use Rattle.layout.proofs.Store.{spells_valid}
use Rattle.layout.proofs.Calls.{outcome_is, decode_after, spells_after, open_decode, open_spells}
use Rattle.layout.proofs.FewDue.{few_due}

-- ---- what the book is told

-- what an answer and a list tell, where the number says whether the call was done
told_as : (b : Book) (x : Call) (o : Outcome) (list : List ℕ) → Numbered o
    → enter b x (told_by (answer_word o) list) ≡ enter b x (cond (is_done o) (told_done (records_read (value_in (answer_word o)) list)) told_refused)
unfolding told_by
told_as b x o list h =
    ap (λ (t : Bool). enter b x (cond t (told_done (records_read (value_in (answer_word o)) list)) told_refused)) (number_done o h)

-- a call whose records the book does not look at, whatever the list
told_other : (b : Book) (x : Call) → ((l m : List Dispatch) → enter_done b x l ≡ enter_done b x m) → (list : List ℕ) (o : Outcome) → Numbered o
    → enter b x (told_by (answer_word o) list) ≡ enter b x (told o)
unfolding is_done enter told
told_other b x same list (refused n) h = told_as b x (refused n) list h
told_other b x same list (short n) h = told_as b x (short n) list h
told_other b x same list (done v t) h = told_as b x (done v t) list h ∙ same _ (records_of v)

-- a push: the records are read back from the front of the list
told_push : (b : Book) (room : ℕ) (behind : List ℕ) (l : List Dispatch) (t : State) → length l < 2 ^ 56
    → Every (λ (x : Dispatch). x.permits < 2 ^ 64) l → (c : Bool) → Numbered (cond c (done (dispatches l) t) (short (length l)))
    → enter b (Push room) (told_by (answer_word (cond c (done (dispatches l) t) (short (length l)))) (made_words (cond c (done (dispatches l) t) (short (length l))) ++ behind))
    ≡ enter b (Push room) (told (cond c (done (dispatches l) t) (short (length l))))
unfolding is_done enter told made_words records_of
told_push b room behind l t few small true h =
    let list : List ℕ = flat_records l ++ behind in
    told_as b (Push room) (done (dispatches l) t) list h
    ∙ ap (λ (n : ℕ). enter_done b (Push room) (records_read n list)) (value_made l t few)
    ∙ ap (enter_done b (Push room)) (records_back l behind small)
told_push b room behind l t few small false h = told_as b (Push room) (short (length l)) behind h

-- any call of a valid state: the records that it makes tell the book, whatever stands behind them
pub told_front : (b : Book) (s : State) (x : Call) (behind : List ℕ) → Valid s
    → enter b x (told_by (answer_word (rule s x)) (made_words (rule s x) ++ behind)) ≡ enter b x (told (rule s x))
unfolding enter_done rule push
told_front b s (Append topic m) behind v = told_other b (Append topic m) (λ l k. refl) _ (rule s (Append topic m)) (numbered s (Append topic m))
told_front b s (Subscribe i kind p) behind v = told_other b (Subscribe i kind p) (λ l k. refl) _ (rule s (Subscribe i kind p)) (numbered s (Subscribe i kind p))
told_front b s (Flow i grant) behind v = told_other b (Flow i grant) (λ l k. refl) _ (rule s (Flow i grant)) (numbered s (Flow i grant))
told_front b s (Ack i acked) behind v = told_other b (Ack i acked) (λ l k. refl) _ (rule s (Ack i acked)) (numbered s (Ack i acked))
told_front b s (Seek i target) behind v = told_other b (Seek i target) (λ l k. refl) _ (rule s (Seek i target)) (numbered s (Seek i target))
told_front b s (Redeliver i back) behind v = told_other b (Redeliver i back) (λ l k. refl) _ (rule s (Redeliver i back)) (numbered s (Redeliver i back))
told_front b s (Close i) behind v = told_other b (Close i) (λ l k. refl) _ (rule s (Close i)) (numbered s (Close i))
told_front b s (Push room) behind v =
    let all = push_pending s in
    told_push b room behind all.dispatched all.state (omega (arith, few_due s v))
    (λ x m. let top = (records_ranged s v.tables x m).permits_to in omega (arith, top))
    (leb (length all.dispatched) room) (numbered s (Push room))

-- the list after a call has its records in front
pub records_in_front : (list : List ℕ) (o : Outcome) → list_after list o ≡ made_words o ++ drop (length (made_words o)) list
unfolding list_after with_records
records_in_front list o = refl

-- so it tells the book
told_same : (b : Book) (s : State) (x : Call) (list : List ℕ) → Valid s
    → enter b x (told_by (answer_word (rule s x)) (list_after list (rule s x))) ≡ enter b x (told (rule s x))
told_same b s x list v =
    ap (λ (l : List ℕ). enter b x (told_by (answer_word (rule s x)) l)) (records_in_front list (rule s x))
    ∙ told_front b s x (drop (length (made_words (rule s x))) list) v

-- ---- one call

-- the state that words say, with their book
abbrev pub read : WordsReached → Reached
read r = record { state = decode r.words; book = r.book }

module _ (r : WordsReached) (c : Lent) (h : spells r.words ≡ true) (f : fits c.call ≡ true) where
  -- the words' state is valid
  its_valid : Valid (decode r.words)
  its_valid = (says_valid (decode r.words)).gives (spells_valid r.words h)

  -- a call on words with their book is the call on their state with that book
  pub call_same : read (after_call r c) ≡ rules.after_call (read r) c.call
  unfolding after_call answer rules.after_call
  call_same =
      ap₂ (λ (s : State) (b : Book). record { state = s; book = b })
      (decode_after r.words c.call h f)
      (ap (λ (o : Outcome). enter r.book c.call (told_by (answer_word o) (list_after c.list o))) (outcome_is r.words c.call h)
      ∙ told_same r.book (decode r.words) c.call c.list its_valid)

  -- and replaces a live id where that does
  replaces_same : (noop : ℕ) → (decode r.words).live_id_subscribe_is_noop ≡ not (eqb noop 0)
      → replaces noop r c ≡ rules.replaces (read r) c.call
  unfolding replaces answer rules.replaces
  replaces_same noop n =
      let number : eqb (number_in (answer r.words c.call)) 0 ≡ is_done (rule (decode r.words) c.call) =
      ap (λ (o : Outcome). eqb (number_in (answer_word o)) 0) (outcome_is r.words c.call h)
      ∙ number_done (rule (decode r.words) c.call) (numbered (decode r.words) c.call) in
      let switch : eqb noop 0 ≡ not (decode r.words).live_id_subscribe_is_noop = sym (ap not n ∙ twice (eqb noop 0)) in
      ap₂ (λ (x y : Bool). subscribes_live r.book c.call && x && y) number switch
    where
      twice : (t : Bool) → not (not t) ≡ t
      twice true = refl
      twice false = refl

  -- the words after it spell a state
  its_spells : spells (after_call r c).words ≡ true
  unfolding after_call
  its_spells = spells_after r.words c.call h f

  -- with the same no-op switch
  same_switch : (decode (after_call r c).words).live_id_subscribe_is_noop ≡ (decode r.words).live_id_subscribe_is_noop
  unfolding after_call
  same_switch =
      ap (λ (s : State). s.live_id_subscribe_is_noop) (decode_after r.words c.call h f)
      ∙ (settings_kept (decode r.words) c.call).same_noop

-- ---- a list of calls

-- what an export can be given has its widths
given_fits : (c : Lent) (calls : List Lent) → all can_be_given (c ∷ calls) ≡ true → fits c.call ≡ true
unfolding all can_be_given
given_fits c calls g = and_left (fits c.call) _ (and_left (can_be_given c) (all can_be_given calls) g)

-- and so for the rest
given_rest : (c : Lent) (calls : List Lent) → all can_be_given (c ∷ calls) ≡ true → all can_be_given calls ≡ true
unfolding all
given_rest c calls g = and_right (can_be_given c) (all can_be_given calls) g

-- the calls alone
abbrev calls_of : List Lent → List Call
calls_of calls = map (λ (c : Lent). c.call) calls

-- the words after a list of calls spell a state
pub calls_spell : (calls : List Lent) (r : WordsReached) → spells r.words ≡ true → all can_be_given calls ≡ true
    → spells (after_calls r calls).words ≡ true
unfolding after_calls
calls_spell [] r h g = h
calls_spell (c ∷ calls) r h g = calls_spell calls (after_call r c) (its_spells r c h (given_fits c calls g)) (given_rest c calls g)

-- a list of calls on words with their book is the list on their state
calls_same : (calls : List Lent) (r : WordsReached) → spells r.words ≡ true → all can_be_given calls ≡ true
    → read (after_calls r calls) ≡ rules.after_calls (read r) (calls_of calls)
unfolding after_calls rules.after_calls
calls_same [] r h g = refl
calls_same (c ∷ calls) r h g =
    let f = given_fits c calls g in
    calls_same calls (after_call r c) (its_spells r c h f) (given_rest c calls g)
    ∙ ap (λ (z : Reached). rules.after_calls z (calls_of calls)) (call_same r c h f)

-- and replaces no live id where that does not
never_same : (noop : ℕ) (calls : List Lent) (r : WordsReached) → spells r.words ≡ true → all can_be_given calls ≡ true
    → (decode r.words).live_id_subscribe_is_noop ≡ not (eqb noop 0)
    → never_replaces noop r calls ≡ rules.never_replaces (read r) (calls_of calls)
unfolding never_replaces rules.never_replaces
never_same noop [] r h g n = refl
never_same noop (c ∷ calls) r h g n =
    let f = given_fits c calls g in
    ap₂ (λ (x y : Bool). not x && y) (replaces_same r c h f noop n)
    (never_same noop calls (after_call r c) (its_spells r c h f) (given_rest c calls g) (same_switch r c h f ∙ n)
    ∙ ap (λ (z : Reached). rules.never_replaces z (calls_of calls)) (call_same r c h f))

-- ---- calls after calls

-- those of one list and then those of another
pub after_append : (xs ys : List Lent) (r : WordsReached) → after_calls r (xs ++ ys) ≡ after_calls (after_calls r xs) ys
unfolding after_calls
after_append [] ys r = refl
after_append (c ∷ xs) ys r = after_append xs ys (after_call r c)

-- replace no live id if neither do
pub never_append : (noop : ℕ) (xs ys : List Lent) (r : WordsReached) → never_replaces noop r xs ≡ true
    → never_replaces noop (after_calls r xs) ys ≡ true → never_replaces noop r (xs ++ ys) ≡ true
unfolding never_replaces after_calls
never_append noop [] ys r h g = g
never_append noop (c ∷ xs) ys r h g =
    let first : not (replaces noop r c) ≡ true = and_left (not (replaces noop r c)) (never_replaces noop (after_call r c) xs) h in
    rw first (never_append noop xs ys (after_call r c) (and_right (not (replaces noop r c)) (never_replaces noop (after_call r c) xs) h) g)

-- ---- demand 3

-- demand 3 over words
pub demand_3_words : Demand3Words
unfolding Demand3Words Demand3 at_opening rules.at_opening opened
demand_3_words ws e noop calls low high long given never =
    let r : WordsReached = at_opening ws e noop in
    let spelt : spells r.words ≡ true = open_spells ws e 0 noop low high long in
    let opens : read r ≡ rules.at_opening e false (not (eqb noop 0)) =
    ap (λ (s : State). record { state = s; book = empty_book }) (open_decode ws e 0 noop low high long) in
    let switch : (decode r.words).live_id_subscribe_is_noop ≡ not (eqb noop 0) = ap (λ (z : Reached). z.state.live_id_subscribe_is_noop) opens in
    let never_states : rules.never_replaces (rules.at_opening e false (not (eqb noop 0))) (calls_of calls) ≡ true =
    ap (λ (z : Reached). rules.never_replaces z (calls_of calls)) (sym opens) ∙ sym (never_same noop calls r spelt given switch) ∙ never in
    let states : read (after_calls r calls) ≡ rules.after_calls (rules.at_opening e false (not (eqb noop 0))) (calls_of calls) =
    calls_same calls r spelt given ∙ ap (λ (z : Reached). rules.after_calls z (calls_of calls)) opens in
    record {
      spelt = calls_spell calls r spelt given;
      accounted = subst Accounted (sym states) (demand_3 e (not (eqb noop 0)) (calls_of calls) low high never_states);
    }
