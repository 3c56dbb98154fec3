-- The calls of a row on the way: what was done so far, and the row of the calls that are left on what it left, make the whole
-- row. A call more keeps it, and at the end all of it is done.
use Prim.Native.Nat.{ℕ, ◌+◌, ◌-◌, ◌/◌, ◌^◌, ◌≤◌, ◌<◌}
use mathlib.Core.Path.{◌≡◌, refl, sym, ap, ap₂, ◌∙◌, subst}
use mathlib.Core.Bool.{true, ◌&&◌}
use mathlib.Core.List.{List, [], ◌∷◌, ◌++◌, append_assoc, append-nil}
use native.Mathlib.Omega.{arith}
use lib.ListN.{length, set, take, drop, length-append, length-drop, length-set, drop_of_length-le}
use lib.Seq.{drop_at, drop-drop, length-take-le, take_all}
use Rattle.words.specs.Act.{lay, store}
use Rattle.words.proofs.Act.{lay_eq, lay_cons, lay_append, lay_none, lay_front}
use Rattle.rules.specs.Table.{all}
use Rattle.rules.specs.Outcome.{Outcome}
use Rattle.rules.specs.Calls.{Call, fits, answer_word}
use Rattle.rules.proofs.Valid.{says_valid}
use Rattle.layout.specs.Layout.{decode, spells}
use Rattle.layout.specs.Calls.{outcome, answer, after, run, made_words, with_records, list_after}
use Rattle.layout.proofs.Store.{spells_valid}
use Rattle.layout.proofs.Calls.{outcome_is, length_after, spells_after}
use Rattle.layout.proofs.Demand.{records_in_front}
use Rattle.words.proofs.Check.{and_left, and_right}
use Rattle.trace.specs.Calls.{kind_of}
use Rattle.trace_form.specs.declared.Call as code
use Rattle.trace_form.specs.declared.Call.TheVariants as calls_of
use Rattle.trace_form.specs.Calls.{as_call}
use Rattle.row.specs.Row.{with_room, left_of, given, row_answers, row_records}
use Rattle.row.specs.Promises.{MadeFirst, OneByOne}
use Rattle.row.proofs.Given.{room_fits, room_is_word, made_within, as_many, answers_many, records_within}
use Rattle.row.proofs.OneByOne.{one_by_one}
use Rattle.row_calls.specs.Rows.{words_filled, MadeAll}
use Rattle.row_calls.proofs.Filled.{filled}

-- words, answers and list on the way, from those at the start; the calls that are left of all, how many are made, and how many
-- words of the list are filled
pub record Going (every : List Call) (ws₀ answers₀ list₀ ws answers list : List ℕ) (left : List Call) (call from : ℕ) : Type 0 where
  pub fit : all fits left ≡ true
  pub spelt : spells ws ≡ true
  pub inside : from ≤ length list
  pub enough : call + length left ≤ length answers
  pub short : length list < 2 ^ 64
  pub as_many_words : length ws ≡ length ws₀
  pub as_many_answers : length answers ≡ length answers₀
  pub as_long : length list ≡ length list₀
  pub words : run ws (given (decode ws) (drop from list) left) ≡ run ws₀ (given (decode ws₀) list₀ every)
  pub each :
      (lay (row_answers (decode ws) (given (decode ws) (drop from list) left))).run call answers
      ≡ (lay (row_answers (decode ws₀) (given (decode ws₀) list₀ every))).run 0 answers₀
  pub records :
      (lay (row_records (decode ws) (given (decode ws) (drop from list) left))).run from list
      ≡ (lay (row_records (decode ws₀) (given (decode ws₀) list₀ every))).run 0 list₀

-- at the start
pub starts_going : (ws answers list : List ℕ) (calls : List Call) → spells ws ≡ true → all fits calls ≡ true → length calls ≤ length answers
    → length list < 2 ^ 64 → Going calls ws answers list ws answers list calls 0 0
starts_going ws answers list calls h f n small =
    record {
      fit = f;
      spelt = h;
      inside = omega arith;
      enough = omega arith;
      short = small;
      as_many_words = refl;
      as_many_answers = refl;
      as_long = refl;
      words = refl;
      each = refl;
      records = refl;
    }

-- a call of the code is the rules' with its room
made_as : (room : ℕ) (x : code.Call) → as_call room x ≡ with_room room (as_call 0 x)
unfolding as_call with_room
made_as room (calls_of.Append topic ledger entry handle batch_size) = refl
made_as room (calls_of.Subscribe consumer kind topic subscription) = refl
made_as room (calls_of.Flow consumer grant) = refl
made_as room (calls_of.Ack consumer list) = refl
made_as room (calls_of.Seek consumer target) = refl
made_as room (calls_of.Redeliver consumer list) = refl
made_as room (calls_of.Close consumer) = refl
made_as room calls_of.Push = refl

-- ---- one call

module _ {every : List Call} {ws₀ answers₀ list₀ ws answers list : List ℕ} {left : List Call} {call from : ℕ}
    (g : Going every ws₀ answers₀ list₀ ws answers list left call from) (made : code.Call) (others : List Call) (are : left ≡ as_call 0 made ∷ others) where
  -- what is left of the list, and the call as it is made with it
  abbrev rest : List ℕ
  rest = drop from list

  abbrev as_made : Call
  as_made = with_room (length rest / 13) (as_call 0 made)

  rest_short : length rest < 2 ^ 64
  rest_short = let l = length-drop from list in let s = g.short in omega arith

  -- it has its widths, and so have the others
  all_fit : fits (as_call 0 made) && all fits others ≡ true
  unfolding all
  all_fit = ap (all fits) (sym are) ∙ g.fit

  first_fits : fits as_made ≡ true
  first_fits = room_fits (length rest / 13) (as_call 0 made) (room_is_word rest rest_short) (and_left (fits (as_call 0 made)) (all fits others) all_fit)

  others_fit : all fits others ≡ true
  others_fit = and_right (fits (as_call 0 made)) (all fits others) all_fit

  -- what it makes has room
  made_short : length (made_words (outcome ws as_made)) ≤ length rest
  made_short =
      subst (λ (o : Outcome). length (made_words o) ≤ length rest) (sym (outcome_is ws as_made g.spelt)) (made_within (decode ws) rest (as_call 0 made))

  -- its answer tells how much of the list it filled
  pub fills : words_filled (kind_of (as_call 0 made)) (answer ws as_made) ≡ length (made_words (outcome ws as_made))
  unfolding answer
  fills =
      subst (λ (o : Outcome). words_filled (kind_of (as_call 0 made)) (answer_word o) ≡ length (made_words o)) (sym (outcome_is ws as_made g.spelt))
      (filled (decode ws) (length rest / 13) (as_call 0 made) ((says_valid (decode ws)).gives (spells_valid ws g.spelt)))

  -- the list after it: its records stand where the rest began
  laid_there : {list' : List ℕ} → list' ≡ take from list ++ list_after rest (outcome ws as_made)
      → list' ≡ (lay (made_words (outcome ws as_made))).run from list
  laid_there e =
      let l = length-drop from list in
      let m = made_short in
      let i = g.inside in
      let mw = made_words (outcome ws as_made) in
      e ∙ ap (λ (k : List ℕ). take from list ++ k) (records_in_front rest (outcome ws as_made) ∙ ap (λ (k : List ℕ). mw ++ k) (drop-drop (length mw) from list))
      ∙ sym (append_assoc (take from list) mw (drop (from + length mw) list)) ∙ sym (lay_eq mw from list (omega arith))

  -- and what is left of it
  left_there : drop (from + length (made_words (outcome ws as_made))) ((lay (made_words (outcome ws as_made))).run from list) ≡ left_of rest (outcome ws as_made)
  unfolding left_of
  left_there =
      let l = length-drop from list in
      let m = made_short in
      let i = g.inside in
      let mw = made_words (outcome ws as_made) in
      let t = length-take-le from list i in
      let n = length-append (take from list) mw in
      ap (drop (from + length mw)) (lay_eq mw from list (omega arith))
      ∙ drop_at (take from list ++ mw) (drop (from + length mw) list) (from + length mw) (omega arith)
      ∙ sym (drop-drop (length mw) from list)

  -- the calls after it, with what is left
  abbrev next_words : List ℕ
  next_words = after ws as_made

  abbrev next_given : List ℕ → List Call
  next_given l = given (decode next_words) l others

  abbrev next_list : List ℕ
  next_list = (lay (made_words (outcome ws as_made))).run from list

  abbrev next_from : ℕ
  next_from = from + length (made_words (outcome ws as_made))

  -- the row of the calls that are left is this call, and the row of those after it
  its_row : MadeFirst ws rest (as_call 0 made) others
  unfolding OneByOne
  its_row = one_by_one ws rest (as_call 0 made) others g.spelt first_fits

  next_each : (lay (row_answers (decode next_words) (next_given (drop next_from next_list)))).run (call + 1) (set answers call (answer ws as_made))
      ≡ (lay (row_answers (decode ws) (given (decode ws) rest left))).run call answers
  unfolding store
  next_each =
      ap (λ (l : List ℕ). (lay (row_answers (decode next_words) (next_given l))).run (call + 1) (set answers call (answer ws as_made))) left_there
      ∙ sym (lay_cons (answer ws as_made) _ call answers) ∙ ap (λ (l : List ℕ). (lay l).run call answers) (sym its_row.each)
      ∙ ap (λ (l : List Call). (lay (row_answers (decode ws) (given (decode ws) rest l))).run call answers) (sym are)

  next_records : (lay (row_records (decode next_words) (next_given (drop next_from next_list)))).run next_from next_list
      ≡ (lay (row_records (decode ws) (given (decode ws) rest left))).run from list
  next_records =
      ap (λ (l : List ℕ). (lay (row_records (decode next_words) (next_given l))).run next_from next_list) left_there
      ∙ sym (lay_append (made_words (outcome ws as_made)) _ from list) ∙ ap (λ (l : List ℕ). (lay l).run from list) (sym its_row.records)
      ∙ ap (λ (l : List Call). (lay (row_records (decode ws) (given (decode ws) rest l))).run from list) (sym are)

  -- so the row goes on
  going_next : Going every ws₀ answers₀ list₀ next_words (set answers call (answer ws as_made)) next_list others (call + 1) next_from
  going_next =
      let r = length-drop from list in
      let m = made_short in
      let i = g.inside in
      let t = g.short in
      let n = g.enough in
      let c = ap length are in
      let even = (lay (made_words (outcome ws as_made))).even from list in
      let same = length-set answers call (answer ws as_made) in
      record {
        fit = others_fit;
        spelt = spells_after ws as_made g.spelt first_fits;
        inside = omega arith;
        enough = omega arith;
        short = omega arith;
        as_many_words = length_after ws as_made g.spelt ∙ g.as_many_words;
        as_many_answers = same ∙ g.as_many_answers;
        as_long = even ∙ g.as_long;
        words =
            ap (λ (k : List ℕ). run next_words (next_given k)) left_there
            ∙ sym its_row.words ∙ ap (λ (k : List Call). run ws (given (decode ws) rest k)) (sym are) ∙ g.words;
        each = next_each ∙ g.each;
        records = next_records ∙ g.records;
      }

  -- there is a word for its answer
  pub has_place : call < length answers
  has_place = let n = g.enough in let c = ap length are in omega arith

  -- the part of the list that is lent is all that is left
  abbrev part : List ℕ
  part = take (length list - from) (drop from list)

  is_rest : part ≡ drop from list
  is_rest = let l = length-drop from list in take_all (length list - from) (drop from list) (omega arith)

  none_behind : drop (length list - from) (drop from list) ≡ []
  none_behind = let l = length-drop from list in let h : length (drop from list) ≤ length list - from = omega arith in drop_of_length-le (drop from list) h

  abbrev of_part : Call
  of_part = as_call (length part / 13) made

  part_is : of_part ≡ as_made
  part_is = ap (λ (l : List ℕ). as_call (length l / 13) made) is_rest ∙ made_as (length rest / 13) made

  -- with the numbers as the code has them
  pub goes_on : {ws' answers' filled_part : List ℕ} {a from' : ℕ} → ws' ≡ after ws of_part → a ≡ answer ws of_part → answers' ≡ set answers call a
      → filled_part ≡ list_after part (outcome ws of_part) → from' ≡ from + words_filled (kind_of (as_call 0 made)) a
      → Going every ws₀ answers₀ list₀ ws' answers' (take from list ++ (filled_part ++ drop (length list - from) (drop from list))) others (call + 1) from'
  goes_on {ws'} {answers'} {filled_part} {a} {from'} w e s l f =
      let e' : a ≡ answer ws as_made = e ∙ ap (answer ws) part_is in
      let w' : ws' ≡ after ws as_made = w ∙ ap (after ws) part_is in
      let l' : filled_part ≡ list_after rest (outcome ws as_made) = l ∙ ap₂ (λ (k : List ℕ) (x : Call). list_after k (outcome ws x)) is_rest part_is in
      let from_is : from' ≡ next_from = f ∙ ap (λ (k : ℕ). from + words_filled (kind_of (as_call 0 made)) k) e' ∙ ap (λ (k : ℕ). from + k) fills in
      let whole : take from list ++ (filled_part ++ drop (length list - from) (drop from list)) ≡ next_list =
      laid_there (ap (λ (k : List ℕ). take from list ++ k) (ap (λ (k : List ℕ). filled_part ++ k) none_behind ∙ append-nil filled_part ∙ l')) in
      let answers_are : answers' ≡ set answers call (answer ws as_made) = s ∙ ap (set answers call) e' in
      rw (w', answers_are, whole, from_is) going_next

  -- and with the place from which the code lends the list
  abbrev lent : ℕ → List ℕ
  lent start = take (length list - start) (drop start list)

  abbrev lent_call : ℕ → Call
  lent_call start = as_call (length (lent start) / 13) made

  pub goes_on_from : (start : ℕ) {ws' answers' filled_part : List ℕ} {a from' : ℕ} → ws' ≡ after ws (lent_call start) → a ≡ answer ws (lent_call start)
      → answers' ≡ set answers call a → filled_part ≡ list_after (lent start) (outcome ws (lent_call start))
      → from' ≡ from + words_filled (kind_of (as_call 0 made)) a → start ≡ from
      → Going every ws₀ answers₀ list₀ ws' answers' (take start list ++ (filled_part ++ drop (length list - start) (drop start list))) others (call + 1) from'
  goes_on_from start w e s l f is =
      rw is (goes_on (w ∙ ap (λ (k : ℕ). after ws (lent_call k)) is) (e ∙ ap (λ (k : ℕ). answer ws (lent_call k)) is) s
      (l ∙ ap (λ (k : ℕ). list_after (lent k) (outcome ws (lent_call k))) is) f)

-- ---- the end

-- no call is left, so all are made
pub all_made : {every : List Call} {ws answers list ws' answers' list' : List ℕ} {left : List Call} {call from : ℕ}
    → Going every ws answers list ws' answers' list' left call from → left ≡ [] → length every ≤ length answers
    → MadeAll ws answers list every ws' answers' list'
unfolding run given row_answers row_records with_records
all_made {every} {ws} {answers} {list} {ws'} {answers'} {list'} {left} {call} {from} g none_left n =
    let a = answers_many (decode ws) (given (decode ws) list every) in
    let b = as_many (decode ws) list every in
    let c = records_within (decode ws) list every in
    record {
      words = sym (ap (λ (l : List Call). run ws' (given (decode ws') (drop from list') l)) none_left) ∙ g.words;
      each =
          sym (lay_none call answers')
          ∙ sym (ap (λ (l : List Call). (lay (row_answers (decode ws') (given (decode ws') (drop from list') l))).run call answers') none_left)
          ∙ g.each ∙ lay_front _ answers (omega arith);
      records =
          sym (lay_none from list')
          ∙ sym (ap (λ (l : List Call). (lay (row_records (decode ws') (given (decode ws') (drop from list') l))).run from list') none_left)
          ∙ g.records ∙ lay_front _ list (omega arith);
    }
