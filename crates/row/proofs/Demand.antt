-- Demand 3 of rows: a row is calls that the exports can be given, one after the other, and its script, answers and list tell a
-- book what these calls tell it; so a row keeps that words are told of by a book.
use Prim.Native.Nat.{ℕ, ◌+◌, ◌*◌, ◌%◌, ◌^◌, ◌≤◌}
use mathlib.Core.Path.{◌≡◌, refl, sym, ap, ap₂, ◌∙◌, subst}
use mathlib.Core.Bool.{Bool, true, false, cond}
use mathlib.Core.List.{List, [], ◌∷◌, ◌++◌, map}
use mathlib.Core.Option.{Option, none, some, bind}
use native.Mathlib.Omega.{arith}
use lib.Dec.{eqb, leb}
use lib.ListN.{length, drop}
use borrow.Author.Tests.{ltb-true, ne_eqb}
use Rattle.words.proofs.Check.{and_left, and_right}
use Rattle.rules.specs.Table.{all, or_else}
use Rattle.rules.specs.Valid.{is_word}
use Rattle.rules.specs.Calls.{Call, fits, number_in}
use Rattle.rules.specs.Book.{Book}
use Rattle.rules.proofs.Table.{all_append}
use Rattle.layout.specs.Layout.{decode, spells}
use Rattle.layout.specs.Calls.{with_records}
use Rattle.layout.specs.Demand.{Lent, can_be_given, WordsReached, at_opening, after_calls, never_replaces, WordsAccounted, Demand3Words}
use Rattle.layout.proofs.Calls.{open_spells}
use Rattle.layout.proofs.Demand.{calls_spell, after_append, never_append, demand_3_words}
use Rattle.trace.specs.Format.{Record, records_by}
use Rattle.trace.proofs.Calls.{IfCall, call_fits}
use Rattle.row.specs.Script.{in_words, script_call, all_there, script_calls}
use Rattle.trace.specs.Calls.{NO_CALL}
use Rattle.row.specs.Row.{ANSWERS_SHORT, given, row_answers, row_records, row_within, row_of, row, row_answer, row_calls}
use Rattle.row.specs.Row.Row.{refused_row, made_row}
use Rattle.row.specs.Demand.{calls_told, enter_calls, enter_row, none_replaced, row_replaces_none, TellsOf, OpenedTold, RowsKeep, ToldAccounted}
use Rattle.row.specs.Demand.{LentRow, is_slice, answered_by, after_row, after_rows, replaces_none_on, rows_replace_none, Demand3Rows}
use Rattle.row.proofs.Script.{joined, all_joined}
use Rattle.row.proofs.Book.{lent, lent_given, lent_words, row_told, row_replaced}

-- ---- the calls of a script

-- each that is there fits, so all do
all_fit : (l : List (Option Record)) (calls : List Call) → all_there (map (λ (r : Option Record). bind r script_call) l) ≡ some calls → all fits calls ≡ true
unfolding all_there bind all joined IfCall script_call
all_fit [] calls e = subst (λ (l : List Call). all fits l ≡ true) (let p : [] ≡ calls = cc in p) refl
all_fit (none ∷ l) calls e = absurd (let z : ◌≡◌ {A = ℕ} 0 1 = cc in omega arith)
all_fit (some r ∷ l) calls e =
    go (script_call r) (call_fits 0 r.kind r.words) (all_there (map (λ (q : Option Record). bind q script_call) l)) refl (λ rest. all_fit l rest)
    (sym (all_joined (script_call r) (map (λ (q : Option Record). bind q script_call) l)) ∙ e)
  where
    go : (o : Option Call) → IfCall (λ x. fits x ≡ true) o → (t : Option (List Call)) → all_there (map (λ (q : Option Record). bind q script_call) l) ≡ t
        → ((rest : List Call) → all_there (map (λ (q : Option Record). bind q script_call) l) ≡ some rest → all fits rest ≡ true)
        → joined o t ≡ some calls → all fits calls ≡ true
    go none h t q more j = absurd (let z : ◌≡◌ {A = ℕ} 0 1 = cc in omega arith)
    go (some x) h none q more j = absurd (let z : ◌≡◌ {A = ℕ} 0 1 = cc in omega arith)
    go (some x) h (some rest) q more j =
        subst (λ (l : List Call). all fits l ≡ true) (let p : x ∷ rest ≡ calls = cc in p) (rw h (more rest q))

-- the calls of a script fit
pub script_fits : (script : List ℕ) (calls : List Call) → script_calls script ≡ some calls → all fits calls ≡ true
unfolding script_calls
script_fits script calls e = all_fit (records_by in_words script) calls e

-- ---- the calls of a row

-- an answer of a row tells whether it was done
number_made : (calls : List Call) → eqb (number_in (row_answer (made_row calls))) 0 ≡ true
unfolding number_in row_answer
number_made calls = let m : ℕ = length calls % 2 ^ 56 in let z : m * 256 % 256 ≡ 0 = omega arith in rw z

-- or refused
number_refused : (number value : ℕ) → 1 ≤ number → number ≤ 255 → eqb (number_in (row_answer (refused_row number value))) 0 ≡ false
unfolding number_in row_answer
number_refused number value low high =
    let m : ℕ = value % 2 ^ 56 in
    let z : (m * 256 + number) % 256 ≡ number = omega arith in
    rw z (ne_eqb number 0 (λ e. omega (arith, e)))

module _ (ws script answers : List ℕ) where
  -- those that its answer and its script tell
  pub told_calls : spells ws ≡ true → calls_told (row_answer (row ws script answers)) script ≡ row_calls (row ws script answers)
  unfolding row calls_told row_of row_within row_calls or_else
  told_calls h = rw h (go (script_calls script))
    where
      within : (calls : List Call) (t : Bool)
          → cond (eqb (number_in (row_answer (cond t (made_row calls) (refused_row ANSWERS_SHORT (length calls))))) 0) calls []
          ≡ row_calls (cond t (made_row calls) (refused_row ANSWERS_SHORT (length calls)))
      within calls true = rw (number_made calls)
      within calls false = rw (number_refused ANSWERS_SHORT (length calls) (omega arith) (omega arith))

      go : (o : Option (List Call)) → cond (eqb (number_in (row_answer (row_of (length answers) o))) 0) (or_else o []) [] ≡ row_calls (row_of (length answers) o)
      go none = rw (number_refused NO_CALL 0 (omega arith) (omega arith))
      go (some calls) = within calls (leb (length calls) (length answers))

  -- they fit
  pub row_fits : spells ws ≡ true → all fits (row_calls (row ws script answers)) ≡ true
  unfolding row row_of row_within row_calls all
  row_fits h = rw h (go (script_calls script) refl)
    where
      within : (calls : List Call) (t : Bool) → all fits calls ≡ true → all fits (row_calls (cond t (made_row calls) (refused_row ANSWERS_SHORT (length calls)))) ≡ true
      within calls true f = f
      within calls false f = refl

      go : (o : Option (List Call)) → script_calls script ≡ o → all fits (row_calls (row_of (length answers) o)) ≡ true
      go none e = refl
      go (some calls) e = within calls (leb (length calls) (length answers)) (script_fits script calls e)

-- ---- words that a book tells of

-- at the opening
pub opened_told : OpenedTold
unfolding OpenedTold all never_replaces after_calls
opened_told ws e noop low high long =
    record {
      before = ws;
      entries = e;
      low = low;
      high = high;
      long = long;
      calls = [];
      could = refl;
      replaces_none = refl;
      reached = refl;
    }

-- they spell a state
pub told_spells : (noop : ℕ) (r : WordsReached) → TellsOf noop r → spells r.words ≡ true
unfolding at_opening
told_spells noop r t =
    ap (λ (z : WordsReached). spells z.words) t.reached
    ∙ calls_spell t.calls (at_opening t.before t.entries noop) (open_spells t.before t.entries 0 noop t.low t.high t.long) t.could

-- in which everything is accounted for
pub told_accounted : ToldAccounted
unfolding ToldAccounted Demand3Words
told_accounted noop r t =
    subst WordsAccounted (sym t.reached)
    (demand_3_words t.before t.entries noop t.calls t.low t.high t.long t.could t.replaces_none)

-- after calls more
told_more : (noop : ℕ) (r : WordsReached) (more : List Lent) → TellsOf noop r → all can_be_given more ≡ true → never_replaces noop r more ≡ true
    → TellsOf noop (after_calls r more)
told_more noop r more t g n =
    let r0 : WordsReached = at_opening t.before t.entries noop in
    record {
      before = t.before;
      entries = t.entries;
      low = t.low;
      high = t.high;
      long = t.long;
      calls = t.calls ++ more;
      could = all_append can_be_given t.calls more t.could g;
      replaces_none =
          never_append noop t.calls more r0 t.replaces_none (subst (λ (z : WordsReached). never_replaces noop z more ≡ true) t.reached n);
      reached = ap (λ (z : WordsReached). after_calls z more) t.reached ∙ sym (after_append t.calls more r0);
    }

-- a row keeps it
pub rows_keep : RowsKeep
unfolding RowsKeep enter_row row_replaces_none with_records
rows_keep noop b ws script answers list r ws' answers' list' left small t n =
    let z : WordsReached = record { words = ws; book = b } in
    let h = told_spells noop z t in
    let calls : List Call = row_calls (row ws script answers) in
    let f : all fits calls ≡ true = row_fits ws script answers h in
    let told : calls_told r script ≡ calls = ap (λ (a : ℕ). calls_told a script) left.answer ∙ told_calls ws script answers h in
    let s = decode ws in
    let u = drop (length (row_answers s (given s list calls))) answers in
    let v = drop (length (row_records s (given s list calls))) list in
    let book : enter_calls b (calls_told r script) answers' list' ≡ (after_calls z (lent s list calls)).book =
    ap (λ (l : List Call). enter_calls b l answers' list') told
    ∙ ap₂ (λ (x y : List ℕ). enter_calls b calls x y) left.each left.records
    ∙ row_told calls z list s refl h small f u v in
    let never : never_replaces noop z (lent s list calls) ≡ true =
    sym (row_replaced noop calls z list s refl h small f u v)
    ∙ ap₂ (λ (x y : List ℕ). none_replaced noop b calls x y) (sym left.each) (sym left.records)
    ∙ ap (λ (l : List Call). none_replaced noop b l answers' list') (sym told) ∙ n in
    subst (TellsOf noop)
    (ap₂ (λ (w : List ℕ) (k : Book). record { words = w; book = k }) (lent_words z s list calls ∙ sym left.words) (sym book))
    (told_more noop z (lent s list calls) t (lent_given s list calls small f) never)

-- any number of rows do
rows_told : (noop : ℕ) (rows : List LentRow) (r : WordsReached) → TellsOf noop r → all is_slice rows ≡ true → rows_replace_none noop r rows ≡ true
    → TellsOf noop (after_rows r rows)
unfolding RowsKeep after_rows after_row rows_replace_none replaces_none_on answered_by all is_slice is_word
rows_told noop [] r t h n = t
rows_told noop (c ∷ rows) r t h n =
    rows_told noop rows (after_row r c)
    (rows_keep noop r.book r.words c.script c.answers c.list _ _ _ _ (record { answer = refl; words = refl; each = refl; records = refl })
    (ltb-true (length c.list) (2 ^ 64) (and_left (is_slice c) (all is_slice rows) h)) t (and_left (replaces_none_on noop r c) (rows_replace_none noop (after_row r c) rows) n))
    (and_right (is_slice c) (all is_slice rows) h) (and_right (replaces_none_on noop r c) (rows_replace_none noop (after_row r c) rows) n)

-- demand 3 of rows
pub demand_3_rows : Demand3Rows
unfolding Demand3Rows ToldAccounted OpenedTold
demand_3_rows ws e noop rows low high long h n =
    told_accounted noop (after_rows (at_opening ws e noop) rows) (rows_told noop rows (at_opening ws e noop) (opened_told ws e noop low high long) h n)
