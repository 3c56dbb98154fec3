-- What a row comes to: refused where the words spell no state, its script is bad or has more calls than there are answers, and
-- then nothing changes; else its calls are made.
use Prim.Native.Nat.{ℕ, ◌+◌, ◌*◌, ◌%◌, ◌^◌, ◌≤◌, ◌<◌}
use mathlib.Core.Path.{◌≡◌, refl, sym, ap, ◌∙◌, subst}
use mathlib.Core.Bool.{true, false}
use mathlib.Core.List.{List, []}
use mathlib.Core.Option.{Option, none, some}
use native.Mathlib.Omega.{arith}
use lib.ListN.{length}
use borrow.Author.Tests.{le-leb, lt-leb}
use Rattle.std.proofs.Common.{Ok, Err}
use Rattle.refusal.specs.declared.Refusal.{Refusal}
use Rattle.refusal.specs.declared.Refusal.TheVariants.{NoCall}
use Rattle.rules.specs.Table.{is_some, or_else, all}
use Rattle.rules.specs.Calls.{Call, fits}
use Rattle.layout.specs.Layout.{decode, spells}
use Rattle.layout.specs.Calls.{run, with_records}
use Rattle.trace.specs.Calls.{NO_CALL}
use Rattle.row.specs.Script.{script_calls}
use Rattle.row.specs.Row.{ANSWERS_SHORT, Row, given, row_answers, row_records, row_within, row_of, row, row_answer, row_calls, RowLeft}
use Rattle.row.specs.Row.Row.{refused_row, made_row}
use Rattle.row.proofs.Demand.{script_fits}
use Rattle.row_script.specs.Counted.{counted}
use Rattle.row_calls.specs.Rows.{MadeAll}

-- ---- what was counted

-- a script has so many calls
pub record HasCalls (script : List ℕ) (n : ℕ) : Type 0 where
  pub calls : List Call
  pub are : script_calls script ≡ some calls
  pub many : n ≡ length calls

-- where they were counted
pub has_calls : (script : List ℕ) (n : ℕ) → Ok n ≡ counted 0 (script_calls script) → HasCalls script n
unfolding counted
has_calls script n e = go (script_calls script) refl e
  where
    go : (o : Option (List Call)) → script_calls script ≡ o → Ok n ≡ counted 0 o → HasCalls script n
    go none q f = absurd (let z : ◌≡◌ {A = ℕ} 0 1 = cc in omega arith)
    go (some calls) q f =
        let m : n ≡ 0 + length calls = cc in
        record { calls = calls; are = q; many = omega arith }

-- they are so many
pub row_many : (script : List ℕ) (n : ℕ) → HasCalls script n → n ≡ length (or_else (script_calls script) [])
unfolding or_else
row_many script n c = c.many ∙ ap length (sym (ap (λ (o : Option (List Call)). or_else o []) c.are))

-- so its calls can be gone through
pub has_form : (script : List ℕ) (n : ℕ) → HasCalls script n → is_some (script_calls script) ≡ true
unfolding is_some
has_form script n c = rw c.are

-- it is bad
pub has_none : (script : List ℕ) {e : Refusal} → Err e ≡ counted 0 (script_calls script) → (script_calls script ≡ none) × (e ≡ NoCall)
unfolding counted
has_none script {e} is = go (script_calls script) is
  where
    go : (o : Option (List Call)) → Err e ≡ counted 0 o → (o ≡ none) × (e ≡ NoCall)
    go none f = (refl, cc)
    go (some calls) f = absurd (let z : ◌≡◌ {A = ℕ} 0 1 = cc in omega arith)

-- the calls of any script have their widths
pub calls_fit : (script : List ℕ) → all fits (or_else (script_calls script) []) ≡ true
unfolding or_else all
calls_fit script = go (script_calls script) refl
  where
    go : (o : Option (List Call)) → script_calls script ≡ o → all fits (or_else o []) ≡ true
    go none q = refl
    go (some calls) q = script_fits script calls q

-- ---- the row

module _ (ws script answers list : List ℕ) where
  -- what a row that comes to something leaves, where its calls leave it
  leaves : (c : Row) {r : ℕ} {ws' answers' list' : List ℕ} → row ws script answers ≡ c → r ≡ row_answer c
      → MadeAll ws answers list (row_calls c) ws' answers' list' → RowLeft ws script answers list r ws' answers' list'
  leaves c {r} {ws'} {answers'} {list'} e a m =
      record {
        answer = a ∙ ap row_answer (sym e);
        words = subst (λ (k : Row). ws' ≡ run ws (given (decode ws) list (row_calls k))) (sym e) m.words;
        each = subst (λ (k : Row). answers' ≡ with_records answers (row_answers (decode ws) (given (decode ws) list (row_calls k)))) (sym e) m.each;
        records = subst (λ (k : Row). list' ≡ with_records list (row_records (decode ws) (given (decode ws) list (row_calls k)))) (sym e) m.records;
      }

  -- a refused one leaves all as it was
  nothing_made : (number value : ℕ) → MadeAll ws answers list (row_calls (refused_row number value)) ws answers list
  unfolding row_calls given run row_answers row_records with_records
  nothing_made number value = record { words = refl; each = refl; records = refl }

  -- the words spell no state
  pub row_unspelt : spells ws ≡ false → RowLeft ws script answers list 1 ws answers list
  unfolding row row_answer
  row_unspelt h = leaves (refused_row 1 0) (rw h) refl (nothing_made 1 0)

  module _ (h : spells ws ≡ true) where
    -- its script is bad
    pub row_bad : script_calls script ≡ none → RowLeft ws script answers list NO_CALL ws answers list
    unfolding row row_of row_answer
    row_bad e = leaves (refused_row NO_CALL 0) (rw (h, e)) refl (nothing_made NO_CALL 0)

    -- it has more calls than there are answers
    pub row_short : (n : ℕ) → HasCalls script n → length answers < n → RowLeft ws script answers list (n % 2 ^ 56 * 256 + ANSWERS_SHORT) ws answers list
    unfolding row row_of row_within row_answer
    row_short n c s =
        let m = c.many in
        leaves (refused_row ANSWERS_SHORT (length c.calls)) (rw (h, c.are, lt-leb (length c.calls) (length answers) (omega arith)))
        (ap (λ (k : ℕ). k % 2 ^ 56 * 256 + ANSWERS_SHORT) m) (nothing_made ANSWERS_SHORT (length c.calls))

    -- and was made
    pub row_made : (n : ℕ) → HasCalls script n → n ≤ length answers → {ws' answers' list' : List ℕ}
        → MadeAll ws answers list (or_else (script_calls script) []) ws' answers' list' → RowLeft ws script answers list (n % 2 ^ 56 * 256) ws' answers' list'
    unfolding row row_of row_within row_answer row_calls or_else
    row_made n c s {ws'} {answers'} {list'} made =
        let m = c.many in
        leaves (made_row c.calls) (rw (h, c.are, le-leb (length c.calls) (length answers) (omega arith))) (ap (λ (k : ℕ). k % 2 ^ 56 * 256) m)
        (subst (λ (o : Option (List Call)). MadeAll ws answers list (or_else o []) ws' answers' list') c.are made)
