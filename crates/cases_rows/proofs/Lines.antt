-- A line's row: the answers and the list that are lent are the first words of arrays of zeros, as many as the line says; and each record
-- of the script of a row that is done is a call.
use Rattle.std.specs.Prelude.{cond}
use Prim.Native.Nat.{ℕ, zero, suc, ◌-◌, ◌*◌, ◌≤◌, ◌<◌, min}
use mathlib.Core.Path.{◌≡◌, refl, ap, ap₂, ◌∙◌}
use mathlib.Core.Bool.{Bool, true, false}
use mathlib.Core.List.{List, ◌∷◌}
use mathlib.Core.Option.{Option, none, some}
use native.Mathlib.Omega.{arith}
use lib.ListN.{length, get_or, take, drop, replicate}
use borrow.Author.Tests.{lt-ltb, le-ltb}
use Rattle.std.proofs.lemmas.List.{take_rest}
use Rattle.rules.specs.Table.{is_some}
use Rattle.rules.specs.Calls.{Call, number_in}
use Rattle.layout.specs.Layout.{spells}
use Rattle.row.specs.Script.{script_calls}
use Rattle.row.specs.Row.{words_left, RowLeft, row, row_of, row_answer}
use Rattle.row.specs.Row.Row.{refused_row}
use Rattle.cases_rows.specs.Line.{row_line_after}

-- the first of some zeros are zeros
first_zeros : (k n : ℕ) → k ≤ n → take {A = ℕ} k (replicate n 0) ≡ replicate k 0
first_zeros zero n h = refl
first_zeros (suc k) zero h = absurd (omega arith)
first_zeros (suc k) (suc n) h = ap (λ (l : List ℕ). 0 ∷ l) (first_zeros k n (omega arith))

-- so a row that is lent the first words of such arrays leaves what one leaves that is lent zeros
pub with_zeros : {ws script us answers list : List ℕ} {a room r : ℕ} → (a ≤ 64) × (room ≤ 832)
    → RowLeft ws script (take a (replicate 64 0)) (take room (replicate 832 0)) r us answers list
    → us ≡ words_left ws script (replicate a 0) (replicate room 0)
with_zeros {ws} {script} {a = a} {room = room} h e =
    e.words ∙ ap₂ (λ (answers list : List ℕ). words_left ws script answers list) (first_zeros a 64 h.0) (first_zeros room 832 h.1)

-- each record of the script of a row that is done is a call
pub done_has_calls : {ws script us answers list answers_left list_left : List ℕ} {r n : ℕ}
    → RowLeft ws script answers list r us answers_left list_left → n ≡ number_in r → n ≡ 0 → is_some (script_calls script) ≡ true
unfolding row row_of row_answer number_in is_some
done_has_calls {ws} {script} {answers = answers} {r = r} {n = n} e number done = go (spells ws) (script_calls script) e.answer
  where
    go : (t : Bool) (o : Option (List Call)) → r ≡ row_answer (cond t (row_of (length answers) o) (refused_row 1 0)) → is_some o ≡ true
    go t (some calls) h = refl
    go true none h = absurd (omega (arith, h, number, done))
    go false none h = absurd (omega (arith, h, number, done))

module _ (ws line : List ℕ) where
  -- without the two numbers the words stay
  pub no_row : length line < 3 → ws ≡ row_line_after ws line
  unfolding row_line_after
  no_row h = rw (lt-ltb (length line) 3 h)

  -- with them they are those of the row
  pub a_row : {us : List ℕ} (a records : ℕ) → 3 ≤ length line → a ≡ min (get_or line 1 0) 64 → records ≡ min (get_or line 2 0) 64
      → us ≡ words_left ws (take (length line - 3) (drop 3 line)) (replicate a 0) (replicate (records * 13) 0) → us ≡ row_line_after ws line
  unfolding row_line_after
  a_row {us} a records h p q e =
      rw (le-ltb (length line) 3 h)
      (e
      ∙ ap (λ (l : List ℕ). words_left ws l (replicate a 0) (replicate (records * 13) 0)) (take_rest line 3)
      ∙ ap₂ (λ (k m : ℕ). words_left ws (drop 3 line) (replicate k 0) (replicate (m * 13) 0)) p q)
