-- A row one call after the other: its first call is the call that the single export makes, and the rest is a row on the words
-- and the list that this call leaves.
use Prim.Native.Nat.{ℕ, ◌/◌}
use mathlib.Core.Path.{sym, ap₂}
use mathlib.Core.List.{List, ◌∷◌, ◌++◌}
use lib.ListN.{length}
use Rattle.rules.specs.State.{State}
use Rattle.rules.specs.Outcome.{Outcome}
use Rattle.rules.specs.Calls.{answer_word}
use Rattle.layout.specs.Layout.{decode}
use Rattle.layout.specs.Calls.{answer, after, run, made_words}
use Rattle.layout.proofs.Calls.{outcome_is, decode_after}
use Rattle.row.specs.Row.{with_room, left_of, given, row_answers, row_records}
use Rattle.row.specs.Promises.{OneByOne}

-- one call, then the others
pub one_by_one : OneByOne
unfolding OneByOne given row_answers row_records run answer
one_by_one ws list x calls h f =
    let s = decode ws in
    let y = with_room (length list / 13) x in
    let o = outcome_is ws y h in
    let t = decode_after ws y h f in
    record {
      words =
          ap₂ (λ (z : State) (p : Outcome). run (after ws y) (given z (left_of list p) calls)) (sym t) (sym o);
      each =
          ap₂ (λ (p : Outcome) (l : List ℕ). answer_word p ∷ l) (sym o)
          (ap₂ (λ (z : State) (p : Outcome). row_answers z (given z (left_of list p) calls)) (sym t) (sym o));
      records =
          ap₂ (λ (p : Outcome) (l : List ℕ). made_words p ++ l) (sym o)
          (ap₂ (λ (z : State) (p : Outcome). row_records z (given z (left_of list p) calls)) (sym t) (sym o));
    }
