-- A list of dispatches whose first records are read from flat words and whose later ones are as they were: storing one more
-- record takes it a record further.
use mathlib.Core.Path.{◌≡◌, refl, sym, ◌∙◌, ap}
use mathlib.Core.List.{List, [], ◌∷◌, ◌++◌}
use Prim.Native.Nat.{ℕ, zero, suc, ◌+◌, ◌<◌}
use native.Mathlib.Numerals.{add-one}
use lib.ListN.{length, get_or, drop, set, length-append}
use lib.Seq.{drop-cons, append_snoc, set_at}
use Rattle.record.specs.declared.Dispatch.{Dispatch}
use Rattle.record.specs.Flat.{record_at}
use Rattle.push_records.specs.Listed.{records_in}

module _ (ws : List ℕ) where
  pub length_records : (n : ℕ) → length (records_in ws n) ≡ n
  unfolding records_in
  length_records zero = refl
  length_records (suc n) = length-append (records_in ws n) (record_at ws n ∷ []) ∙ ap (λ (k : ℕ). k + 1) (length_records n) ∙ add-one n

  module _ (xs : List Dispatch) where
    -- the list with i records read
    abbrev pub partway : ℕ → List Dispatch
    partway i = records_in ws i ++ drop i xs

    pub partway_start : xs ≡ partway 0
    unfolding records_in
    partway_start = refl

    pub partway_next : (i : ℕ) → i < length xs → set (partway i) i (record_at ws i) ≡ partway (suc i)
    unfolding records_in
    partway_next i h =
        ap (λ (l : List Dispatch). set (records_in ws i ++ l) i (record_at ws i)) (drop-cons xs i (record_at ws i) h)
        ∙ set_at (records_in ws i) (get_or xs i (record_at ws i)) (drop (suc i) xs) (record_at ws i) i (length_records i)
        ∙ sym (append_snoc (records_in ws i) (record_at ws i) (drop (suc i) xs))
