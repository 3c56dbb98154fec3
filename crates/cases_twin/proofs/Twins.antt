-- The comparison of the two pushes, part by part.
use mathlib.Core.Path.{◌≡◌, ap, ◌∙◌}
use mathlib.Core.Bool.{Bool, true, false}
use mathlib.Core.List.{List, ◌++◌}
use Prim.Native.Nat.{ℕ, ◌≤◌}
use lib.Dec.{eqb}
use lib.ListN.{length, take, drop}
use lib.Seq.{length-take-le}
use Rattle.rules.specs.Calls.Call.{Push}
use Rattle.layout.specs.Calls.{outcome, answer, after, list_after}
use Rattle.record.specs.declared.Dispatch as declared
use Rattle.push_records.specs.Listed.{room as fitting, listed}
use Rattle.cases_line.specs.Words.{same_words}
use Rattle.cases_twin.specs.Twin.{written_back, told, pushed, lent_after, no_dispatches, no_words, as_flat}

module _ (ws store list : List ℕ) (words given : ℕ) where
  abbrev all : Bool
  all = as_flat ws store list words given

  abbrev back : List declared.Dispatch → List ℕ
  back l = written_back l (told given) no_words

  module _ {a : ℕ} (answered : a ≡ answer ws (pushed words)) where
    pub other_answer : eqb a given ≡ false → false ≡ all
    unfolding as_flat
    other_answer e = let g : eqb (answer ws (pushed words)) given ≡ false = rw (← answered) e in rw g

    module _ (e : eqb a given ≡ true) {us : List ℕ} (left : us ≡ after ws (pushed words)) where
      pub other_store : same_words us store ≡ false → false ≡ all
      unfolding as_flat
      other_store f =
          let g : eqb (answer ws (pushed words)) given ≡ true = rw (← answered) e in
          let h : same_words (after ws (pushed words)) store ≡ false = rw (← left) f in
          rw (g, h)

      module _ (f : same_words us store ≡ true) {vs : List ℕ} (lent : vs ≡ lent_after no_words words (outcome ws (pushed words))) where
        pub other_list : same_words vs list ≡ false → false ≡ all
        unfolding as_flat
        other_list h =
            let g : eqb (answer ws (pushed words)) given ≡ true = rw (← answered) e in
            let i : same_words (after ws (pushed words)) store ≡ true = rw (← left) f in
            let j : same_words (lent_after no_words words (outcome ws (pushed words))) list ≡ false = rw (← lent) h in
            rw (g, i, j)

        pub records_decide : same_words vs list ≡ true → {l : List declared.Dispatch} → l ≡ listed (outcome ws (pushed words)) no_dispatches
            → {t : ℕ} → t ≡ told given → {zs : List ℕ} → zs ≡ written_back l t no_words → same_words zs list ≡ all
        unfolding as_flat
        records_decide h {l} made {t} counted {zs} written =
            let g : eqb (answer ws (pushed words)) given ≡ true = rw (← answered) e in
            let i : same_words (after ws (pushed words)) store ≡ true = rw (← left) f in
            let j : same_words (lent_after no_words words (outcome ws (pushed words))) list ≡ true = rw (← lent) h in
            let k : zs ≡ back (listed (outcome ws (pushed words)) no_dispatches) =
            written ∙ ap (λ (n : ℕ). written_back l n no_words) counted ∙ ap back made in
            rw (g, i, j) (ap (λ (z : List ℕ). same_words z list) k)

-- a push over the first words of a flat list
module _ (ws flat : List ℕ) (words : ℕ) (h : words ≤ length flat) where
  abbrev lent : ℕ
  lent = fitting (length (take words flat)) 64

  lent_is : lent ≡ fitting words 64
  lent_is = ap (λ (k : ℕ). fitting k 64) (length-take-le words flat h)

  pub answer_lent : {a : ℕ} → a ≡ answer ws (Push lent) → a ≡ answer ws (pushed words)
  answer_lent e = e ∙ ap (λ (k : ℕ). answer ws (Push k)) lent_is

  pub left_lent : {us : List ℕ} → us ≡ after ws (Push lent) → us ≡ after ws (pushed words)
  left_lent e = e ∙ ap (λ (k : ℕ). after ws (Push k)) lent_is

  pub flat_lent : {vs : List ℕ} → vs ≡ list_after (take words flat) (outcome ws (Push lent)) → vs ++ drop words flat ≡ lent_after flat words (outcome ws (pushed words))
  unfolding lent_after
  flat_lent e =
      ap (λ (l : List ℕ). l ++ drop words flat) (e ∙ ap (λ (k : ℕ). list_after (take words flat) (outcome ws (Push k))) lent_is)

  pub listed_lent : (m : List declared.Dispatch) {l : List declared.Dispatch} → l ≡ listed (outcome ws (Push lent)) m → l ≡ listed (outcome ws (pushed words)) m
  listed_lent m e = e ∙ ap (λ (k : ℕ). listed (outcome ws (Push k)) m) lent_is
