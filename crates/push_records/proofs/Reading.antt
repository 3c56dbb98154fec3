-- The flat words of dispatches, read as records, are the dispatches' own records.
use mathlib.Core.Path.{◌≡◌, refl, ap, ◌∙◌}
use mathlib.Core.List.{List, [], ◌∷◌, ◌++◌, map, append_assoc}
use Prim.Native.Nat.{ℕ, zero, suc, ◌+◌, ◌*◌}
use native.Mathlib.Omega.{arith}
use lib.ListN.{length, drop}
use lib.Seq.{get_or-append-add}
use Rattle.rules.specs.Outcome.{Dispatch, Outcome}
use Rattle.rules.specs.Outcome.Outcome.{refused, short, done}
use Rattle.rules.specs.Push.{flat, flat_records}
use Rattle.rules.specs.Book.{records_of}
use Rattle.layout.specs.Calls.{with_records, made_words, list_after}
use Rattle.record.specs.Flat.{word_of, record_at}
use Rattle.record.specs.declared.Dispatch as declared
use Rattle.push_records.specs.Listed.{records_in, record_for, dispatched}

module _ (x : Dispatch) (ws : List ℕ) where
  -- the first record
  read_first : record_at (flat x ++ ws) 0 ≡ record_for x
  unfolding record_at record_for flat
  read_first = refl

  -- a word of a later record
  later_word : (i j : ℕ) → word_of (flat x ++ ws) (suc i) j ≡ word_of ws i j
  unfolding flat
  later_word i j =
      let there : suc i * 13 + j ≡ 13 + (i * 13 + j) = omega arith in
      rw there (get_or-append-add (flat x) ws (i * 13 + j) 0)

  -- a later record
  read_later : (i : ℕ) → record_at (flat x ++ ws) (suc i) ≡ record_at ws i
  unfolding record_at
  read_later i =
      rw (
        later_word i 0,
        later_word i 1,
        later_word i 2,
        later_word i 3,
        later_word i 4,
        later_word i 5,
        later_word i 6,
        later_word i 7,
        later_word i 8,
        later_word i 9,
        later_word i 10,
        later_word i 11,
        later_word i 12,
      )

  -- the first record and so many more
  read_more : (n : ℕ) → records_in (flat x ++ ws) (suc n) ≡ record_for x ∷ records_in ws n
  unfolding records_in
  read_more zero = ap (λ (y : declared.Dispatch). y ∷ []) read_first
  read_more (suc n) =
      ap (λ (l : List declared.Dispatch). l ++ record_at (flat x ++ ws) (suc n) ∷ []) (read_more n)
      ∙ ap (λ (y : declared.Dispatch). record_for x ∷ (records_in ws n ++ y ∷ [])) (read_later n)

-- the words of some dispatches, whatever follows
read_all : (l : List Dispatch) (ws : List ℕ) → records_in (flat_records l ++ ws) (length l) ≡ map record_for l
unfolding flat_records records_in
read_all [] ws = refl
read_all (x ∷ l) ws =
    ap (λ (z : List ℕ). records_in z (suc (length l))) (append_assoc (flat x) (flat_records l) ws)
    ∙ read_more x (flat_records l ++ ws) (length l)
    ∙ ap (λ (z : List declared.Dispatch). record_for x ∷ z) (read_all l ws)

-- what a push left in its flat list: its own dispatches
pub read_made : (list : List ℕ) (o : Outcome) → records_in (list_after list o) (length (dispatched o)) ≡ map record_for (dispatched o)
unfolding made_words list_after dispatched with_records records_in
read_made list (refused n) = refl
read_made list (short n) = refl
read_made list (done v s) = read_all (records_of v) (drop (length (flat_records (records_of v))) list)
