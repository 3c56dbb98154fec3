-- Rows of words that spell a list: the tests of rows are the rules' tests of the list.
use mathlib.Core.Path.{◌≡◌, refl, sym, ap, ◌∙◌}
use mathlib.Core.Bool.{Bool, not, ◌&&◌}
use mathlib.Core.List.{List, [], ◌∷◌}
use Prim.Native.Nat.{ℕ, ◌≤◌, ◌<◌}
use native.Mathlib.Omega.{arith}
use lib.Dec.{eqb, eqb-suc-zero}
use lib.ListN.{length, get_or}
use Rattle.rules.specs.Table.{distinct, member, is_empty}
use Rattle.rules.proofs.Table.{Decides, decides_numbers}
use Rattle.check_rows.specs.Below.{some_below}
use Rattle.check_rows.specs.Rows.{row, row_second, among, same_word, rows_distinct, two_among, same_two, twos_distinct}
use Rattle.check_rows.proofs.Below.{each_same, some_same}
use Rattle.check_rows.proofs.Elements.{any_some, distinct_each}

-- whether a list is empty, by its length
pub empty_length : {A : Type 0} (l : List A) → is_empty l ≡ eqb (length l) 0
unfolding is_empty
empty_length [] = refl
empty_length (a ∷ l) = sym (eqb-suc-zero (length l))

-- a word by another name of its place
pub by_place : (ws : List ℕ) {i j v : ℕ} → i ≡ j → get_or ws j 0 ≡ v → get_or ws i 0 ≡ v
by_place ws p r = ap (λ (n : ℕ). get_or ws n 0) p ∙ r

-- ---- rows known by one word

-- the first words of rows are a list
abbrev pub Spell : List ℕ → ℕ → ℕ → List ℕ → Type 0
Spell ws first w l = (j : ℕ) → j < length l → row ws first w j ≡ get_or l j 0

module _ (ws : List ℕ) (first w : ℕ) (l : List ℕ) (spell : Spell ws first w l) where
  -- a number among the rows before one
  pub among_before : (n a : ℕ) → n ≤ length l → among ws first w n a ≡ some_below (λ i. eqb a (get_or l i 0)) n
  unfolding among
  among_before n a h = some_same (λ j. eqb a (row ws first w j)) (λ j. eqb a (get_or l j 0)) n (λ j k. ap (eqb a) (spell j (omega arith)))

  -- among all of them
  pub among_list : (a : ℕ) → among ws first w (length l) a ≡ member a l
  unfolding member
  among_list a = among_before (length l) a (omega arith) ∙ sym (any_some (eqb a) l 0)

  -- all distinct
  pub distinct_list : rows_distinct ws first w (length l) ≡ distinct eqb l
  unfolding rows_distinct among
  distinct_list =
      each_same (λ j. not (some_below (same_word ws first w j) j)) (λ j. not (some_below (λ i. eqb (get_or l j 0) (get_or l i 0)) j)) (length l)
      (λ j h. ap not (among_before j (row ws first w j) (omega arith) ∙ ap (λ (a : ℕ). some_below (λ i. eqb a (get_or l i 0)) j) (spell j h)))
      ∙ sym (distinct_each decides_numbers l 0)

-- ---- rows known by two words

module _ {A : Type 0} (same : A → A → Bool) (tells : Decides same) (f g : A → ℕ) (by_two : (a b : A) → same a b ≡ (eqb (f a) (f b) && eqb (g a) (g b)))
    (ws : List ℕ) (first w : ℕ) (l : List A) (d : A)
    (spell : (j : ℕ) → j < length l → (row ws first w j ≡ f (get_or l j d)) × (row_second ws first w j ≡ g (get_or l j d))) where
  -- two numbers among the rows before one
  pub two_before : (n : ℕ) (a : A) → n ≤ length l → two_among ws first w n (f a) (g a) ≡ some_below (λ i. same a (get_or l i d)) n
  unfolding two_among
  two_before n a h =
      some_same (λ j. eqb (f a) (row ws first w j) && eqb (g a) (row_second ws first w j)) (λ j. same a (get_or l j d)) n
      (λ j k. let s = spell j (omega arith) in rw (s.0, s.1) (sym (by_two a (get_or l j d))))

  -- all distinct
  pub twos_list : twos_distinct ws first w (length l) ≡ distinct same l
  unfolding twos_distinct
  twos_list =
      each_same (λ j. not (some_below (same_two ws first w j) j)) (λ j. not (some_below (λ i. same (get_or l j d) (get_or l i d)) j)) (length l)
      (λ j h. ap not
      (some_same (same_two ws first w j) (λ i. same (get_or l j d) (get_or l i d)) j
      (λ i k. let s = spell j h in let q = spell i (omega arith) in rw (s.0, s.1, q.0, q.1) (sym (by_two (get_or l j d) (get_or l i d))))))
      ∙ sym (distinct_each tells l d)
