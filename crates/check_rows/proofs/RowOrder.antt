-- Rows in the order of their two words: what the order's test says, and what rows that ascend tell of two words that are
-- looked for among them.
use mathlib.Core.Path.{◌≡◌, refl, sym, ap, ap₂, subst}
use mathlib.Core.Logic.{◌⊎◌, inl, inr, ⊎_elim}
use mathlib.Core.Bool.{Bool, true, false, not, ◌&&◌, or-false, and-eq-true_iff}
use mathlib.Core.List.{List}
use Prim.Native.Nat.{ℕ, zero, suc, ◌+◌, ◌-◌, ◌*◌, ◌≤◌, ◌<◌}
use native.Mathlib.Nat.{not-suc-le-zero}
use native.Mathlib.Numerals.{add-one}
use native.Mathlib.Omega.{arith}
use lib.Dec.{eqb, ltb}
use lib.ListN.{get_or}
use borrow.Author.Tests.{ltb-true, ltb-false, eqb-true, le-ltb, eq-eqb, ne_eqb}
use Rattle.rules.proofs.Says.{Says, says_or, says_and, says_ltb, says_eqb}
use Rattle.rules.proofs.Table.{by_test, never_both}
use Rattle.check_rows.specs.Below.{each_below, some_below}
use Rattle.check_rows.specs.Alike.{Orders}
use Rattle.check_rows.specs.Rows.{row, row_second, two_among, same_word, same_two, twos_distinct, pair_above, above_row, two_ascends, twos_ascend, above_last}
use Rattle.check_rows.proofs.Below.{each_at, each_given, each_turn, some_none}

-- ---- the order

-- what its test says
says_above : (a b c d : ℕ) → Says (pair_above a b c d) ((c < a) ⊎ ((a ≡ c) × (d < b)))
unfolding pair_above
says_above a b c d = says_or _ _ (says_ltb c a) (says_and _ _ (says_eqb a c) (says_ltb d b))

-- the test where the first words are the same
pub above_second : (a b c d : ℕ) → a ≡ c → ltb d b ≡ pair_above a b c d
unfolding pair_above
above_second a b c d e = rw (le-ltb c a (omega arith), eq-eqb a c e)

-- and where they differ
pub above_first : (a b c d : ℕ) → (a ≡ c → ⊥) → ltb c a ≡ pair_above a b c d
unfolding pair_above
above_first a b c d f = rw (ne_eqb a c f) (sym (or-false (ltb c a)))

-- what is above a third is so through the second
above_trans : (a b c d e f : ℕ) → pair_above a b c d ≡ true → pair_above c d e f ≡ true → pair_above a b e f ≡ true
above_trans a b c d e f s t =
    ⊎_elim
    (λ p. ⊎_elim (λ q. (says_above a b e f).given (inl (omega arith))) (λ q. (says_above a b e f).given (inl (omega arith))) ((says_above c d e f).gives t))
    (λ p. ⊎_elim (λ q. (says_above a b e f).given (inl (omega arith))) (λ q. (says_above a b e f).given (inr (omega arith, omega arith))) ((says_above c d e f).gives t))
    ((says_above a b c d).gives s)

-- two words above another two are not the same
above_differ : (a b c d : ℕ) → pair_above a b c d ≡ true → (a ≡ c) × (b ≡ d) → ⊥
above_differ a b c d s e = ⊎_elim (λ p. absurd (omega arith)) (λ p. absurd (omega arith)) ((says_above a b c d).gives s)

-- so a test for the same two fails
unlike : (a b c d : ℕ) → ((a ≡ c) × (b ≡ d) → ⊥) → (eqb a c && eqb b d) ≡ false
unlike a b c d f = by_test (eqb a c) (λ t. rw t (ne_eqb b d (λ e. f (eqb-true a c t, e)))) (λ t. rw t)

-- two words of which neither two are above the other are the same
pub neither_above : (a b c d : ℕ) → pair_above a b c d ≡ false → pair_above c d a b ≡ false → (c ≡ a) × (d ≡ b)
neither_above a b c d s t =
    let p = ltb-false c a (not_true' (ltb c a) (λ u. never_both (pair_above a b c d) ((says_above a b c d).given (inl (ltb-true c a u))) s)) in
    let q = ltb-false a c (not_true' (ltb a c) (λ u. never_both (pair_above c d a b) ((says_above c d a b).given (inl (ltb-true a c u))) t)) in
    let e : a ≡ c = omega arith in
    let x = ltb-false d b (not_true' (ltb d b) (λ u. never_both (pair_above a b c d) ((says_above a b c d).given (inr (e, ltb-true d b u))) s)) in
    let y = ltb-false b d (not_true' (ltb b d) (λ u. never_both (pair_above c d a b) ((says_above c d a b).given (inr (sym e, ltb-true b d u))) t)) in
    (sym e, omega arith)
  where
    not_true' : (t : Bool) → (t ≡ true → ⊥) → t ≡ false
    not_true' true f = absurd (f refl)
    not_true' false f = refl

-- ---- rows that ascend

-- row i against the two words of the row before it
pub ascend_turn : (ws : List ℕ) (first w i a b : ℕ) {t : Bool} → 1 ≤ i → a ≡ row ws first w (i - 1) → b ≡ row_second ws first w (i - 1)
    → pair_above (row ws first w i) (row_second ws first w i) a b ≡ t → two_ascends ws first w (i - 1) ≡ t
ascend_turn ws first w i a b h p q r = let e : i - 1 + 1 ≡ i = omega arith in rw (e, ← p, ← q) r

-- rows up to row i, one more than those up to the row before it
pub ascend_next : (ws : List ℕ) (first w i : ℕ) → 1 ≤ i → each_below (two_ascends ws first w) (i - 1) ≡ true → two_ascends ws first w (i - 1) ≡ true
    → each_below (two_ascends ws first w) i ≡ true
ascend_next ws first w i h e t = let s : i - 1 + 1 ≡ i = omega arith in subst (λ (n : ℕ). each_below (two_ascends ws first w) n ≡ true) s (each_turn (two_ascends ws first w) (i - 1) e t)

-- the two words of row 0, as a loop starts with them
pub row_none : (ws : List ℕ) (first w : ℕ) → get_or ws first 0 ≡ row ws first w (1 - 1)
row_none ws first w = let e : first ≡ first + (1 - 1) * w = omega arith in ap (λ (n : ℕ). get_or ws n 0) e

pub second_none : (ws : List ℕ) (first w : ℕ) → get_or ws (first + 1) 0 ≡ row_second ws first w (1 - 1)
second_none ws first w = let e : first + 1 ≡ first + (1 - 1) * w + 1 = omega arith in ap (λ (n : ℕ). get_or ws n 0) e

module _ (ws : List ℕ) (first w n : ℕ) (ascend : twos_ascend ws first w n ≡ true) where
  -- each row is above all before it
  ascend_pairs : (j k : ℕ) → j < k → k < n → above_row ws first w (row ws first w k) (row_second ws first w k) j ≡ true
  unfolding twos_ascend
  ascend_pairs j zero h l = absurd (not-suc-le-zero h)
  ascend_pairs j (suc k) h l =
      let s : above_row ws first w (row ws first w (suc k)) (row_second ws first w (suc k)) k ≡ true = rw (add-one k) at (each_at (two_ascends ws first w) (n - 1) k ascend (omega arith)) in
      by_test (ltb j k)
      (λ t. above_trans (row ws first w (suc k)) (row_second ws first w (suc k)) (row ws first w k) (row_second ws first w k) (row ws first w j) (row_second ws first w j)
      s (ascend_pairs j k (ltb-true j k t) (omega arith)))
      (λ t. let g = ltb-false j k t in let e : j ≡ k = omega arith in rw e s)

  -- so no two are the same
  pub ascend_distinct : twos_distinct ws first w n ≡ true
  unfolding twos_distinct
  ascend_distinct =
      each_given (λ j. not (some_below (same_two ws first w j) j)) n
      (λ j l. ap not
      (some_none (same_two ws first w j) j
      (λ i k. unlike (row ws first w j) (row_second ws first w j) (row ws first w i) (row_second ws first w i)
      (above_differ (row ws first w j) (row_second ws first w j) (row ws first w i) (row_second ws first w i) (ascend_pairs i j k l)))))

  module _ (a b : ℕ) where
    -- two words above a row are above all before it
    pub search_low : (m : ℕ) → m < n → above_row ws first w a b m ≡ true → (j : ℕ) → j < m + 1 → above_row ws first w a b j ≡ true
    search_low m l s j h =
        by_test (ltb j m)
        (λ t. above_trans a b (row ws first w m) (row_second ws first w m) (row ws first w j) (row_second ws first w j) s (ascend_pairs j m (ltb-true j m t) l))
        (λ t. let g = ltb-false j m t in let e : m ≡ j = omega arith in rw e at s)

    -- a row above two words has only such behind it
    pub search_high : (m : ℕ) → pair_above (row ws first w m) (row_second ws first w m) a b ≡ true
        → (j : ℕ) → m ≤ j → j < n → pair_above (row ws first w j) (row_second ws first w j) a b ≡ true
    search_high m s j h l =
        by_test (ltb m j)
        (λ t. above_trans (row ws first w j) (row_second ws first w j) (row ws first w m) (row_second ws first w m) a b (ascend_pairs m j (ltb-true m j t) l) s)
        (λ t. let g = ltb-false m j t in let e : m ≡ j = omega arith in rw e at s)

-- two words above some rows, while the others are above them, start none
pub search_none : (ws : List ℕ) (first w n a b low high : ℕ) → high ≤ low → ((j : ℕ) → j < low → above_row ws first w a b j ≡ true)
    → ((j : ℕ) → high ≤ j → j < n → pair_above (row ws first w j) (row_second ws first w j) a b ≡ true) → two_among ws first w n a b ≡ false
unfolding two_among
search_none ws first w n a b low high h below over =
    some_none (λ j. eqb a (row ws first w j) && eqb b (row_second ws first w j)) n
    (λ j l.
    let x : ℕ = row ws first w j in
    let y : ℕ = row_second ws first w j in
    by_test (ltb j low) (λ t. unlike a b x y (above_differ a b x y (below j (ltb-true j low t))))
    (λ t. let g = ltb-false j low t in unlike a b x y (λ e. above_differ x y a b (over j (omega arith) l) (sym e.0, sym e.1))))

-- nor do two words above the last of rows that ascend
pub last_none : (ws : List ℕ) (first w n a b : ℕ) → twos_ascend ws first w n ≡ true → above_last ws first w n a b ≡ true → two_among ws first w n a b ≡ false
unfolding above_last
last_none ws first w n a b ascend s =
    let t = (and-eq-true_iff (ltb 0 n) (above_row ws first w a b (n - 1))).0 s in
    let p = ltb-true 0 n t.0 in
    let e : n - 1 + 1 ≡ n = omega arith in
    search_none ws first w n a b n n (omega arith)
    (λ j h. search_low ws first w n ascend a b (n - 1) (omega arith) t.1 j (omega arith))
    (λ j h l. absurd (omega arith))

-- where the first of rows that ascend is above the last of others that ascend, none of them is among those
pub none_shared : (ws : List ℕ) (first w n others v m : ℕ) → twos_ascend ws first w n ≡ true → twos_ascend ws others v m ≡ true
    → above_last ws others v m (row ws first w 0) (row_second ws first w 0) ≡ true
    → (j : ℕ) → j < n → two_among ws others v m (row ws first w j) (row_second ws first w j) ≡ false
unfolding above_last
none_shared ws first w n others v m up down s j l =
    let t = (and-eq-true_iff (ltb 0 m) (above_row ws others v (row ws first w 0) (row_second ws first w 0) (m - 1))).0 s in
    let over : above_row ws others v (row ws first w j) (row_second ws first w j) (m - 1) ≡ true =
    by_test (ltb 0 j)
    (λ u. above_trans (row ws first w j) (row_second ws first w j) (row ws first w 0) (row_second ws first w 0) (row ws others v (m - 1)) (row_second ws others v (m - 1))
    (ascend_pairs ws first w n up 0 j (ltb-true 0 j u) l) t.1)
    (λ u. let g = ltb-false 0 j u in let e : j ≡ 0 = omega arith in rw e t.1) in
    last_none ws others v m (row ws first w j) (row_second ws first w j) down (rw (t.0, over))

-- ---- the order tells rows apart

-- by one word
pub word_order : (ws : List ℕ) (first w : ℕ) → Orders (same_word ws first w) (λ i j. ltb (row ws first w j) (row ws first w i))
word_order ws first w =
    record {
      never = λ i. le-ltb (row ws first w i) (row ws first w i) (omega arith);
      through = λ i j k s t.
          let p = ltb-true (row ws first w j) (row ws first w i) s in
          let q = ltb-true (row ws first w k) (row ws first w j) t in
          (says_ltb (row ws first w k) (row ws first w i)).given (omega arith);
      equal = λ i j k s. ap (ltb (row ws first w k)) (eqb-true (row ws first w i) (row ws first w j) s);
    }

-- by two
pub pair_order : (ws : List ℕ) (first w : ℕ) → Orders (same_two ws first w) (λ i. above_row ws first w (row ws first w i) (row_second ws first w i))
pair_order ws first w =
    record {
      never = λ i.
          by_test (above_row ws first w (row ws first w i) (row_second ws first w i) i)
          (λ t. absurd (above_differ (row ws first w i) (row_second ws first w i) (row ws first w i) (row_second ws first w i) t (refl, refl)))
          (λ t. t);
      through = λ i j k.
          above_trans (row ws first w i) (row_second ws first w i) (row ws first w j) (row_second ws first w j) (row ws first w k) (row_second ws first w k);
      equal = λ i j k s.
          let t = (and-eq-true_iff (eqb (row ws first w i) (row ws first w j)) (eqb (row_second ws first w i) (row_second ws first w j))).0 s in
          ap₂ (λ (a b : ℕ). above_row ws first w a b k) (eqb-true (row ws first w i) (row ws first w j) t.0)
          (eqb-true (row_second ws first w i) (row_second ws first w j) t.1);
    }
