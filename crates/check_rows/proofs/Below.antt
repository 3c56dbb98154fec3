-- Tests of each or of some number below a bound: the steps of a loop that tests one number after another, and how such tests
-- go together. `Says` ties them to propositions.
use mathlib.Core.Path.{◌≡◌, refl, sym, ap, ap₂, ◌∙◌}
use mathlib.Core.Bool.{Bool, true, false, not, ◌&&◌, ◌||◌, and_assoc, or_assoc, and-true, or-false, and-eq-true_iff}
use Prim.Native.Nat.{ℕ, zero, suc, ◌+◌, ◌≤◌, ◌<◌}
use native.Mathlib.Nat.{not-suc-le-zero, add-zero, add-suc}
use native.Mathlib.Numerals.{add-one}
use native.Mathlib.Omega.{arith}
use lib.Dec.{ltb}
use Rattle.std.proofs.Common.{Some, None, is_some}
use borrow.Author.Tests.{ltb-true, ltb-false, not-true, not-false}
use Rattle.rules.proofs.Says.{Says}
use Rattle.rules.proofs.Table.{by_test, never_both}
use Rattle.store.proofs.Prefixes.{and_swap}
use Rattle.check_rows.specs.Below.{each_below, some_below, first_below}

-- ---- what a call that answered true, or false, says of the test that must fail

-- it answered true, so the negation fails
pub refuted : {r t : Bool} → r ≡ t → r ≡ true → not t ≡ false
refuted e h = ap not (sym e ∙ h)

-- it answered false, so the negation passes
pub upheld : {r t : Bool} → r ≡ t → r ≡ false → not t ≡ true
upheld e h = ap not (sym e ∙ h)

-- ---- one number after another

module _ (q : ℕ → Bool) where
  -- one number more
  pub each_next : (i : ℕ) → each_below q (i + 1) ≡ (each_below q i && q i)
  unfolding each_below
  each_next i = rw (add-one i)

  -- for some number
  pub some_next : (i : ℕ) → some_below q (i + 1) ≡ (some_below q i || q i)
  unfolding some_below
  some_next i = rw (add-one i)

  -- what each number below n passes, one of them passes
  pub each_at : (n i : ℕ) → each_below q n ≡ true → i < n → q i ≡ true
  unfolding each_below
  each_at zero i e h = absurd (not-suc-le-zero h)
  each_at (suc n) i e h =
      let t = (and-eq-true_iff (each_below q n) (q n)).0 e in
      by_test (ltb i n) (λ s. each_at n i t.0 (ltb-true i n s))
      (λ s. let k = ltb-false i n s in let l : n ≡ i = omega arith in rw l at t.1)

  -- what each number below n passes, all pass
  pub each_given : (n : ℕ) → ((i : ℕ) → i < n → q i ≡ true) → each_below q n ≡ true
  unfolding each_below
  each_given zero f = refl
  each_given (suc n) f = rw (each_given n (λ i h. f i (omega arith)), f n (omega arith))

  -- the next number passes
  pub each_turn : (i : ℕ) → each_below q i ≡ true → q i ≡ true → each_below q (i + 1) ≡ true
  each_turn i e t = each_next i ∙ rw (e, t)

  -- a number below n fails
  pub each_stop : (n i : ℕ) → i < n → q i ≡ false → false ≡ each_below q n
  each_stop n i h f =
      by_test (each_below q n) (λ t. never_both (q i) (each_at n i t h) f) sym

  -- the numbers below n fail where fewer do
  pub each_less : (n i : ℕ) → i ≤ n → each_below q i ≡ false → each_below q n ≡ false
  each_less n i h f =
      by_test (each_below q n) (λ t. never_both (each_below q i) (each_given i (λ j l. each_at n j t (omega arith))) f) (λ t. t)

  -- all have passed
  pub each_end : (n i : ℕ) → i ≤ n → n ≤ i → each_below q i ≡ true → true ≡ each_below q n
  each_end n i h k e = let s : i ≡ n = omega arith in sym (rw s at e)

-- some number passes exactly where not each fails
pub some_not : (q : ℕ → Bool) (n : ℕ) → not (some_below q n) ≡ each_below (λ i. not (q i)) n
unfolding some_below each_below
some_not q zero = refl
some_not q (suc n) = rw (← some_not q n) (by_test (some_below q n) (λ t. rw t) (λ t. rw t))

-- ---- tests that go together

-- a number below n passes, so some does
pub some_found : (q : ℕ → Bool) (n i : ℕ) → i < n → q i ≡ true → some_below q n ≡ true
some_found q n i h t =
    not-false (some_below q n) (some_not q n ∙ sym (each_stop (λ j. not (q j)) n i h (rw t)))

-- none of the numbers below n passes
pub some_none : (q : ℕ → Bool) (n : ℕ) → ((i : ℕ) → i < n → q i ≡ false) → some_below q n ≡ false
some_none q n f =
    not-true (some_below q n) (some_not q n ∙ each_given (λ j. not (q j)) n (λ i h. rw (f i h)))

-- tests that agree below n
pub each_same : (q r : ℕ → Bool) (n : ℕ) → ((i : ℕ) → i < n → q i ≡ r i) → each_below q n ≡ each_below r n
unfolding each_below
each_same q r zero f = refl
each_same q r (suc n) f = ap₂ ◌&&◌ (each_same q r n (λ i h. f i (omega arith))) (f n (omega arith))

-- for some number
pub some_same : (q r : ℕ → Bool) (n : ℕ) → ((i : ℕ) → i < n → q i ≡ r i) → some_below q n ≡ some_below r n
unfolding some_below
some_same q r zero f = refl
some_same q r (suc n) f = ap₂ ◌||◌ (some_same q r n (λ i h. f i (omega arith))) (f n (omega arith))

-- a test says of each number what it says of one
pub says_each : {q : ℕ → Bool} {P : ℕ → Type 0} → ((i : ℕ) → Says (q i) (P i)) → (n : ℕ) → Says (each_below q n) ((i : ℕ) → i < n → P i)
says_each {q} s n =
    record {
      gives = λ e i h. (s i).gives (each_at q n i e h);
      given = λ f. each_given q n (λ i h. (s i).given (f i h));
    }

-- two tests of each number
pub each_both : (q r : ℕ → Bool) (n : ℕ) → each_below (λ i. q i && r i) n ≡ (each_below q n && each_below r n)
unfolding each_below
each_both q r zero = refl
each_both q r (suc n) = rw (each_both q r n) (and_swap (each_below q n) (each_below r n) (q n) (r n))

-- the numbers below m, and those from m on
pub each_add : (q : ℕ → Bool) (m n : ℕ) → each_below q (m + n) ≡ (each_below q m && each_below (λ i. q (m + i)) n)
unfolding each_below
each_add q m zero = rw (add-zero m) (sym (and-true (each_below q m)))
each_add q m (suc n) = rw (add-suc m n, each_add q m n) (and_assoc (each_below q m) (each_below (λ i. q (m + i)) n) (q (m + n)))

-- for some number
pub some_add : (q : ℕ → Bool) (m n : ℕ) → some_below q (m + n) ≡ (some_below q m || some_below (λ i. q (m + i)) n)
unfolding some_below
some_add q m zero = rw (add-zero m) (sym (or-false (some_below q m)))
some_add q m (suc n) = rw (add-suc m n, some_add q m n) (or_assoc (some_below q m) (some_below (λ i. q (m + i)) n) (q (m + n)))

-- the number 0, and those past it
pub each_first : (q : ℕ → Bool) (n : ℕ) → each_below q (suc n) ≡ (q 0 && each_below (λ i. q (suc i)) n)
unfolding each_below
each_first q zero = sym (and-true (q 0))
each_first q (suc n) = ap (λ (b : Bool). b && q (suc n)) (each_first q n) ∙ and_assoc (q 0) (each_below (λ i. q (suc i)) n) (q (suc n))

-- for some number
pub some_first : (q : ℕ → Bool) (n : ℕ) → some_below q (suc n) ≡ (q 0 || some_below (λ i. q (suc i)) n)
unfolding some_below
some_first q zero = sym (or-false (q 0))
some_first q (suc n) = ap (λ (b : Bool). b || q (suc n)) (some_first q n) ∙ or_assoc (q 0) (some_below (λ i. q (suc i)) n) (q (suc n))

-- ---- the first number that passes

module _ (q : ℕ → Bool) where
  -- there is one where some number passes
  pub first_some : (n : ℕ) → is_some (first_below q n) ≡ some_below q n
  unfolding first_below some_below
  first_some zero = refl
  first_some (suc n) =
      by_test (some_below q n) (λ t. rw t (first_some n ∙ t))
      (λ t. rw t (by_test (q n) (λ u. rw u) (λ u. rw u)))

  -- it is below the bound
  pub first_less : (n i : ℕ) → first_below q n ≡ Some i → i < n
  unfolding first_below
  first_less zero i e = absurd (cc)
  first_less (suc n) i e =
      by_test (some_below q n) (λ t. let l = first_less n i (rw t at e) in omega arith)
      (λ t. by_test (q n) (λ u. let k : n ≡ i = cc (rw (t, u) at e) in omega arith) (λ u. absurd (cc (rw (t, u) at e))))

  -- a number passes, and none before it
  pub first_found : (n i : ℕ) → i < n → some_below q i ≡ false → q i ≡ true → Some i ≡ first_below q n
  unfolding first_below
  first_found zero i h e t = absurd (not-suc-le-zero h)
  first_found (suc n) i h e t =
      by_test (ltb i n)
      (λ u. let l = ltb-true i n u in rw (some_found q n i l t) (first_found n i l e t))
      (λ u. let l = ltb-false i n u in let s : i ≡ n = omega arith in rw (← s, e, t))

  -- none passes
  pub first_none : (n : ℕ) → some_below q n ≡ false → None ≡ first_below q n
  unfolding first_below some_below
  first_none zero e = refl
  first_none (suc n) e =
      by_test (some_below q n) (λ t. never_both (some_below q n || q n) (rw t) e)
      (λ t. by_test (q n) (λ u. never_both (some_below q n || q n) (rw (t, u)) e) (λ u. rw (t, u)))
