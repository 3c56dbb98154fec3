-- What `any`, `all` and `find` over a range of numbers answer, where the closure tests a number and nothing else.
use mathlib.Core.Path.{◌≡◌, refl, sym, ap, ◌∙◌}
use mathlib.Core.Bool.{Bool, true, false}
use mathlib.Core.List.{List}
use Prim.Native.Nat.{ℕ, ◌+◌, ◌-◌, ◌≤◌, ◌<◌}
use native.Mathlib.Omega.{arith}
use lib.ListN.{length}
use denote.Ref.{Bor}
use denote.Param.Members.{Mut}
use Rattle.std.proofs.Common.{Option, Some, None, MatchOption}
use Rattle.std.specs.declared.ops.Range.{Range}
use Rattle.std.specs.Iterator.{YieldsThen}
use Rattle.std.specs.List.{FoldsTo, range_with_len, HoldsAt, AllWithin}
use Rattle.std.specs.Fn.{Called, CalledAt}
use Rattle.std.specs.Bool.{MatchBool, ⊤}
use Rattle.std.proofs.iter.Yields.{nat_range_steps}
use Rattle.std.proofs.lemmas.Iterator.{YieldsList-from_range, cases_from_any, cases_from_all, first_from_Range}
use Rattle.std.proofs.lemmas.List.FromFn.{length-range_with_len, get_or-range_with_len}
use Rattle.check_rows.specs.Below.{each_below, some_below, first_below}
use Rattle.check_rows.proofs.Below.{each_given, each_stop, some_found, some_none, some_same, each_same, first_found, first_none}

-- a test of the numbers from a on, by their places among them
module _ (q : ℕ → Bool) (a n : ℕ) (t : Bool) where
  -- one of them answers so
  here : (k : ℕ) × (k < length (range_with_len a n)) × HoldsAt (λ x. q x ≡ t) (range_with_len a n) k → (k : ℕ) × (k < n) × (q (a + k) ≡ t)
  here h =
      let l : h.0 < n = rw (length-range_with_len a n) at h.1 in
      (h.0, l, rw (get_or-range_with_len a n h.0 0 l) at (h.2 0))

  -- each of them does
  each : AllWithin (λ x. q x ≡ t) (range_with_len a n) 0 (length (range_with_len a n)) → (k : ℕ) → k < n → q (a + k) ≡ t
  each f k l = rw (get_or-range_with_len a n k 0 l) at (f k 0 (omega arith) (rw (length-range_with_len a n) l))

module _ {F : Type 0} {g : Mut F (ℕ × Unit {0}) Bool} (q : ℕ → Bool) (s u : Range ℕ) (f : F) (r : Bool)
    (tells : (x : ℕ) (t : Bool) (p : F) → Called g f (x, tt) t p → (p ≡ f) × (q x ≡ t)) where
  -- `any`
  pub any_ran : (xs : List ℕ) × (o : Option ℕ) × (j : F) × YieldsThen nat_range_steps s xs o u × FoldsTo (λ p x q. Called g p (x, tt) false q) f xs j
      × MatchOption o (r ≡ false) (λ x. (r ≡ true) × ((h : F) × Called g j (x, tt) true h)) → r ≡ some_below (λ k. q (s.start + k)) (s.end - s.start)
  any_ran ran =
      go r
      (cases_from_any u f r (λ x. q x ≡ true) (λ x. q x ≡ false) ran (YieldsList-from_range s.start s.end (s.end - s.start) refl refl)
      (λ x p h. (tells x true p h).1) (λ x p h. tells x false p h))
    where
      go : (b : Bool)
          → MatchBool b
          ((k : ℕ) × (k < length (range_with_len s.start (s.end - s.start))) × HoldsAt (λ x. q x ≡ true) (range_with_len s.start (s.end - s.start)) k)
          (AllWithin (λ x. q x ≡ false) (range_with_len s.start (s.end - s.start)) 0 (length (range_with_len s.start (s.end - s.start))))
          → b ≡ some_below (λ k. q (s.start + k)) (s.end - s.start)
      go true h =
          let w = here q s.start (s.end - s.start) true h in
          sym (some_found (λ k. q (s.start + k)) (s.end - s.start) w.0 w.1 w.2)
      go false h = sym (some_none (λ k. q (s.start + k)) (s.end - s.start) (each q s.start (s.end - s.start) false h))

  -- `all`
  pub all_ran : (xs : List ℕ) × (o : Option ℕ) × (j : F) × YieldsThen nat_range_steps s xs o u × FoldsTo (λ p x q. Called g p (x, tt) true q) f xs j
      × MatchOption o (r ≡ true) (λ x. (r ≡ false) × ((h : F) × Called g j (x, tt) false h)) → r ≡ each_below (λ k. q (s.start + k)) (s.end - s.start)
  all_ran ran =
      go r
      (cases_from_all u f r (λ x. q x ≡ true) (λ x. q x ≡ false) ran (YieldsList-from_range s.start s.end (s.end - s.start) refl refl)
      (λ x p h. tells x true p h) (λ x p h. (tells x false p h).1))
    where
      go : (b : Bool)
          → MatchBool b (AllWithin (λ x. q x ≡ true) (range_with_len s.start (s.end - s.start)) 0 (length (range_with_len s.start (s.end - s.start))))
          ((k : ℕ) × (k < length (range_with_len s.start (s.end - s.start))) × HoldsAt (λ x. q x ≡ false) (range_with_len s.start (s.end - s.start)) k)
          → b ≡ each_below (λ k. q (s.start + k)) (s.end - s.start)
      go true h = sym (each_given (λ k. q (s.start + k)) (s.end - s.start) (each q s.start (s.end - s.start) true h))
      go false h =
          let w = here q s.start (s.end - s.start) false h in
          each_stop (λ k. q (s.start + k)) (s.end - s.start) w.0 w.1 w.2

-- `find`, over the numbers below n
pub find_ran : {F : Type 0} {g : Mut F (Bor ℕ × Unit {0}) Bool} (q : ℕ → Bool) (n : ℕ) (u : Range ℕ) (f : F) (r : Option ℕ)
    → ((x : ℕ) (t : Bool) (p : F) → CalledAt g f x t p → (p ≡ f) × (q x ≡ t))
    → (xs : List ℕ) × (j : F) × YieldsThen nat_range_steps (record { start = 0; end = n }) xs r u
    × FoldsTo (λ p x q. CalledAt g p x false q) f xs j × MatchOption r ⊤ (λ x. (h : F) × CalledAt g j x true h) → r ≡ first_below q n
find_ran q n u f r tells ran =
    go r
    (first_from_Range (record { start = 0; end = n }) u f r (λ x. q x ≡ true) (λ x. q x ≡ false) ran
    (λ x p h. (tells x true p h).1) (λ x p h. tells x false p h))
  where
    go : (o : Option ℕ)
        → MatchOption o ((k : ℕ) → 0 ≤ k → k < n → q k ≡ false) (λ i. (0 ≤ i) × (i < n) × (q i ≡ true) × ((k : ℕ) → 0 ≤ k → k < i → q k ≡ false))
        → o ≡ first_below q n
    go None h = first_none q n (some_none q n (λ k l. h k (omega arith) l))
    go (Some i) h = first_found q n i h.1 (some_none q i (λ k l. h.3 k (omega arith) l)) h.2

module _ {F : Type 0} {g : Mut F (ℕ × Unit {0}) Bool} (q : ℕ → Bool) (n : ℕ) (u : Range ℕ) (f : F) (r : Bool)
    (tells : (x : ℕ) (t : Bool) (p : F) → Called g f (x, tt) t p → (p ≡ f) × (q x ≡ t)) where
  -- `any`, over the numbers below n
  pub any_below : (xs : List ℕ) × (o : Option ℕ) × (j : F) × YieldsThen nat_range_steps (record { start = 0; end = n }) xs o u
      × FoldsTo (λ p x q. Called g p (x, tt) false q) f xs j
      × MatchOption o (r ≡ false) (λ x. (r ≡ true) × ((h : F) × Called g j (x, tt) true h)) → r ≡ some_below q n
  any_below ran =
      let z : n - 0 ≡ n = omega arith in
      rw z at (any_ran q (record { start = 0; end = n }) u f r tells ran) ∙ some_same (λ k. q (0 + k)) q n (λ k l. let e : 0 + k ≡ k = omega arith in ap q e)

  -- `all`
  pub all_below : (xs : List ℕ) × (o : Option ℕ) × (j : F) × YieldsThen nat_range_steps (record { start = 0; end = n }) xs o u
      × FoldsTo (λ p x q. Called g p (x, tt) true q) f xs j
      × MatchOption o (r ≡ true) (λ x. (r ≡ false) × ((h : F) × Called g j (x, tt) false h)) → r ≡ each_below q n
  all_below ran =
      let z : n - 0 ≡ n = omega arith in
      rw z at (all_ran q (record { start = 0; end = n }) u f r tells ran) ∙ each_same (λ k. q (0 + k)) q n (λ k l. let e : 0 + k ≡ k = omega arith in ap q e)
