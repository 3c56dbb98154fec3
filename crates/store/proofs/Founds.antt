-- A row that is found, and none: what a search by numbers comes to, and what it says of the slot.
use mathlib.Core.Path.{◌≡◌, sym, ◌∙◌}
use mathlib.Core.Bool.{Bool, true, false}
use mathlib.Core.List.{List}
use Prim.Native.Nat.{ℕ, zero, suc, ◌+◌, ◌≤◌, ◌<◌}
use native.Mathlib.Numerals.{add-one}
use native.Mathlib.Omega.{arith}
use lib.Dec.{ltb}
use lib.ListN.{length, get_or}
use borrow.Author.Tests.{ltb-true, ltb-false, lt-ltb, le-ltb}
use Rattle.std.specs.Option.{is_some, unwrap_or}
use Rattle.std.specs.declared.option.Option.{Option}
use Rattle.std.specs.declared.option.Option.TheVariants.{None, Some}
use Rattle.rules.specs.Table.{Key, find, is_some as is_there}
use Rattle.rules.proofs.Table.{by_test}
use Rattle.search.specs.First.{First}
use Rattle.store.specs.Find.{slot}
use Rattle.store.specs.Found.{found}
use Rattle.store.proofs.Finding.{Sought, sought_start, sought_here, sought_on, sought_end, slot_found, slot_none, slot_le}

module _ {A K : Type 0} (k : Key A K) (j : K) (l : List A) where
  -- found: the slot is in the table
  pub found_some : {i : ℕ} → Some i ≡ found k j l → (i ≡ slot k j l) × (i < length l)
  unfolding found
  found_some {i} e =
      by_test (ltb (slot k j l) (length l))
      (λ t. let f : Some i ≡ Some (slot k j l) = rw t at e in
      let g : i ≡ slot k j l = cc in (g, rw g (ltb-true (slot k j l) (length l) t)))
      (λ t. let f : Some i ≡ None = rw t at e in absurd cc)

  -- there is no row
  pub found_none : None ≡ found k j l → length l ≤ slot k j l
  unfolding found
  found_none e =
      by_test (ltb (slot k j l) (length l))
      (λ t. let f : None ≡ Some (slot k j l) = rw t at e in absurd cc)
      (λ t. ltb-false (slot k j l) (length l) t)

  -- a slot in the table is found
  pub some_found : (i : ℕ) → i < length l → i ≡ slot k j l → Some i ≡ found k j l
  unfolding found
  some_found i h e = let t : slot k j l < length l = rw e at h in rw (lt-ltb (slot k j l) (length l) t, ← e)

  -- one past the last is not
  pub none_found : length l ≤ slot k j l → None ≡ found k j l
  unfolding found
  none_found h = rw (le-ltb (slot k j l) (length l) h)

  -- whether there is a row
  pub found_is : is_some (found k j l) ≡ ltb (slot k j l) (length l)
  unfolding found
  found_is = by_test (ltb (slot k j l) (length l)) (λ t. rw t) (λ t. rw t)

  -- the slot, or the number of rows where there is none
  pub found_or_count : {r : Option ℕ} {n : ℕ} → r ≡ found k j l → n ≡ length l → unwrap_or r n ≡ slot k j l
  unfolding found
  found_or_count {n = n} e c =
      let b = slot_le k j l in
      by_test (ltb (slot k j l) (length l))
      (λ t. rw (e, t))
      (λ t. let h = ltb-false (slot k j l) (length l) t in rw (e, t) (omega arith))

  module _ (d : A) where
    -- it is there exactly where the first row with the key is
    pub found_find : is_some (found k j l) ≡ is_there (find k j l)
    unfolding is_there
    found_find =
        found_is
        ∙ by_test (ltb (slot k j l) (length l))
        (λ t. rw (t, slot_found k j l d (ltb-true (slot k j l) (length l) t)))
        (λ t. rw (t, slot_none k j l (ltb-false (slot k j l) (length l) t)))

    -- ---- a search by numbers, whose test says what the key does

    -- the rows before one fail
    none_before : (i : ℕ) → i ≤ length l → ((m : ℕ) → m < i → k.same j (k.key (get_or l m d)) ≡ false) → Sought k j l i
    none_before zero h f = sought_start k j l
    none_before (suc i) h f =
        let s = none_before i (omega arith) (λ m q. f m (omega arith)) in
        let t : k.same j (k.key (get_or l i d)) ≡ false = f i (omega arith) in
        let g : Sought k j l (i + 1) = sought_on k j l i d (omega arith) s t in
        rw (← add-one i) g

    pub first_found : {n : ℕ} {Says : ℕ → Bool → Type 0} (r : Option ℕ) → First n Says r → n ≡ length l
        → ((i : ℕ) (b : Bool) → i < length l → Says i b → b ≡ k.same j (k.key (get_or l i d))) → r ≡ found k j l
    first_found None f e s =
        let b : Sought k j l (length l) = none_before (length l) (omega arith) (λ m q. sym (s m false q (f.is m (omega arith)))) in
        let z = sought_end k j l (length l) (omega arith) b in
        none_found (omega arith)
    first_found (Some i) f e s =
        let h : i < length l = let g = f.is.0 in omega arith in
        let b : Sought k j l i = none_before i (omega arith) (λ m q. sym (s m false (omega arith) (f.is.2 m q))) in
        some_found i h (sought_here k j l i d h b (sym (s i true h f.is.1)))
