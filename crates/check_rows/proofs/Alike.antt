-- A loop that keeps the greatest number so far: a number above it is alike to none before, others are compared.
use mathlib.Core.Path.{◌≡◌, sym, ◌∙◌}
use mathlib.Core.Bool.{Bool, true, false}
use Prim.Native.Nat.{ℕ, ◌+◌, ◌<◌}
use native.Mathlib.Omega.{arith}
use lib.Dec.{ltb}
use borrow.Author.Tests.{ltb-true, ltb-false}
use Rattle.rules.proofs.Table.{by_test, never_both}
use Rattle.check_rows.specs.Alike.{Orders}
use Rattle.check_rows.specs.Below.{some_below}
use Rattle.check_rows.proofs.Below.{some_none}

module _ (same over : ℕ → ℕ → Bool) (o : Orders same over) (i g : ℕ) (most : (j : ℕ) → j < i → over j g ≡ false) where
  -- a number above the greatest is alike to none before it
  pub fresh : over i g ≡ true → some_below (same i) i ≡ false
  fresh s =
      some_none (same i) i
      (λ j l. by_test (same i j) (λ t. never_both (over j g) (sym (o.equal i j g t) ∙ s) (most j l)) (λ t. t))

  -- and is the greatest from then on
  pub raised : over i g ≡ true → (j : ℕ) → j < i + 1 → over j i ≡ false
  raised s j h =
      by_test (over j i)
      (λ t.
      by_test (ltb j i)
      (λ u. never_both (over j g) (o.through j i g t s) (most j (ltb-true j i u)))
      (λ u. let k = ltb-false j i u in let e : j ≡ i = omega arith in never_both (over i i) (rw e at t) (o.never i)))
      (λ t. t)

  -- one that is not leaves the greatest as it is
  pub kept : over i g ≡ false → (j : ℕ) → j < i + 1 → over j g ≡ false
  kept s j h =
      by_test (ltb j i) (λ t. most j (ltb-true j i t)) (λ t. let k = ltb-false j i t in let e : j ≡ i = omega arith in rw e s)
