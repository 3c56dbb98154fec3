-- A local array of zeros.
use mathlib.Core.Path.{◌≡◌, sym, subst}
use Prim.Native.Nat.{ℕ, ◌≤◌}
use lib.Dec.{ltb}
use lib.ListN.{get_or, replicate, get_or-replicate, length-replicate, get_or-eq_default}
use borrow.Author.Tests.{ltb-true, ltb-false}
use Rattle.rules.proofs.Table.{by_test}

-- zeros are 0 everywhere
pub zeros : (n p : ℕ) → get_or (replicate {A = ℕ} n 0) p 0 ≡ 0
zeros n p =
    by_test (ltb p n) (λ t. get_or-replicate n p 0 0 (ltb-true p n t))
    (λ t. get_or-eq_default (replicate n 0) 0 (subst (λ (m : ℕ). m ≤ p) (sym (length-replicate {A = ℕ} n 0)) (ltb-false p n t)))
