-- Permits in excess form and the integers that they stand for.
use Prim.Native.Nat.{ℕ, suc, ◌+◌, ◌-◌, ◌≤◌, ◌<◌}
use mathlib.Core.Path.{◌≡◌, refl, sym, ap, ◌∙◌}
use mathlib.Core.Logic.{◌↔◌}
use mathlib.Core.Bool.{true}
use native.Mathlib.Omega.{arith}
use lib.Dec.{ltb}
use lib.IntN.{ℤ, sub_ℕ, ◌+ℤ◌, ◌-ℤ◌, +ℤ-neg_ℤ_cancel, pos-ne-negsuc}
use lib.IntN.ℤ.{pos, negsuc}
use borrow.Author.Tests.{ltb-true, ltb-false, lt-ltb, le-ltb}
use Rattle.rules.specs.Permits.{zero_permits, reading, above_zero, less}
use Rattle.rules.proofs.Table.{by_test}

-- two differences of natural numbers are one integer where the sums across are equal
pub difference : (a b c d : ℕ) → a + d ≡ c + b → sub_ℕ a b ≡ sub_ℕ c d
difference a b c d e =
    by_test (ltb a b)
    (λ t.
    let h : a < b = ltb-true a b t in
    let g : c < d = omega arith in
    let f : b - suc a ≡ d - suc c = omega arith in
    rw (t, lt-ltb c d g) (ap negsuc f))
    (λ t.
    let h : b ≤ a = ltb-false a b t in
    let g : d ≤ c = omega arith in
    let f : a - b ≡ c - d = omega arith in
    rw (t, le-ltb c d g) (ap pos f))

-- a difference with more added
pub difference_add : (a b n : ℕ) → sub_ℕ (a + n) b ≡ sub_ℕ a b +ℤ pos n
difference_add a b n =
    by_test (ltb a b)
    (λ t. let h : a < b = ltb-true a b t in rw t (difference (a + n) b n (suc (b - suc a)) (omega arith)))
    (λ t.
    let h : b ≤ a = ltb-false a b t in
    let f : a + n - b ≡ a - b + n = omega arith in
    rw (t, le-ltb (a + n) b (omega arith)) (ap pos f))

-- a difference with some taken away
pub difference_sub : (a b n : ℕ) → n ≤ a → sub_ℕ (a - n) b ≡ sub_ℕ a b -ℤ pos n
difference_sub a b n h =
    let e : a - n + n ≡ a = omega arith in
    sym (+ℤ-neg_ℤ_cancel (sub_ℕ (a - n) b) (pos n))
    ∙ ap (λ (x : ℤ). x -ℤ pos n) (sym (difference_add (a - n) b n) ∙ ap (λ (x : ℕ). sub_ℕ x b) e)

-- two differences from one number add up
pub difference_sum : (a b c z : ℕ) → a + b ≡ c + z → sub_ℕ a z +ℤ sub_ℕ b z ≡ sub_ℕ c z
difference_sum a b c z e =
    by_test (ltb a z)
    (λ t. let h : a < z = ltb-true a z t in by_test (ltb b z)
    (λ u.
    let g : b < z = ltb-true b z u in
    let f : suc (z - suc a + (z - suc b)) ≡ z - suc c = omega arith in
    rw (t, u, lt-ltb c z (omega arith)) (ap negsuc f))
    (λ u. let g : z ≤ b = ltb-false b z u in rw (t, u) (difference (b - z) (suc (z - suc a)) c z (omega arith))))
    (λ t. let h : z ≤ a = ltb-false a z t in by_test (ltb b z)
    (λ u. let g : b < z = ltb-true b z u in rw (t, u) (difference (a - z) (suc (z - suc b)) c z (omega arith)))
    (λ u.
    let g : z ≤ b = ltb-false b z u in
    let f : a - z + (b - z) ≡ c - z = omega arith in
    rw (t, u, le-ltb c z (omega arith)) (ap pos f)))

-- no permits are 0
pub reading_zero : reading zero_permits ≡ pos 0
unfolding reading
reading_zero = refl

-- permits with more granted
pub reading_add : (p n : ℕ) → reading (p + n) ≡ reading p +ℤ pos n
unfolding reading
reading_add p n = difference_add p zero_permits n

-- permits with a cost taken away, as far as the form reaches
pub reading_sub : (p n : ℕ) → n ≤ p → reading (p - n) ≡ reading p -ℤ pos n
unfolding reading
reading_sub p n h = difference_sub p zero_permits n h

-- permits are above 0 exactly where the integer is
pub above_zero_reading : (p : ℕ) → (above_zero p ≡ true) ↔ ((n : ℕ) × (reading p ≡ pos (suc n)))
unfolding above_zero reading
above_zero_reading p = (
  (λ h.
      let l : zero_permits < p = ltb-true zero_permits p h in
      let e : p - zero_permits ≡ suc (p - suc zero_permits) = omega arith in
      (p - suc zero_permits, rw (le-ltb p zero_permits (omega arith)) (ap pos e))),
  (λ h. by_test (ltb zero_permits p) (λ t. t) (λ t.
      let l : p ≤ zero_permits = ltb-false zero_permits p t in
      by_test (ltb p zero_permits)
      (λ u. let f : negsuc (zero_permits - suc p) ≡ pos (suc h.0) = rw u at h.1 in absurd (pos-ne-negsuc (suc h.0)
      (zero_permits - suc p) (sym f)))
      (λ u.
      let f : pos (p - zero_permits) ≡ pos (suc h.0) = rw u at h.1 in
      let g : p - zero_permits ≡ suc h.0 = cc in
      absurd (omega arith)))),
)

-- permits above 0, as an order
pub above_zero_lt : (p : ℕ) → above_zero p ≡ true → zero_permits < p
unfolding above_zero
above_zero_lt p h = ltb-true zero_permits p h

-- a total less some permits, as far as the form reaches
pub reading_less : (total p : ℕ) → p ≤ total + zero_permits → reading (less total p) ≡ reading total -ℤ reading p
unfolding reading less
reading_less total p h =
    sym (+ℤ-neg_ℤ_cancel (sub_ℕ (total + zero_permits - p) zero_permits) (sub_ℕ p zero_permits))
    ∙ ap (λ (x : ℤ). x -ℤ sub_ℕ p zero_permits) (difference_sum (total + zero_permits - p) p total zero_permits (omega arith))

-- a total that the grants and the costs make is the one less the other
pub reading_balance : (total costs grants : ℕ) → total + costs ≡ grants + zero_permits → reading total ≡ sub_ℕ grants costs
unfolding reading
reading_balance total costs grants e = difference total zero_permits grants costs e
