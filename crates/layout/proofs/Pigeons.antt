-- Distinct numbers below n are at most n.
use mathlib.Core.Path.{◌≡◌, refl}
use mathlib.Core.Bool.{Bool, true, false}
use mathlib.Core.List.Memᴰ
use mathlib.Core.List.{List, [], ◌∷◌, Memᴰ}
use mathlib.Core.Logic.{⊎_elim}
use Prim.Native.Nat.{ℕ, zero, suc, ◌≤◌, ◌<◌, zero-le, suc-le-suc}
use native.Mathlib.Nat.{not-suc-le-zero}
use native.Mathlib.Omega.{arith}
use lib.Dec.{eqb}
use lib.ListN.{length}
use borrow.Author.Tests.{eqb-true, eqb-false}
use Rattle.rules.specs.Table.{Every, Distinct}
use Rattle.rules.proofs.Says.{every_cons, every_head}

-- distinct numbers without the number n: at most one fewer, still distinct, and all of them among the old ones
record Without (n : ℕ) (l : List ℕ) : Type 0 where
  rest : List ℕ
  most : length l ≤ suc (length rest)
  apart : Distinct eqb rest
  among : (b : ℕ) → Memᴰ b rest → Memᴰ b l
  other : Every (λ (b : ℕ). eqb n b ≡ false) rest

without : (n : ℕ) (l : List ℕ) → Distinct eqb l → Without n l
unfolding Distinct
without n [] h = record { rest = []; most = zero-le; apart = tt; among = λ b m. m; other = λ b m. absurd (Memᴰ.not-nil m) }
without n (a ∷ l) h = step (eqb n a) refl (without n l h.1)
  where
    step : (t : Bool) → eqb n a ≡ t → Without n l → Without n (a ∷ l)
    step true e w =
        let f : n ≡ a = eqb-true n a e in
        record { rest = l; most = omega arith; apart = h.1; among = λ b m. Memᴰ.tail m; other = rw f h.0 }
    step false e w =
        record {
          rest = a ∷ w.rest;
          most = suc-le-suc w.most;
          apart = (λ b m. h.0 b (w.among b m), w.apart);
          among = λ b m. ⊎_elim Memᴰ.head (λ k. Memᴰ.tail (w.among b k)) (Memᴰ.cases_cons m);
          other = every_cons {P = λ (b : ℕ). eqb n b ≡ false} e w.other;
        }

-- distinct numbers below n are at most n
pub distinct_below : (n : ℕ) (l : List ℕ) → Distinct eqb l → Every (λ (k : ℕ). k < n) l → length l ≤ n
distinct_below zero [] h b = zero-le
distinct_below zero (a ∷ l) h b = absurd (not-suc-le-zero (every_head b))
distinct_below (suc n) l h b =
    let w : Without n l = without n l h in
    let below : Every (λ (k : ℕ). k < n) w.rest =
    λ k m. let lt : k < suc n = b k (w.among k m) in let ne : (n ≡ k → ⊥) = eqb-false n k (w.other k m) in omega arith in
    let ih : length w.rest ≤ n = distinct_below n w.rest w.apart below in
    omega (arith, w.most)
