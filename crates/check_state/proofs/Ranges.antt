-- Numbers in their ranges, as the code tests them: next in a ring, and what a passed head says of the cursor.
use mathlib.Core.Path.{◌≡◌}
use mathlib.Core.Bool.{Bool, true, ◌&&◌, and-eq-true_iff}
use mathlib.Core.List.{List}
use Prim.Native.Nat.{ℕ, ◌+◌, ◌≤◌}
use native.Mathlib.Omega.{arith}
use lib.Dec.{eqb, leb, ltb}
use lib.ListN.{get_or}
use borrow.Author.Tests.{le-ltb, leb-true, ne_eqb}
use Rattle.rules.specs.Permits.{least_total, most_total}
use Rattle.rules.specs.Valid.{is_byte}
use Rattle.rules.proofs.Table.{by_test}
use Rattle.check_state.specs.Dispatchers.{head_right, next_right}

-- ---- next in a ring

-- an empty one
pub next_empty : (next n : ℕ) → n ≡ 0 → eqb next 0 ≡ next_right next n
unfolding next_right
next_empty next n e = rw (e, le-ltb next 0 (omega arith))

-- one with ids
pub next_slot : (next n : ℕ) → (n ≡ 0 → ⊥) → ltb next n ≡ next_right next n
unfolding next_right
next_slot next n f = rw (ne_eqb n 0 f) (by_test (ltb next n) (λ t. rw t) (λ t. rw t))

-- ---- a head that passed

-- the tests after the first pass where all do
later : (a : Bool) {b : Bool} → (a && b) ≡ true → b ≡ true
later a {b} e = ((and-eq-true_iff a b).0 e).1

-- its cursor is not past the entries
pub head_cursor : (ws : List ℕ) (at n : ℕ) → head_right ws at n ≡ true → get_or ws (at + 3) 0 ≤ n
unfolding head_right
head_cursor ws at n e =
    leb-true (get_or ws (at + 3) 0) n
    ((and-eq-true_iff (leb (get_or ws (at + 3) 0) n) (leb (get_or ws (at + 4) 0) n)).0 (later (leb (get_or ws (at + 5) 0) most_total)
    (later (leb least_total (get_or ws (at + 5) 0)) (later (is_byte (get_or ws (at + 1) 0)) (later (is_byte (get_or ws at 0)) e))))).0
