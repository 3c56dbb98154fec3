-- Tests of numbers up to a bound: whether each number below it passes, whether some number does, which does first.
use Rattle.std.specs.Prelude.{ℕ, zero, suc, Bool, true, false, cond, ◌&&◌, ◌||◌, Option, Some, None}

-- whether each number below n passes
unfoldable pub each_below : (ℕ → Bool) → ℕ → Bool
each_below q zero = true
each_below q (suc n) = each_below q n && q n

-- whether some number below n passes
unfoldable pub some_below : (ℕ → Bool) → ℕ → Bool
some_below q zero = false
some_below q (suc n) = some_below q n || q n

-- the first number below n that passes, if one does
unfoldable pub first_below : (ℕ → Bool) → ℕ → Option ℕ
first_below q zero = None
first_below q (suc n) = cond (some_below q n) (first_below q n) (cond (q n) (Some n) None)
