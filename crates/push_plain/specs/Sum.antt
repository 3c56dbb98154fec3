-- Numbers added up.
use Rattle.std.specs.Prelude.{◌≡◌, ℕ, zero, suc, ◌+◌}

-- a sum of n numbers, each of which P tells by its place
unfoldable pub AddedUp : (ℕ → ℕ → Type 0) → ℕ → ℕ → Type 0
AddedUp P zero s = s ≡ 0
AddedUp P (suc n) s = (t : ℕ) × (r : ℕ) × AddedUp P n t × P n r × (s ≡ t + r)
