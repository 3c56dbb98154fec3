-- Positions that carry a stamp.
use Rattle.std.specs.Prelude.{ℕ, ◌<◌, Bool, List, eqb, get_or}

-- whether a position carries a stamp
unfoldable pub stamped : List ℕ → ℕ → ℕ → Bool
stamped stamps stamp p = eqb (get_or stamps p 0) stamp

-- every stamp is below a number
abbrev pub Under : List ℕ → ℕ → Type 0
Under stamps b = (p : ℕ) → get_or stamps p 0 < b
