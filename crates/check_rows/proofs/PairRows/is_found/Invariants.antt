-- `check_rows::PairRows::is_found` meets its contract. The loop's invariant: the two words are above each row before `low`, and each
-- row from `high` on is above them.
use mathlib.Core.Path.{◌≡◌}
use mathlib.Core.Bool.{true}
use Prim.Native.Nat.{ℕ, ◌-◌, ◌≤◌, ◌<◌}
use Rattle.check_rows.specs.Rows.{row, row_second, pair_above, above_row}
use Rattle.check_rows.proofs.PairRows.is_found.Given as goal

abbrev pub invariant-loop-low : goal.invariant-loop-low
invariant-loop-low l =
    (l.high ≤ l.self.rows.count)
    × ((j : ℕ) → j < l.low → above_row l.self.rows.store.now l.self.rows.first l.self.rows.width l.a l.b j ≡ true)
    × ((j : ℕ) → l.high ≤ j → j < l.self.rows.count
    → pair_above (row l.self.rows.store.now l.self.rows.first l.self.rows.width j) (row_second l.self.rows.store.now l.self.rows.first l.self.rows.width j) l.a l.b ≡ true)

abbrev pub decreases-loop-low : goal.decreases-loop-low
decreases-loop-low l = l.high - l.low
