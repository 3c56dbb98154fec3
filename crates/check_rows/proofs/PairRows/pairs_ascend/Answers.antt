-- `check_rows::PairRows::pairs_ascend` meets its contract: each row but the first is above the one before it.
use Rattle.std.proofs.Common.{rules, tests, ◌≡◌, ◌+◌, ◌-◌}
use mathlib.Core.Path.{◌∙◌}
use native.Mathlib.Omega.{arith}
use Rattle.check_rows.specs.Rows.{row, row_second, pair_above, two_ascends, twos_ascend}
use Rattle.check_rows.proofs.Below.{each_same}
use Rattle.check_rows.proofs.Ranges.{all_ran}
use Rattle.check_rows.proofs.PairRows.pairs_ascend.Goals as goal

pub returns : goal.returns
unfolding twos_ascend
returns c =
    let s = c.args.self.now.rows in
    let ws = s.store.now in
    all_ran (λ j. pair_above (row ws s.first s.width j) (row_second ws s.first s.width j) (row ws s.first s.width (j - 1)) (row_second ws s.first s.width (j - 1)))
    (record { start = 1; end = s.count }) _ _ c.all.result (λ x t p k. search (rules, tests)) c.all.ensures.ran
    ∙ each_same _ (two_ascends ws s.first s.width) (s.count - 1)
    (λ k l. let e : 1 + k ≡ k + 1 = omega arith in let d : k + 1 - 1 ≡ k = omega arith in rw (e, d))
