-- `store::movers::close_gap` meets its contract: the words move down, and those that they leave are cleared.
use mathlib.Core.Path.{◌≡◌, ap, ◌∙◌}
use mathlib.Core.List.{List}
use Prim.Native.Nat.{ℕ, ◌+◌, ◌-◌, ◌≤◌}
use native.Mathlib.Nat.{zero-add}
use native.Mathlib.Omega.{arith}
use lib.ListN.{length}
use Rattle.words.specs.Act.{down, clear, both, past}
use Rattle.store.proofs.Moving.{clear_part}
use Rattle.store.proofs.movers.close_gap.Goals as goal

pub returns : goal.returns
unfolding both past
returns c =
    let ws = c.args.words.now in
    let w = c.args.width in
    let n = length ws - w in
    let us = c.move_down.new.words in
    let same : length us ≡ length ws = ap (λ (l : List ℕ). length l) c.move_down.ensures ∙ (down w n).even 0 ws in
    let k : length us - n ≡ w = omega arith in
    let fits : n + (length us - n) ≤ length us = omega arith in
    clear_part us n (length us - n) fits (c.fill.ensures.after (λ y h. h))
    ∙ rw (k, zero-add) (ap ((clear w).run n) c.move_down.ensures)
