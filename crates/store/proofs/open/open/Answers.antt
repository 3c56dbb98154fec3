-- `store::open::open` meets its contract: each way out is one of the outcomes of opening.
use mathlib.Core.Logic.{◌⊎◌, ⊎_elim}
use Prim.Native.Nat.{◌+◌, ◌*◌, ◌≤◌, ◌<◌}
use native.Mathlib.Omega.{arith}
use lib.ListN.{length}
use Rattle.std.proofs.lemmas.Grind.{common_steps}
use Rattle.rules.specs.Calls.{needed}
use Rattle.store.proofs.Opened.{open_refused, open_done, open_low, open_high, open_short, open_whole}
use Rattle.store.proofs.open.open.Goals as goal

pub returns-then-not-contains : goal.returns-then-not-contains
returns-then-not-contains c =
    let a = c.args in
    let f : (a.entries < 1) ⊎ ((1 ≤ a.entries) × (4096 < a.entries)) = grind (arith, common_steps) in
    open_refused _ _ _ _ 2 (⊎_elim (λ h. open_low a.store.now a.entries a.leak a.noop h) (λ h. open_high a.store.now a.entries a.leak a.noop h.0 h.1) f)

pub returns-then-store-needed : goal.returns-then-store-needed
unfolding needed
returns-then-store-needed c =
    let a = c.args in
    let in_range : (1 ≤ a.entries) × (a.entries ≤ 4096) = grind (arith, common_steps) in
    let few : length a.store.now < 4096 + 128 * a.entries = omega arith in
    open_refused _ _ _ _ 3 (open_short a.store.now a.entries a.leak a.noop in_range.0 in_range.1 few)

pub returns : goal.returns
unfolding needed
returns c =
    let a = c.args in
    let in_range : (1 ≤ a.entries) × (a.entries ≤ 4096) = grind (arith, common_steps) in
    let long : 4096 + 128 * a.entries ≤ length a.store.now = omega arith in
    let whole = open_whole a.store.now a.entries a.leak a.noop in_range.0 in_range.1 long in
    rw c.open_words.ensures (open_done a.store.now a.entries a.leak a.noop whole long c.switch.ensures c.switch-2.ensures)
