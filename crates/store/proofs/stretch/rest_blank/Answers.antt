-- `store::stretch::rest_blank` meets its contract: the words are or-ed one by one.
use mathlib.Core.Path.{sym, ◌∙◌, ap}
use mathlib.Core.Bool.{Bool, ◌&&◌}
use Prim.Native.Nat.{◌≤◌, ◌<◌, ◌-◌, ◌+◌}
use native.Mathlib.Omega.{arith}
use lib.Dec.{eqb}
use lib.ListN.{length, get_or, drop}
use Rattle.words.specs.Words.{blank}
use Rattle.words.proofs.Check.{and_true}
use Rattle.store.proofs.Blank.{blank_next, blank_end, or_turn}
use Rattle.store.proofs.stretch.rest_blank.Goals as goal

pub loop-i-preserved : goal.loop-i-preserved
loop-i-preserved c =
    let ws = c.args.store.now in
    let i = c.loop-i.i in
    let to = c.args.to in
    let h : i < to = omega arith in
    let l : i < length ws = omega arith in
    or_turn c.loop-i.any (get_or ws i 0) (blank (to - (i + 1)) (drop (i + 1) ws))
    ∙ ap (λ (b : Bool). eqb c.loop-i.any 0 && b) (sym (blank_next ws i to h l))
    ∙ c.loop-i.invariant

pub returns : goal.returns
returns c =
    let ws = c.args.store.now in
    let i = c.loop-i.i in
    let to = c.args.to in
    let h : to ≤ i = omega arith in
    sym (and_true (eqb c.loop-i.any 0))
    ∙ ap (λ (b : Bool). eqb c.loop-i.any 0 && b) (sym (blank_end ws i to h))
    ∙ c.loop-i.invariant
