-- `store::movers::move_down` meets its contract: one more word is moved in each turn.
use mathlib.Core.Path.{◌≡◌, sym, ◌∙◌, ap}
use Prim.Native.Nat.{ℕ, ◌<◌, ◌+◌, ◌-◌}
use native.Mathlib.Omega.{arith}
use lib.ListN.{length}
use Rattle.words.specs.Act.{down}
use Rattle.words.proofs.Act.{down_none}
use Rattle.store.proofs.Moving.{down_goes_on}
use Rattle.store.proofs.movers.move_down.Goals as goal

pub loop-i-init : goal.loop-i-init
loop-i-init c = sym (down_none c.args.width 0 c.args.words.now)

pub loop-i-preserved : goal.loop-i-preserved
loop-i-preserved c =
    let a = c.args in
    let h : a.width + c.loop-i.i < length a.words.now = omega arith in
    down_goes_on a.words.now a.width c.loop-i.i c.loop-i.invariant h

pub returns : goal.returns
returns c =
    let a = c.args in
    let e : c.loop-i.i ≡ length a.words.now - a.width = omega arith in
    c.loop-i.invariant ∙ ap (λ (n : ℕ). (down a.width n).run 0 a.words.now) e
