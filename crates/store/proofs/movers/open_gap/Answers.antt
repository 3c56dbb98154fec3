-- `store::movers::open_gap` meets its contract: one more word is moved in each turn, the last one first.
use mathlib.Core.Path.{◌≡◌}
use Prim.Native.Nat.{◌≤◌, ◌<◌, ◌-◌}
use native.Mathlib.Omega.{arith}
use lib.ListN.{length}
use Rattle.store.proofs.Moving.{up_begins, up_goes_on, up_ends}
use Rattle.store.proofs.movers.open_gap.Goals as goal

pub loop-i-init : goal.loop-i-init
loop-i-init c = (omega arith, up_begins c.args.words.now c.args.width _)

pub loop-i-preserved : goal.loop-i-preserved
loop-i-preserved c =
    let a = c.args in
    let i = c.loop-i.i in
    let n = length a.words.now - a.width in
    let p : 0 < i = omega arith in
    let q : i ≤ n = omega arith in
    let h : n ≤ length a.words.now = omega arith in
    (omega arith, up_goes_on a.words.now a.width n i p q h c.loop-i.invariant.1)

pub returns : goal.returns
returns c =
    let a = c.args in
    let e : c.loop-i.i ≡ 0 = omega arith in
    up_ends a.words.now a.width _ c.loop-i.i e c.loop-i.invariant.1
