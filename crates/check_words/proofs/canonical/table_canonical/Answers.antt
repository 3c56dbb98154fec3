-- `check_words::canonical::table_canonical` meets its contract: the count is in the room, each slot is right, and then the rest is 0.
use mathlib.Core.Path.{◌≡◌, refl, sym}
use native.Mathlib.Omega.{arith}
use lib.ListN.{get_or}
use Rattle.check_rows.specs.Below.{each_below}
use Rattle.check_words.specs.Canonical.{table_canonical}
use Rattle.store.proofs.Tests.{fails, passes, answered_no, answered_yes}
use Rattle.check_rows.proofs.Below.{each_turn, each_stop}
use Rattle.check_words.proofs.Spelt.{list_over, list_within}
use Rattle.check_words.proofs.Tables.{slots_first}
use Rattle.check_words.proofs.canonical.table_canonical.Goals as goal

pub returns-then-most-n : goal.returns-then-most-n
unfolding table_canonical
returns-then-most-n g c = λ right tells. let a = c.args in fails _ (sym (list_over a.list.now a.most a.width c.word-n.ensures c.if-most-n.true))

pub loop-i-init : goal.loop-i-init
unfolding each_below
loop-i-init g c = λ right tells. refl

pub slot-requires : goal.slot-requires
slot-requires g c = c.requires.slots c.loop-i.i (omega arith)

pub returns-then-not-slot : goal.returns-then-not-slot
returns-then-not-slot g c =
    λ right tells.
    let a = c.args in
    let n = c.word-n.ensures in
    slots_first a.list.now a.most a.width right
    (fails _
    (sym (each_stop right (get_or a.list.now 0 0) c.loop-i.i (omega arith)
    (answered_no (tells c.loop-i.i c.slot.result (omega arith) c.slot.ensures) c.if-not-slot.true))))

pub loop-i-preserved : goal.loop-i-preserved
loop-i-preserved g c =
    λ right tells.
    each_turn right c.loop-i.i (c.loop-i.invariant right tells)
    (answered_yes (tells c.loop-i.i c.slot.result (omega arith) c.slot.ensures) c.if-not-slot.false)

pub returns : goal.returns
returns g c =
    λ right tells.
    let a = c.args in
    let e : c.loop-i.i ≡ get_or a.list.now 0 0 = omega (arith, c.word-n.ensures) in
    slots_first a.list.now a.most a.width right
    (passes (rw e at (c.loop-i.invariant right tells))
    (list_within a.list.now a.most a.width c.word-n.ensures c.if-most-n.false c.is_blank.ensures))
