-- `store::counted::write_words` meets its contract: one more word is laid in each turn.
use mathlib.Core.Path.{sym, ◌∙◌, ap}
use mathlib.Core.List.{List}
use Prim.Native.Nat.{ℕ, ◌<◌, ◌≤◌}
use native.Mathlib.Omega.{arith}
use lib.ListN.{length}
use lib.Seq.{take_all}
use Rattle.words.specs.Act.{lay}
use Rattle.words.proofs.Act.{lay_none, lay_turn}
use Rattle.store.proofs.counted.write_words.Goals as goal

pub loop-i-init : goal.loop-i-init
loop-i-init g c = sym (lay_none c.args.at c.args.store.now)

pub loop-i-preserved : goal.loop-i-preserved
loop-i-preserved g c =
    let h : c.loop-i.i < length c.args.words = omega arith in
    lay_turn c.args.words c.loop-i.i c.args.at c.args.store.now c.loop-i.invariant h

pub returns : goal.returns
returns g c =
    let h : length c.args.words ≤ c.loop-i.i = omega arith in
    c.loop-i.invariant ∙ ap (λ (vs : List ℕ). (lay vs).run c.args.at c.args.store.now) (take_all c.loop-i.i c.args.words h)
