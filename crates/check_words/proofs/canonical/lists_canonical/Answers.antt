-- `check_words::canonical::lists_canonical` meets its contract: the four lists are tested in order.
use mathlib.Core.Path.{sym, ◌∙◌}
use Rattle.store.proofs.Tests.{fails, passes}
use Prim.Native.Nat.{◌+◌}
use Rattle.check_words.proofs.Spelt.{list_lent}
use Rattle.check_words.specs.Canonical.{lists_canonical}
use Rattle.check_words.proofs.canonical.lists_canonical.Goals as goal
use Rattle.check_words.proofs.canonical.lists_canonical.Goals.{then-list_canonical, else-list_canonical, then-list_canonical-2, else-list_canonical-2}

pub returns-then-list_canonical-3 : goal.returns-then-list_canonical-3
unfolding lists_canonical
returns-then-list_canonical-3 c =
    elim c.if-list_canonical-2.branch [
      | then-list_canonical-2 v ↦
          elim c.if-list_canonical.branch [
            | then-list_canonical w ↦
                passes (sym (list_lent c.args.words.now 11 32 1 c.list_canonical.ensures) ∙ w.if-list_canonical.true)
                (passes (sym (list_lent c.args.words.now 44 64 2 w.list_canonical-then-list_canonical.ensures) ∙ sym w.value-is ∙ v.if-list_canonical-2.true)
                (passes (sym (list_lent c.args.words.now 173 c.args.e 1 v.list_canonical-then-list_canonical-2.ensures) ∙ sym v.value-is ∙ c.if-list_canonical-3.true)
                (list_lent c.args.words.now (174 + c.args.e) c.args.e 2 c.list_canonical-then-list_canonical-3.ensures)))
            | else-list_canonical w ↦ absurd (cc)
          ]
      | else-list_canonical-2 v ↦ absurd (cc)
    ]

pub returns-else-list_canonical-3 : goal.returns-else-list_canonical-3
unfolding lists_canonical
returns-else-list_canonical-3 c =
    c.if-list_canonical-3.false
    ∙ elim c.if-list_canonical-2.branch [
      | then-list_canonical-2 v ↦
          elim c.if-list_canonical.branch [
            | then-list_canonical w ↦
                passes (sym (list_lent c.args.words.now 11 32 1 c.list_canonical.ensures) ∙ w.if-list_canonical.true)
                (passes (sym (list_lent c.args.words.now 44 64 2 w.list_canonical-then-list_canonical.ensures) ∙ sym w.value-is ∙ v.if-list_canonical-2.true)
                (fails _ (sym (list_lent c.args.words.now 173 c.args.e 1 v.list_canonical-then-list_canonical-2.ensures) ∙ sym v.value-is ∙ c.if-list_canonical-3.false)))
            | else-list_canonical w ↦ absurd (cc)
          ]
      | else-list_canonical-2 v ↦
          elim c.if-list_canonical.branch [
            | then-list_canonical w ↦
                passes (sym (list_lent c.args.words.now 11 32 1 c.list_canonical.ensures) ∙ w.if-list_canonical.true)
                (fails _ (sym (list_lent c.args.words.now 44 64 2 w.list_canonical-then-list_canonical.ensures) ∙ sym w.value-is ∙ v.if-list_canonical-2.false))
            | else-list_canonical w ↦ fails _ (sym (list_lent c.args.words.now 11 32 1 c.list_canonical.ensures) ∙ w.if-list_canonical.false)
          ]
    ]
