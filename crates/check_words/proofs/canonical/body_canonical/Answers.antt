-- `check_words::canonical::body_canonical` meets its contract: the tests are those of the body's parts, in order.
use mathlib.Core.Path.{sym, ◌∙◌}
use Prim.Native.Nat.{◌+◌, ◌*◌}
use native.Mathlib.Omega.{arith}
use Rattle.layout.proofs.Body.{check_body}
use Rattle.store.proofs.Tests.{fails, passes}
use Rattle.check_words.proofs.Spelt.{blank_is}
use Rattle.check_words.proofs.canonical.body_canonical.Goals as goal
use Rattle.check_words.proofs.canonical.body_canonical.Goals.{then-consumers_canonical, else-consumers_canonical, then-topics_canonical, else-topics_canonical}

pub returns-then-dispatchers_canonical : goal.returns-then-dispatchers_canonical
returns-then-dispatchers_canonical c =
    let e = c.args.e in
    elim c.if-topics_canonical.branch [
      | then-topics_canonical v ↦
          elim c.if-consumers_canonical.branch [
            | then-consumers_canonical w ↦
                passes (sym c.consumers_canonical.ensures ∙ w.if-consumers_canonical.true)
                (passes (sym w.topics_canonical.ensures ∙ sym w.value-is ∙ v.if-topics_canonical.true)
                (passes (sym v.dispatchers_canonical.ensures ∙ sym v.value-is ∙ c.if-dispatchers_canonical.true)
                (blank_is _ (3763 + 104 * e) (4096 + 128 * e) (333 + 24 * e) (omega arith) c.is_blank.ensures)))
            | else-consumers_canonical w ↦ absurd (cc)
          ]
      | else-topics_canonical v ↦ absurd (cc)
    ]
    ∙ sym (check_body e c.args.store.now)

pub returns-else-dispatchers_canonical : goal.returns-else-dispatchers_canonical
returns-else-dispatchers_canonical c =
    c.if-dispatchers_canonical.false
    ∙ elim c.if-topics_canonical.branch [
      | then-topics_canonical v ↦
          elim c.if-consumers_canonical.branch [
            | then-consumers_canonical w ↦
                passes (sym c.consumers_canonical.ensures ∙ w.if-consumers_canonical.true)
                (passes (sym w.topics_canonical.ensures ∙ sym w.value-is ∙ v.if-topics_canonical.true)
                (fails _ (sym v.dispatchers_canonical.ensures ∙ sym v.value-is ∙ c.if-dispatchers_canonical.false)))
            | else-consumers_canonical w ↦ absurd (cc)
          ]
      | else-topics_canonical v ↦
          elim c.if-consumers_canonical.branch [
            | then-consumers_canonical w ↦
                passes (sym c.consumers_canonical.ensures ∙ w.if-consumers_canonical.true)
                (fails _ (sym w.topics_canonical.ensures ∙ sym w.value-is ∙ v.if-topics_canonical.false))
            | else-consumers_canonical w ↦ fails _ (sym c.consumers_canonical.ensures ∙ w.if-consumers_canonical.false)
          ]
    ]
    ∙ sym (check_body c.args.e c.args.store.now)
