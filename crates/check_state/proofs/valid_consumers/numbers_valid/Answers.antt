-- `check_state::valid_consumers::numbers_valid` meets its contract: the four bounds are tested in order.
use mathlib.Core.Path.{refl, sym, ◌∙◌}
use borrow.Author.Tests.{le-leb, lt-leb}
use Rattle.store.proofs.Tests.{fails, passes}
use Rattle.check_state.proofs.Consumers.{numbers_read}
use Rattle.check_state.proofs.valid_consumers.numbers_valid.Goals as goal
use Rattle.check_state.proofs.valid_consumers.numbers_valid.Goals.{then-store-at-le-MOST_NUMBER, else-store-at-le-MOST_NUMBER, then-store-at-le-MOST_NUMBER-2, else-store-at-le-MOST_NUMBER-2}

pub returns-then-store-at-ge-LEAST_PERMITS : goal.returns-then-store-at-ge-LEAST_PERMITS
returns-then-store-at-ge-LEAST_PERMITS c =
    elim c.if-store-at-le-MOST_NUMBER-2.branch [
      | then-store-at-le-MOST_NUMBER-2 v ↦
          elim c.if-store-at-le-MOST_NUMBER.branch [
            | then-store-at-le-MOST_NUMBER w ↦
                passes (le-leb _ _ w.if-store-at-le-MOST_NUMBER.true)
                (passes (sym w.value-is ∙ v.if-store-at-le-MOST_NUMBER-2.true)
                (passes (sym v.value-is ∙ c.if-store-at-ge-LEAST_PERMITS.true) refl))
            | else-store-at-le-MOST_NUMBER w ↦ let f = lt-leb _ _ w.if-store-at-le-MOST_NUMBER.false in absurd (cc)
          ]
      | else-store-at-le-MOST_NUMBER-2 v ↦ absurd (cc)
    ]
    ∙ numbers_read c.requires c.consumer_at-at.ensures

pub returns-else-store-at-ge-LEAST_PERMITS : goal.returns-else-store-at-ge-LEAST_PERMITS
returns-else-store-at-ge-LEAST_PERMITS c =
    c.if-store-at-ge-LEAST_PERMITS.false
    ∙ elim c.if-store-at-le-MOST_NUMBER-2.branch [
      | then-store-at-le-MOST_NUMBER-2 v ↦
          elim c.if-store-at-le-MOST_NUMBER.branch [
            | then-store-at-le-MOST_NUMBER w ↦
                passes (le-leb _ _ w.if-store-at-le-MOST_NUMBER.true)
                (passes (sym w.value-is ∙ v.if-store-at-le-MOST_NUMBER-2.true) (fails _ (sym v.value-is ∙ c.if-store-at-ge-LEAST_PERMITS.false)))
            | else-store-at-le-MOST_NUMBER w ↦ fails _ (lt-leb _ _ w.if-store-at-le-MOST_NUMBER.false)
          ]
      | else-store-at-le-MOST_NUMBER-2 v ↦
          elim c.if-store-at-le-MOST_NUMBER.branch [
            | then-store-at-le-MOST_NUMBER w ↦
                passes (le-leb _ _ w.if-store-at-le-MOST_NUMBER.true) (fails _ (sym w.value-is ∙ v.if-store-at-le-MOST_NUMBER-2.false))
            | else-store-at-le-MOST_NUMBER w ↦ fails _ (lt-leb _ _ w.if-store-at-le-MOST_NUMBER.false)
          ]
    ]
    ∙ numbers_read c.requires c.consumer_at-at.ensures
