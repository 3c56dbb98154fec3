-- `check_words::canonical::consumer_canonical` meets its contract: the tests are those of a consumer's parts, in order.
use mathlib.Core.Path.{refl, sym, ◌∙◌}
use borrow.Author.Tests.{lt-leb, le-leb}
use Rattle.store.proofs.Tests.{fails, passes}
use Rattle.check_words.proofs.Spelt.{list_lent}
use Rattle.check_words.proofs.Parts.{consumer_parts}
use Rattle.check_words.proofs.canonical.consumer_canonical.Goals as goal
use Rattle.check_words.proofs.canonical.consumer_canonical.Goals.{then-words-le1, else-words-le1}

pub returns-then-list_canonical : goal.returns-then-list_canonical
returns-then-list_canonical c =
    elim c.if-words-le1.branch [
      | then-words-le1 w ↦
          passes (le-leb _ _ w.if-words-le1.true) (passes (sym (list_lent _ 6 64 1 w.list_canonical.ensures) ∙ sym w.value-is ∙ c.if-list_canonical.true) refl)
      | else-words-le1 w ↦ let f = lt-leb _ _ w.if-words-le1.false in absurd (cc)
    ]
    ∙ sym (consumer_parts c.args.words.now c.requires)

pub returns-else-list_canonical : goal.returns-else-list_canonical
returns-else-list_canonical c =
    c.if-list_canonical.false
    ∙ elim c.if-words-le1.branch [
      | then-words-le1 w ↦
          passes (le-leb _ _ w.if-words-le1.true) (fails _ (sym (list_lent _ 6 64 1 w.list_canonical.ensures) ∙ sym w.value-is ∙ c.if-list_canonical.false))
      | else-words-le1 w ↦ fails _ (lt-leb _ _ w.if-words-le1.false)
    ]
    ∙ sym (consumer_parts c.args.words.now c.requires)
