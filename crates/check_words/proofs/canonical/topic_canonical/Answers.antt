-- `check_words::canonical::topic_canonical` meets its contract: the tests are those of a topic's parts, in order.
use mathlib.Core.Path.{refl, sym, ◌∙◌}
use Rattle.store.proofs.Tests.{fails, passes, answered_no, answered_yes}
use Rattle.check_words.proofs.Spelt.{blank_is, list_lent}
use Rattle.check_words.proofs.Parts.{topic_parts}
use Rattle.check_words.proofs.canonical.topic_canonical.Goals as goal

pub returns-then-is_blank : goal.returns-then-is_blank
returns-then-is_blank c =
    let a = c.args in
    passes (answered_yes (blank_is a.words.now 1 3 2 refl c.is_blank.ensures) c.if-is_blank.true) (list_lent a.words.now 3 a.e 4 c.list_canonical.ensures)
    ∙ sym (topic_parts a.words.now a.e c.requires)

pub returns-else-is_blank : goal.returns-else-is_blank
returns-else-is_blank c =
    let a = c.args in
    c.if-is_blank.false
    ∙ fails _ (answered_no (blank_is a.words.now 1 3 2 refl c.is_blank.ensures) c.if-is_blank.false)
    ∙ sym (topic_parts a.words.now a.e c.requires)
