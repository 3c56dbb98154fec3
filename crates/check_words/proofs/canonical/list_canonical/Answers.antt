-- `check_words::canonical::list_canonical` meets its contract: the count is tested, then the slots past it.
use mathlib.Core.Path.{◌∙◌}
use borrow.Author.Tests.{lt-leb}
use Rattle.check_words.proofs.Spelt.{list_over, list_within}
use Rattle.check_words.proofs.canonical.list_canonical.Goals as goal

pub returns-then-n-most : goal.returns-then-n-most
returns-then-n-most c = list_within _ _ _ c.word-n.ensures c.if-n-most.true c.is_blank.ensures

pub returns-else-n-most : goal.returns-else-n-most
returns-else-n-most c = lt-leb _ _ c.if-n-most.false ∙ list_over _ _ _ c.word-n.ensures c.if-n-most.false
