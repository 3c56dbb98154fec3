-- `cases_twin::same_words` meets its contract: the library compares word by word.
use mathlib.Core.Path.{◌∙◌}
use Rattle.cases_twin.proofs.Rows.{compared}
use Rattle.cases_twin.proofs.same_words.Goals as goal

pub returns : goal.returns
returns c = c.eq.ensures ∙ compared _ _
