-- `store::stretch::is_blank` meets its contract. The loop's invariant: what was or-ed so far is 0 and the rest is blank
-- exactly where the whole stretch is.
use mathlib.Core.Path.{refl, ◌∙◌}
use borrow.Author.Rules.{rules}
use Rattle.store.proofs.Blank.{or_sixteen}
use Rattle.store.proofs.stretch.is_blank.Goals as goal

pub loop-i-init : goal.loop-i-init
loop-i-init c = (search rules, search rules, refl)

pub loop-i-preserved : goal.loop-i-preserved
loop-i-preserved c = (
  search rules,
  search rules,
  or_sixteen c.loop-i.any c.eight_words.result c.eight_words-in-loop-i.result c.args.store.now c.loop-i.i c.args.to
      c.loop-i-test.true c.eight_words.ensures c.eight_words-in-loop-i.ensures
      ∙ c.loop-i.invariant.2,
)

pub returns : goal.returns
returns c = c.rest_blank.ensures ∙ c.loop-i.invariant.2
