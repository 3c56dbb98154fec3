-- `store::stretch::eight_words` meets its contract: what is or-ed is 0 exactly where each of the eight words is.
use borrow.Author.Rules.{rules}
use Rattle.store.proofs.Blank.{eight_blank}
use Rattle.store.proofs.stretch.eight_words.Goals as goal

pub returns : goal.returns
returns c = eight_blank c.args.store.now c.args.at (search rules)
