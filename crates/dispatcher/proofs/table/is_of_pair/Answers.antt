-- `dispatcher::table::is_of_pair` meets its contract: the two pairs are compared.
use mathlib.Core.Path.{ap, ◌∙◌}
use Rattle.rules.specs.State.{same_pair}
use Rattle.dispatcher.specs.Pairs.{pair_in}
use Rattle.dispatcher.proofs.table.is_of_pair.Goals as goal

pub returns : goal.returns
unfolding same_pair
returns c = c.eq.ensures ∙ ap (same_pair (pair_in c.args.pair)) c.own_pair.ensures
