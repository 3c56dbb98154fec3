-- `consumer::fields::dispatcher_of` meets its contract: the dispatcher of the pair that the record names.
use mathlib.Core.Path.{ap, ◌∙◌}
use Rattle.rules.specs.State.{Pair, by_pair}
use Rattle.layout.specs.Layout.{decode}
use Rattle.store.specs.Found.{found}
use Rattle.consumer.proofs.fields.dispatcher_of.Goals as goal

pub returns : goal.returns
returns c = c.find_dispatcher.ensures ∙ ap (λ (q : Pair). found by_pair q (decode c.args.store.now).dispatchers) c.pair.ensures
