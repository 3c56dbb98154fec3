-- `dispatcher::table::own_pair` meets its contract: the first two words of the dispatcher.
use mathlib.Core.Path.{ap, ap₂, ◌∙◌}
use native.Mathlib.Omega.{arith}
use Rattle.layout.specs.Fields.{pair_of}
use Rattle.layout.proofs.GetsDispatcher.{read_dispatcher_topic, read_dispatcher_subscription}
use Rattle.dispatcher.specs.Pairs.{pair_at}
use Rattle.dispatcher.proofs.table.own_pair.Goals as goal

pub at-requires : goal.at-requires
at-requires c =
    let a = c.dispatcher_at.ensures in
    let i = c.requires.inside in
    let l = c.requires.canon.long in
    omega arith

pub returns : goal.returns
returns c =
    let h = c.requires in
    c.at.ensures ∙ ap (pair_at c.args.store.now) c.dispatcher_at.ensures
    ∙ ap₂ pair_of (read_dispatcher_topic h.canon c.args.d h.there) (read_dispatcher_subscription h.canon c.args.d h.there)
