-- `redeliver::found::found_here` meets its contract: whether a position was told.
use mathlib.Core.Path.{ap, ◌∙◌}
use Rattle.layout.specs.Layout.{decode}
use Rattle.layout.specs.Fields.{topic_nth}
use Rattle.rules.specs.State.{Id}
use Rattle.rules.specs.Ledger.{holds_id}
use Rattle.groups.specs.Lent.{group_of}
use Rattle.store.specs.Found.{found}
use Rattle.topic.specs.Ids.{by_message_id}
use Rattle.topic.proofs.Positions.{found_held}
use Rattle.redeliver.proofs.Finds.{found_told}
use Rattle.redeliver.proofs.found.found_here.Goals as goal

pub returns : goal.returns
unfolding holds_id
returns c =
    let l = (topic_nth (decode c.args.store.now) c.args.t).messages in
    c.from.ensures
    ∙ rw (found_held (group_of c.args.group).id l c.is_some.ensures (c.position_of.ensures ∙ ap (λ (i : Id). found by_message_id i l) c.id.ensures))
    (found_told l (group_of c.args.group))
