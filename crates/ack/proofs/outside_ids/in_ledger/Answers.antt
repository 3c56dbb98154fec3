-- `ack::outside_ids::in_ledger` meets its contract: a position was told, or not.
use Rattle.rules.specs.State.{ledger_of}
use Rattle.layout.specs.Layout.{decode}
use Rattle.groups.specs.Lent.{group_of}
use Rattle.topic.proofs.Positions.{found_held}
use Rattle.ack.proofs.outside_ids.in_ledger.Goals as goal

pub returns : goal.returns
returns c = found_held (group_of c.args.group).id (ledger_of (decode c.args.store.now) c.args.topic) c.is_some.ensures c.position_in.ensures
