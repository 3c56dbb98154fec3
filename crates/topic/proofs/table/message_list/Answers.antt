-- `topic::table::message_list` meets its contract: its places are those of the layout.
use mathlib.Core.Path.{refl}
use native.Mathlib.Omega.{arith}
use Rattle.store.proofs.Listed.{same_list}
use Rattle.topic.proofs.table.message_list.Goals as goal

pub returns : goal.returns
returns c = let a = c.topic_at-at.ensures in same_list (omega arith) (omega arith) refl
