-- `check_topics::topics_valid` meets its contract: the topics are tested one by one. The loop's invariant: those before t
-- have distinct numbers and are valid, and what is known of their order is true.
use mathlib.Core.Path.{◌≡◌}
use mathlib.Core.Bool.{◌&&◌}
use mathlib.Core.List.{map}
use lib.Dec.{eqb}
use lib.ListN.{length}
use Rattle.rules.specs.Table.{all, distinct}
use Rattle.rules.specs.State.{Topic}
use Rattle.rules.specs.Valid.{valid_topic}
use Rattle.layout.specs.Layout.{decode}
use Rattle.store.proofs.Prefixes.{Passed}
use Rattle.check_topics.specs.Orders.{Known}
use Rattle.check_topics.proofs.topics_valid.Given as goal

abbrev pub invariant-loop-t : goal.invariant-loop-t
invariant-loop-t l =
    Passed (λ ts. distinct eqb (map (λ (x : Topic). x.number) ts) && all (valid_topic l.e) ts) (decode l.store).topics l.t
    × (length l.ascend ≡ 8) × Known l.e l.store l.ascend
