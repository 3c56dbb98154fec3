-- `check_state::valid_consumers::consumers_valid` meets its contract: the consumers are tested one by one. The loop's invariant:
-- those before i ascend and are valid.
use mathlib.Core.Bool.{◌&&◌}
use Rattle.rules.specs.Table.{all}
use Rattle.rules.specs.Valid.{ascending, valid_consumer}
use Rattle.layout.specs.Layout.{decode}
use Rattle.store.proofs.Prefixes.{Passed}
use Rattle.check_state.proofs.valid_consumers.consumers_valid.Given as goal

abbrev pub invariant-loop-i : goal.invariant-loop-i
invariant-loop-i l = Passed (λ cs. ascending cs && all (valid_consumer (decode l.store)) cs) (decode l.store).consumers l.i
