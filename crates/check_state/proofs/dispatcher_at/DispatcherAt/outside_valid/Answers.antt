-- `check_state::dispatcher_at::DispatcherAt::outside_valid` meets its contract: the ids ascend, and none is in the ledger.
use mathlib.Core.Path.{refl, sym, ◌∙◌}
use Rattle.check_state.specs.Marks.{outside_right}
use Rattle.store.proofs.Tests.{fails, passes}
use Rattle.check_state.proofs.dispatcher_at.DispatcherAt.outside_valid.Goals as goal

pub ids_absent-requires : goal.ids_absent-requires
ids_absent-requires c =
    record {
      width = (refl, c.args.self.now.ledger_in.width);
      store = sym c.args.self.now.ledger_in.same_store;
      ids = sym c.pairs_ascend.ensures ∙ c.if-pairs_ascend.true;
    }

pub returns-then-pairs_ascend : goal.returns-then-pairs_ascend
unfolding outside_right
returns-then-pairs_ascend c =
    rw (← c.word.ensures) (passes (sym c.pairs_ascend.ensures ∙ c.if-pairs_ascend.true) c.ids_absent.ensures)

pub returns-else-pairs_ascend : goal.returns-else-pairs_ascend
unfolding outside_right
returns-else-pairs_ascend c =
    c.if-pairs_ascend.false ∙ rw (← c.word.ensures) (fails _ (sym c.pairs_ascend.ensures ∙ c.if-pairs_ascend.false))
