-- `check_state::valid_dispatchers::next_valid` meets its contract: an empty ring, or one with ids.
use Rattle.check_state.proofs.Ranges.{next_empty, next_slot}
use Rattle.check_state.proofs.valid_dispatchers.next_valid.Goals as goal

pub returns-then-n-eq0 : goal.returns-then-n-eq0
returns-then-n-eq0 c = next_empty c.args.next c.args.n c.if-n-eq0.true

pub returns : goal.returns
returns c = next_slot c.args.next c.args.n c.if-n-eq0.false
