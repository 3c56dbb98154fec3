-- `check_state::valid_dispatchers::each_valid` meets its contract. The loop's invariant: the dispatchers before d are valid, and the
-- stamp is d.
use mathlib.Core.Path.{◌≡◌}
use mathlib.Core.Bool.{true}
use Rattle.rules.specs.Valid.{valid_dispatcher}
use Rattle.layout.specs.Layout.{decode}
use Rattle.layout.specs.Fields.{dispatcher_nth}
use Rattle.check_rows.specs.Below.{each_below}
use Rattle.check_state.proofs.valid_dispatchers.each_valid.Given as goal

abbrev pub invariant-loop-d : goal.invariant-loop-d
invariant-loop-d l =
    (l.stamps.stamp ≡ l.d) × (each_below (λ j. valid_dispatcher (decode l.topics.store.now) (dispatcher_nth (decode l.topics.store.now) j)) l.d ≡ true)
