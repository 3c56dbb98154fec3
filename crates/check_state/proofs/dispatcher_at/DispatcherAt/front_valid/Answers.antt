-- `check_state::dispatcher_at::DispatcherAt::front_valid` meets its contract: head, ring and places. A head that passed has a
-- cursor below which every position has a stamp.
use mathlib.Core.Path.{◌≡◌, refl, sym, ◌∙◌}
use mathlib.Core.Bool.{true}
use native.Mathlib.Omega.{arith}
use Rattle.check_state.specs.Dispatchers.{head_right, front_right}
use Rattle.store.proofs.Tests.{fails, passes}
use Rattle.check_state.proofs.Ranges.{head_cursor}
use Rattle.check_state.proofs.dispatcher_at.DispatcherAt.front_valid.Goals as goal
use Rattle.check_state.proofs.dispatcher_at.DispatcherAt.front_valid.Goals.{then-head_valid, else-head_valid}

pub places_valid-requires : goal.places_valid-requires
places_valid-requires c =
    let s = c.args.self.now in
    let head : head_right s.store.now s.at s.ledger.rows.count ≡ true =
    elim c.if-head_valid.branch [
      | then-head_valid w ↦ sym c.head_valid.ensures ∙ w.if-head_valid.true
      | else-head_valid w ↦ absurd (cc)
    ] in
    let l = head_cursor s.store.now s.at s.ledger.rows.count head in
    let f = s.ledger_in.few in
    let m = s.room.E_most in
    record { cursor = omega arith; unused = c.requires }

pub returns-then-ring_valid : goal.returns-then-ring_valid
unfolding front_right
returns-then-ring_valid c =
    record {
      answer =
          elim c.if-head_valid.branch [
            | then-head_valid w ↦
                passes (sym c.head_valid.ensures ∙ w.if-head_valid.true)
                (passes (sym w.ring_valid.ensures ∙ sym w.value-is ∙ c.if-ring_valid.true) c.places_valid.ensures.answer)
            | else-head_valid w ↦ absurd (cc)
          ];
      same = c.places_valid.ensures.same;
    }

pub returns-else-ring_valid : goal.returns-else-ring_valid
unfolding front_right
returns-else-ring_valid c =
    record {
      answer =
          c.if-ring_valid.false
          ∙ elim c.if-head_valid.branch [
            | then-head_valid w ↦
                passes (sym c.head_valid.ensures ∙ w.if-head_valid.true) (fails _ (sym w.ring_valid.ensures ∙ sym w.value-is ∙ c.if-ring_valid.false))
            | else-head_valid w ↦ fails _ (sym c.head_valid.ensures ∙ w.if-head_valid.false)
          ];
      same = refl;
    }
