-- `push_turn::turn::take_turn` meets its contract: the total allows none, no place is ready, or the turn of the place that was chosen.
use mathlib.Core.Path.{refl, ◌∙◌}
use native.Mathlib.Omega.{arith}
use Rattle.rules.specs.Push.{slot_after}
use Rattle.layout.specs.Layout.{decode}
use Rattle.layout.specs.Fields.{dispatcher_nth}
use Rattle.push_laws.specs.Local.{fixed_of}
use Rattle.push_turn.specs.Turns.{turn_of, local_from}
use Rattle.push_turn.proofs.Handing.{turn_spent, no_place, at_place, place_ready}
use Rattle.push_turn.proofs.turn.take_turn.Goals as goal

pub returns-then-numbers-le-ZERO_PERMITS : goal.returns-then-numbers-le-ZERO_PERMITS
unfolding turn_of local_from
returns-then-numbers-le-ZERO_PERMITS c =
    let a = c.args in
    let f = fixed_of (decode a.store.now) (dispatcher_nth (decode a.store.now) a.served.d) in
    record { turn = turn_spent f (local_from a.permits.now a.numbers.now) c.if-numbers-le-ZERO_PERMITS.true; mark_delete = refl }

pub returns-in_err-place : goal.returns-in_err-place
unfolding turn_of local_from
returns-in_err-place c =
    let a = c.args in
    let f = fixed_of (decode a.store.now) (dispatcher_nth (decode a.store.now) a.served.d) in
    let l = local_from a.permits.now a.numbers.now in
    record {
      turn = rw c.from_residual.ensures (no_place f l a.ring.now c.requires.1 c.in_err-place.ensures.place c.if-numbers-le-ZERO_PERMITS.false);
      mark_delete = refl;
    }

pub take_entry-requires : goal.take_entry-requires
unfolding local_from
take_entry-requires c =
    let a = c.args in
    let p = c.requires in
    let f = fixed_of (decode a.store.now) (dispatcher_nth (decode a.store.now) a.served.d) in
    let h = place_ready f (local_from a.permits.now a.numbers.now) a.ring.now p.1 c.in_ok-place.place c.in_ok-place.ensures.place in
    (p.0, h, c.if-numbers-le-ZERO_PERMITS.false)

pub returns : goal.returns
unfolding local_from slot_after
returns c =
    let a = c.args in
    let f = fixed_of (decode a.store.now) (dispatcher_nth (decode a.store.now) a.served.d) in
    let l = local_from a.permits.now a.numbers.now in
    let r = c.in_ok-place.place in
    let p = c.in_ok-place.ensures in
    let n = c.place_after-next.ensures in
    record {
      turn = c.take_entry.ensures.turn
          ∙ at_place f l a.ring.now c.requires.1 r p.place (omega arith) c.if-numbers-le-ZERO_PERMITS.false p.within;
      mark_delete = c.take_entry.ensures.mark_delete;
    }
