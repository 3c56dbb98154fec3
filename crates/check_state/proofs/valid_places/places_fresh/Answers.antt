-- `check_state::valid_places::places_fresh` meets its contract: one position after the other is tested and stamped.
use Rattle.check_state.proofs.StampSteps.{placed_start, placed_stop, placed_turn}
use Rattle.check_state.proofs.valid_places.places_fresh.Goals as goal

pub loop-i-init : goal.loop-i-init
loop-i-init c =
    let a = c.args in
    let r = a.places.now in
    placed_start r.store.now r.first r.width a.cursor a.stamps.now

pub returns-then-not-place : goal.returns-then-not-place
returns-then-not-place c =
    let a = c.args in
    let r = a.places.now in
    placed_stop r.store.now r.first r.width a.cursor a.stamps.now c.loop-i.i c.loop-i.invariant c.word.ensures c.requires c.place.ensures r.count c.loop-i-test.true
    c.if-not-place.true

pub loop-i-preserved : goal.loop-i-preserved
loop-i-preserved c =
    let a = c.args in
    let r = a.places.now in
    placed_turn r.store.now r.first r.width a.cursor a.stamps.now c.loop-i.i c.loop-i.invariant c.word.ensures c.requires c.place.ensures c.if-not-place.false
