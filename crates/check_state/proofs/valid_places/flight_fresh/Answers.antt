-- `check_state::valid_places::flight_fresh` meets its contract: a holder that is no ring id, or a position that is not fresh, refuses.
use mathlib.Core.Path.{◌≡◌, refl, sym, ap, ◌∙◌}
use mathlib.Core.Bool.{true, false}
use mathlib.Core.List.{List}
use Prim.Native.Nat.{ℕ, ◌+◌, ◌*◌}
use native.Mathlib.Omega.{arith}
use lib.ListN.{get_or}
use Rattle.std.proofs.Common.{Option, is_some}
use Rattle.check_rows.specs.Below.{each_below}
use Rattle.check_rows.specs.Rows.{row, row_second}
use Rattle.check_rows.proofs.Below.{each_turn}
use Rattle.check_state.specs.Places.{held_right, holders_right}
use Rattle.check_state.proofs.StampSteps.{placed_start, placed_stop, placed_turn, placed_end, flown_unheld, flown_stale, flown_end}
use Rattle.check_state.proofs.valid_places.flight_fresh.Goals as goal

-- the position of entry i, as the first word of a row one word on
position_of : (ws : List ℕ) (first i : ℕ) → row_second ws first 2 i ≡ row ws (first + 1) 2 i
position_of ws first i = let e : first + i * 2 + 1 ≡ first + 1 + i * 2 = omega arith in ap (λ (k : ℕ). get_or ws k 0) e

pub loop-i-init : goal.loop-i-init
unfolding holders_right each_below
loop-i-init c =
    let a = c.args in
    (refl, placed_start a.ring.now.store.now (a.flight.now.rows.first + 1) 2 a.cursor a.stamps.now)

pub returns-in_default : goal.returns-in_default
returns-in_default c =
    let a = c.args in
    let r = a.ring.now in
    let f = a.flight.now.rows in
    let l = c.loop-i in
    let held : false ≡ held_right r.store.now r.first r.count f.first l.i =
    ap (λ (o : Option ℕ). is_some o) (sym c.in_default.is)
    ∙ rw (c.requires.widths.0, c.word.ensures, c.requires.widths.1, c.requires.store) at c.holder_slot.ensures.there in
    flown_unheld r.store.now r.first r.count f.first a.cursor a.stamps.now f.count l.i c.loop-i-test.true (sym held) l.invariant.1

pub returns-then-not-place : goal.returns-then-not-place
returns-then-not-place c =
    let a = c.args in
    let r = a.ring.now in
    let f = a.flight.now.rows in
    let l = c.loop-i in
    let here : c.second.result ≡ row r.store.now (f.first + 1) 2 l.i =
    rw (c.requires.widths.1, c.requires.store) at c.second.ensures ∙ position_of r.store.now f.first l.i in
    flown_stale r.store.now r.first r.count f.first a.cursor a.stamps.now f.count
    (placed_stop r.store.now (f.first + 1) 2 a.cursor a.stamps.now l.i l.invariant.1 here c.requires.cursor c.place.ensures f.count c.loop-i-test.true c.if-not-place.true)

pub loop-i-preserved : goal.loop-i-preserved
unfolding holders_right
loop-i-preserved c =
    let a = c.args in
    let r = a.ring.now in
    let f = a.flight.now.rows in
    let l = c.loop-i in
    let here : c.second.result ≡ row r.store.now (f.first + 1) 2 l.i =
    rw (c.requires.widths.1, c.requires.store) at c.second.ensures ∙ position_of r.store.now f.first l.i in
    let held : true ≡ held_right r.store.now r.first r.count f.first l.i =
    ap (λ (o : Option ℕ). is_some o) (sym c.in-Some.is)
    ∙ rw (c.requires.widths.0, c.word.ensures, c.requires.widths.1, c.requires.store) at c.holder_slot.ensures.there in (
      each_turn (held_right r.store.now r.first r.count f.first) l.i l.invariant.0 (sym held),
      placed_turn r.store.now (f.first + 1) 2 a.cursor a.stamps.now l.i l.invariant.1 here c.requires.cursor c.place.ensures c.if-not-place.false,
    )

pub returns : goal.returns
returns c =
    let a = c.args in
    let r = a.ring.now in
    let f = a.flight.now.rows in
    let l = c.loop-i in
    let e : l.i ≡ f.count = omega arith in
    flown_end r.store.now r.first r.count f.first a.cursor a.stamps.now f.count (rw e at l.invariant.0)
    (placed_end r.store.now (f.first + 1) 2 a.cursor a.stamps.now l.i f.count l.invariant.1 c.loop-i.auto.i-end c.loop-i-test.false)
