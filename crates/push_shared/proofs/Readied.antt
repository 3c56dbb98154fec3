-- A dispatcher that obeys the rules can be served, and there is room for all that its service puts in flight.
use mathlib.Core.Path.{◌≡◌}
use mathlib.Core.List.{List, ◌++◌, map}
use Prim.Native.Nat.{ℕ, ◌+◌, ◌-◌, ◌≤◌}
use native.Mathlib.Omega.{arith}
use lib.ListN.{length, length-append, length-map}
use Rattle.rules.specs.State.{Held}
use Rattle.layout.specs.Layout.{decode}
use Rattle.layout.specs.Fields.{dispatcher_nth}
use Rattle.layout.proofs.Pigeons.{distinct_below}
use Rattle.push_turn.specs.Turns.{ServedHere, served_in, ledger_under}
use Rattle.push_turn.proofs.Served.{serving_valid}
use Rattle.push_shared.specs.Service.{Ready}

module _ {e d : ℕ} {ws : List ℕ} (r : Ready e ws d) where
  -- it can be served
  pub ready_serving : ServedHere (served_in (decode ws) e d) ws
  ready_serving = serving_valid r.here r.dispatcher_valid r.topics_valid

  -- places are distinct and below the cursor, so what is in flight, queued and not handed out yet is at most E
  pub ready_room : length (dispatcher_nth (decode ws) d).in_flight
      + (length (dispatcher_nth (decode ws) d).redelivery + (length (ledger_under (decode ws) d) - (dispatcher_nth (decode ws) d).cursor)) ≤ e
  ready_room =
      let x = dispatcher_nth (decode ws) d in
      let v = r.dispatcher_valid in
      let f : length x.marks ≤ e = r.here.lists_fit.marks_fit in
      let held : List ℕ = map (λ (h : Held). h.position) x.in_flight in
      let q = distinct_below x.cursor (held ++ x.redelivery) v.places.places_distinct v.places.places_below_cursor in
      let a : length (held ++ x.redelivery) ≡ length held + length x.redelivery = length-append held x.redelivery in
      let p = length-map x.in_flight (λ (h : Held). h.position) in
      let c = v.cursor_in_ledger in
      let o = v.entry_marks.one_each in
      omega (arith, q, a, p, c, o, f)
