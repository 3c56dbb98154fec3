-- There is room in the queue for all that is in flight: places are distinct and below the cursor.
use mathlib.Core.Path.{◌≡◌}
use mathlib.Core.List.{List, [], ◌∷◌, ◌++◌, map}
use Prim.Native.Nat.{ℕ, ◌+◌, ◌≤◌}
use native.Mathlib.Omega.{arith}
use lib.ListN.{length, length-append}
use Rattle.rules.specs.State.{Held, State, Dispatcher}
use Rattle.rules.specs.Valid.{ValidDispatcher}
use Rattle.layout.proofs.Pigeons.{distinct_below}

-- as many positions as entries in flight
length_positions : (l : List Held) → length (map (λ (h : Held). h.position) l) ≡ length l
length_positions [] = omega arith
length_positions (a ∷ l) = let h : length (map (λ (h : Held). h.position) l) ≡ length l = length_positions l in omega (arith, h)

-- queued and in flight are at most E
pub room_for_all : (e : ℕ) (s : State) (d : Dispatcher) → ValidDispatcher s d → length d.marks ≤ e → length d.redelivery + length d.in_flight ≤ e
room_for_all e s d v f =
    let r = distinct_below d.cursor (map (λ (h : Held). h.position) d.in_flight ++ d.redelivery) v.places.places_distinct v.places.places_below_cursor in
    let n : length (map (λ (h : Held). h.position) d.in_flight ++ d.redelivery) ≡ length (map (λ (h : Held). h.position) d.in_flight) + length d.redelivery = simp length-append in
    let p = length_positions d.in_flight in
    let c = v.cursor_in_ledger in
    let m = v.entry_marks.one_each in
    omega (arith, r, n, p, c, m, f)
