-- `store::counted::Counted::remove` meets its contract: the gap of the record is closed, the count is one less.
use mathlib.Core.Path.{◌≡◌, ap, ◌∙◌}
use Prim.Native.Nat.{ℕ, ◌+◌, ◌-◌, ◌*◌, ◌≤◌}
use native.Mathlib.Omega.{arith}
use lib.ListN.{length}
use Rattle.store.specs.Counted.{size}
use Rattle.store.proofs.Rooms.{room_le}
use Rattle.store.proofs.Slots.{from_one}
use Rattle.store.proofs.Moving.{close_part}
use Rattle.store.proofs.counted.Counted.remove.Goals as goal

pub returns : goal.returns
returns c =
    let l = c.args.self in
    let ws = c.args.store.now in
    let h = c.requires.0 in
    let n : c.count-n.result ≡ size l ws = c.count-n.ensures in
    let a : c.place.result ≡ l.first + c.args.j * l.width = c.place.ensures in
    let e : c.place-2.result ≡ l.first + size l ws * l.width = c.place-2.ensures ∙ ap (λ (k : ℕ). l.first + k * l.width) n in
    let f = from_one l.first c.args.j (size l ws) l.width c.requires.1 in
    let k : c.place-2.result - c.place.result ≡ l.width + (size l ws - (c.args.j + 1)) * l.width = omega arith in
    let i = h.inside in
    let o = room_le c.args.j (size l ws) l.width (let q = c.requires.1 in omega arith) in
    let fits : c.place.result + (c.place-2.result - c.place.result) ≤ length ws = omega arith in
    rw (close_part ws c.place.result (c.place-2.result - c.place.result) l.width _ k fits c.close_gap.ensures, a, n)
