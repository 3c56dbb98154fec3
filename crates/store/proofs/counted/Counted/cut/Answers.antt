-- `store::counted::Counted::cut` meets its contract: the records past the first ones are cleared, and these are counted.
use mathlib.Core.Path.{◌≡◌, ap, ◌∙◌}
use Prim.Native.Nat.{ℕ, ◌+◌, ◌-◌, ◌*◌, ◌≤◌}
use native.Mathlib.Omega.{arith}
use lib.ListN.{length}
use Rattle.store.specs.Counted.{size}
use Rattle.store.proofs.Rooms.{room_le}
use Rattle.store.proofs.Slots.{between}
use Rattle.store.proofs.Moving.{clear_part}
use Rattle.store.proofs.counted.Counted.cut.Goals as goal

pub returns : goal.returns
returns c =
    let l = c.args.self in
    let ws = c.args.store.now in
    let h = c.requires.0 in
    let n : c.count-n.result ≡ size l ws = c.count-n.ensures in
    let a : c.place.result ≡ l.first + c.args.k * l.width = c.place.ensures in
    let e : c.place-2.result ≡ l.first + size l ws * l.width = c.place-2.ensures ∙ ap (λ (k : ℕ). l.first + k * l.width) n in
    let f = between l.first c.args.k (size l ws) l.width c.requires.1 in
    let i = h.inside in
    let o = room_le c.args.k (size l ws) l.width c.requires.1 in
    let fits : c.place.result + (c.place-2.result - c.place.result) ≤ length ws = omega arith in
    rw (clear_part ws c.place.result (c.place-2.result - c.place.result) fits (c.fill.ensures.after (λ y h. h)), a, e)
