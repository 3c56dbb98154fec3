-- `store::counted::Counted::insert_blank` meets its contract: room is made and cleared, the count is one more.
use mathlib.Core.Path.{◌≡◌, ap, ◌∙◌}
use mathlib.Core.List.{List}
use Prim.Native.Nat.{ℕ, ◌+◌, ◌-◌, ◌*◌, ◌≤◌}
use native.Mathlib.Nat.{suc-mul}
use native.Mathlib.Numerals.{add-one}
use native.Mathlib.Omega.{arith}
use lib.ListN.{length}
use borrow.Rule.Slice.PartMut.{put_mid}
use Rattle.words.specs.Act.{up, both}
use Rattle.store.specs.Counted.{size}
use Rattle.store.proofs.Rooms.{room_le}
use Rattle.store.proofs.Slots.{from_one}
use Rattle.store.proofs.Moving.{open_part, clear_part}
use Rattle.store.proofs.counted.Counted.insert_blank.Goals as goal

pub returns : goal.returns
unfolding both
returns c =
    let l = c.args.self in
    let ws = c.args.store.now in
    let h = c.requires.0 in
    let n : c.count-n.result ≡ size l ws = c.count-n.ensures in
    let a : c.place.result ≡ l.first + c.args.j * l.width = c.place.ensures in
    let e : c.place-2.result ≡ l.first + (size l ws + 1) * l.width = c.place-2.ensures ∙ ap (λ (k : ℕ). l.first + (k + 1) * l.width) n in
    let f = from_one l.first c.args.j (size l ws + 1) l.width (let q = c.requires.1 in omega arith) in
    let m : size l ws + 1 - (c.args.j + 1) ≡ size l ws - c.args.j = omega arith in
    let k : c.place-2.result - c.place.result ≡ l.width + (size l ws - c.args.j) * l.width = rw (a, e) (f ∙ ap (λ (i : ℕ). l.width + i * l.width) m) in
    let i = h.inside in
    let o = room_le c.args.j (size l ws + 1) l.width (let q = c.requires.1 in omega arith) in
    let s = suc-mul (size l ws) l.width in
    let more : (size l ws + 1) * l.width ≡ l.width + size l ws * l.width = rw add-one (omega arith) in
    let fits : c.place.result + (c.place-2.result - c.place.result) ≤ length ws = omega arith in
    let gap = open_part ws c.place.result (c.place-2.result - c.place.result) l.width _ k fits c.open_gap.ensures in
    let us = put_mid c.place.result (c.place-2.result - c.place.result) ws c.open_gap.new.words in
    let same : length us ≡ length ws = ap (λ (t : List ℕ). length t) gap ∙ (up l.width ((size l ws - c.args.j) * l.width)).even c.place.result ws in
    let b : c.place-3.result ≡ l.first + c.args.j * l.width = c.place-3.ensures in
    let d : c.place-4.result ≡ l.first + (c.args.j + 1) * l.width = c.place-4.ensures in
    let t = suc-mul c.args.j l.width in
    let next : (c.args.j + 1) * l.width ≡ l.width + c.args.j * l.width = rw add-one (omega arith) in
    let one : c.place-4.result - c.place-3.result ≡ l.width = omega arith in
    let inside : c.place-3.result + (c.place-4.result - c.place-3.result) ≤ length us = omega arith in
    rw (clear_part us c.place-3.result (c.place-4.result - c.place-3.result) inside (c.fill.ensures.after (λ y h. h)), gap, one, a, b, n)
