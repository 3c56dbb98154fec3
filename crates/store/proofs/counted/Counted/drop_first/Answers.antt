-- `store::counted::Counted::drop_first` meets its contract: the gap of the records is closed, the count is less by theirs.
use mathlib.Core.Path.{◌≡◌, ap, ◌∙◌}
use Prim.Native.Nat.{ℕ, ◌+◌, ◌-◌, ◌*◌, ◌≤◌}
use native.Mathlib.Omega.{arith}
use lib.ListN.{length}
use Rattle.store.specs.Counted.{size}
use Rattle.words.specs.Words.{slots_left}
use Rattle.store.proofs.Moving.{close_part}
use Rattle.store.proofs.counted.Counted.drop_first.Goals as goal

pub returns : goal.returns
returns c =
    let l = c.args.self in
    let ws = c.args.store.now in
    let h = c.requires.0 in
    let n : c.count-n.result ≡ size l ws = c.count-n.ensures in
    let e : c.place.result ≡ l.first + size l ws * l.width = c.place.ensures ∙ ap (λ (k : ℕ). l.first + k * l.width) n in
    let f = slots_left c.args.k (size l ws) l.width c.requires.1 in
    let k : c.place.result - l.first ≡ c.args.k * l.width + (size l ws - c.args.k) * l.width = omega arith in
    let i = h.inside in
    let fits : l.first + (c.place.result - l.first) ≤ length ws = omega arith in
    rw (close_part ws l.first (c.place.result - l.first) (c.args.k * l.width) _ k fits c.close_gap.ensures, n)
