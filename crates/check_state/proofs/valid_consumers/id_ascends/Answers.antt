-- `check_state::valid_consumers::id_ascends` meets its contract: the id is compared with the one before it.
use mathlib.Core.Path.{sym, ap, ap₂, ◌∙◌}
use Prim.Native.Nat.{ℕ, ◌-◌, ◌<◌}
use native.Mathlib.Omega.{arith}
use lib.Dec.{ltb}
use lib.ListN.{length, take}
use Rattle.rules.specs.Table.{all}
use Rattle.layout.specs.Layout.{decode}
use Rattle.layout.specs.Fields.{consumer_nth}
use Rattle.layout.proofs.Gets.{read_consumer_id}
use Rattle.check_state.proofs.Ascend.{below, one_before}
use Rattle.check_state.proofs.valid_consumers.id_ascends.Goals as goal

pub returns-then-i-eq0 : goal.returns-then-i-eq0
unfolding all
returns-then-i-eq0 c =
    let s = decode c.args.store.now in
    sym (ap (λ (n : ℕ). below (consumer_nth s c.args.i) (take n s.consumers)) c.if-i-eq0.true)

pub returns : goal.returns
returns c =
    let s = decode c.args.store.now in
    let i = c.args.i in
    let h = c.requires.0 in
    let p : 0 < i = omega (arith, c.if-i-eq0.false) in
    let t = h.there in
    let l : i - 1 < length s.consumers = omega arith in
    rw (c.consumer_at.ensures, c.consumer_at-2.ensures)
    (ap₂ {A = ℕ} {B = ℕ} ltb (read_consumer_id h.canon (i - 1) l) (read_consumer_id h.canon i t))
    ∙ one_before s.consumers i p t c.requires.1
