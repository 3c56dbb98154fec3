-- `push::load_permits` meets its contract: the permits of each consumer are read from the store.
use mathlib.Core.Path.{◌≡◌, refl, sym, ap, ap₂, ◌∙◌}
use mathlib.Core.List.{List, ◌++◌}
use Prim.Native.Nat.{ℕ, ◌<◌}
use native.Mathlib.Numerals.{add-one}
use native.Mathlib.Omega.{arith}
use lib.ListN.{length, set, take, drop}
use Rattle.layout.specs.Layout.{decode}
use Rattle.layout.proofs.Placed.{consumer_in}
use Rattle.push_laws.specs.Whole.{permits_now}
use Rattle.push_plain.proofs.Over.{over_set, over_all}
use Rattle.push.proofs.Pushing.{length_permits, permits_nth}
use Rattle.push.proofs.load_permits.Goals as goal

-- a place in the list is that of a consumer
below : {i m k : ℕ} → i < m → m ≡ k → i < k
below a p = omega (arith, a, p)

pub loop-i-init : goal.loop-i-init
loop-i-init c = refl

pub permits-requires : goal.permits-requires
permits-requires c =
    consumer_in c.requires.0 c.loop-i.i (below c.loop-i-test.true c.requires.1)

pub offset_bounds-list-i : goal.offset_bounds-list-i
offset_bounds-list-i c =
    let here = below c.loop-i-test.true c.requires.1 in
    let few = c.requires.0.shaped.consumers_fit in
    omega (arith, here, few)

pub loop-i-preserved : goal.loop-i-preserved
loop-i-preserved c =
    let here = below c.loop-i-test.true c.requires.1 in
    let s = decode c.args.store.now in
    let list = c.args.list.now in
    let i = c.loop-i.i in
    let n : length (permits_now s) ≡ length list = length_permits s ∙ sym c.requires.1 in
    let l : i < length list = rw c.requires.1 here in
    ap₂ {A = List ℕ} {B = ℕ} {C = List ℕ} (λ r v. set r i v) c.loop-i.invariant (c.permits.ensures ∙ sym (permits_nth s i here))
    ∙ over_set (permits_now s) list i 0 n l
    ∙ ap (λ (k : ℕ). take k (permits_now s) ++ drop k list) (sym (add-one i))

pub returns : goal.returns
returns c =
    let s = decode c.args.store.now in
    let list = c.args.list.now in
    let n : length (permits_now s) ≡ length list = length_permits s ∙ sym c.requires.1 in
    let a = c.loop-i-test.false in
    let b = c.loop-i.auto.list in
    c.loop-i.invariant ∙ over_all (permits_now s) list c.loop-i.i n (omega (arith, a, b))
