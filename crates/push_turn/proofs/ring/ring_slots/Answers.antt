-- `push_turn::ring::ring_slots` meets its contract: a place is the slot of the id there.
use mathlib.Core.Path.{refl, ap, ◌∙◌}
use Prim.Native.Nat.{ℕ, ◌<◌}
use native.Mathlib.Omega.{arith}
use lib.ListN.{length}
use Rattle.rules.specs.State.{by_id}
use Rattle.layout.specs.Layout.{decode}
use Rattle.layout.specs.Fields.{dispatcher_nth}
use Rattle.store.specs.Find.{slot}
use Rattle.push_laws.specs.Local.{fixed_of}
use Rattle.push_turn.proofs.Slots.{written_on, written_all}
use Rattle.push_turn.proofs.ring.ring_slots.Goals as goal

pub loop-j-init : goal.loop-j-init
loop-j-init c = refl

pub ring_id-requires : goal.ring_id-requires
ring_id-requires c =
    (c.requires.0, rw (← c.requires.1) c.loop-j-test.true)

pub slot_of-requires : goal.slot_of-requires
slot_of-requires c = c.requires.0.canon

pub loop-j-preserved : goal.loop-j-preserved
loop-j-preserved c =
    let here : c.loop-j.j < length (dispatcher_nth (decode c.args.store.now) c.args.d).attached = rw (← c.requires.1) c.loop-j-test.true in
    let a = c.args in
    let p = c.requires in
    let s = decode a.store.now in
    written_on (λ (i : ℕ). slot by_id i s.consumers) (dispatcher_nth s a.d).attached a.ring.now c.loop-j.ring c.loop-j.j c.slot_of.result
    here p.1 c.loop-j.invariant (c.slot_of.ensures ∙ ap (λ (i : ℕ). slot by_id i s.consumers) c.ring_id.ensures)

pub returns : goal.returns
unfolding fixed_of
returns c =
    let a = c.args in
    let p = c.requires in
    let s = decode a.store.now in
    let t = c.loop-j-test.false in
    written_all (λ (i : ℕ). slot by_id i s.consumers) (dispatcher_nth s a.d).attached a.ring.now c.loop-j.ring c.loop-j.j (omega arith) p.1 c.loop-j.invariant
