-- `subscribe::admit::ring_full` meets its contract: the number counts for an id that is not in the ring.
use mathlib.Core.Path.{refl, sym, ap, ◌∙◌}
use Prim.Native.Nat.{ℕ}
use lib.Dec.{leb}
use lib.ListN.{length}
use Rattle.rules.specs.State.{Dispatcher, by_pair}
use Rattle.dispatcher.specs.Pairs.{pair_in}
use Rattle.store.specs.Find.{slot}
use Rattle.store.proofs.Founds.{found_some, found_none}
use Rattle.layout.proofs.Placed.{dispatcher_in}
use Rattle.operation_laws.proofs.Frame.{dispatcher_found}
use Rattle.layout.specs.Layout.{decode}
use Rattle.subscribe.proofs.Subscribing.{not_new, new_by, new_ring}
use Rattle.subscribe.proofs.admit.ring_full.Goals as goal

pub returns-then-in_ring : goal.returns-then-in_ring
returns-then-in_ring c =
    not_new _ _ (sym c.if-in_ring.true ∙ c.in_ring.ensures)

pub returns-in_default : goal.returns-in_default
returns-in_default c =
    let s = decode c.args.store.now in
    let p = pair_in c.args.pair in
    new_ring s (slot by_pair p s.dispatchers) p c.args.id refl (found_none by_pair p s.dispatchers (sym c.in_default.is ∙ c.find_dispatcher.ensures))

pub ring_count-requires : goal.ring_count-requires
ring_count-requires c =
    dispatcher_in c.requires c.in-Some.d (found_some by_pair (pair_in c.args.pair) (decode c.args.store.now).dispatchers (sym c.in-Some.is ∙ c.find_dispatcher.ensures)).1

pub returns : goal.returns
returns c =
    let s = decode c.args.store.now in
    let p = pair_in c.args.pair in
    let f = found_some by_pair p s.dispatchers (sym c.in-Some.is ∙ c.find_dispatcher.ensures) in
    ap (λ (n : ℕ). leb 32 n) (c.ring_count.ensures ∙ ap (λ (d : Dispatcher). length d.attached) (sym (dispatcher_found s c.in-Some.d p f.0 f.1)))
    ∙ new_by _ _ (sym c.if-in_ring.false ∙ c.in_ring.ensures)
