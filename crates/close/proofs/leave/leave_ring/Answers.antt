-- `close::leave::leave_ring` meets its contract: the id leaves the ring, then next is set.
use mathlib.Core.Path.{refl, sym, ap, ◌∙◌}
use Prim.Native.Nat.{ℕ}
use native.Mathlib.Omega.{arith}
use lib.ListN.{length}
use borrow.Author.Tests.{lt-ltb}
use Rattle.std.specs.Prelude.{is_some}
use Rattle.std.specs.declared.option.Option.{Option}
use Rattle.rules.specs.State.{Dispatcher}
use Rattle.layout.specs.Layout.{decode, put}
use Rattle.layout.specs.Fields.{dispatcher_nth, set_dispatcher}
use Rattle.store.specs.Find.{slot}
use Rattle.store.proofs.Founds.{found_is, found_some}
use Rattle.dispatcher.specs.Held.{by_value}
use Rattle.close.proofs.Rings.{ring_there, ring_left, ringless_in, ring_words}
use Rattle.close.proofs.leave.leave_ring.Goals as goal

pub unwrap-j-requires : goal.unwrap-j-requires
unwrap-j-requires c =
    let x = dispatcher_nth (decode c.args.store.now) c.args.d in
    let j = slot by_value c.args.id x.attached in
    ap (λ (o : Option ℕ). is_some o) c.find_ring.ensures
    ∙ found_is by_value c.args.id x.attached
    ∙ lt-ltb j (length x.attached) (ring_there c.args.id j x c.requires.1 refl)

pub overflow_sub-ring_count : goal.overflow_sub-ring_count
overflow_sub-ring_count c =
    let f = found_some by_value c.args.id (dispatcher_nth (decode c.args.store.now) c.args.d).attached (sym c.unwrap-j.ensures ∙ c.find_ring.ensures) in
    let n = c.ring_count.ensures in
    omega (arith, f.1)

pub remove_ring-requires : goal.remove_ring-requires
remove_ring-requires c =
    (c.requires.0, (found_some by_value c.args.id (dispatcher_nth (decode c.args.store.now) c.args.d).attached (sym c.unwrap-j.ensures ∙ c.find_ring.ensures)).1)

pub set_next-requires : goal.set_next-requires
set_next-requires c =
    let f = found_some by_value c.args.id (dispatcher_nth (decode c.args.store.now) c.args.d).attached (sym c.unwrap-j.ensures ∙ c.find_ring.ensures) in
    ringless_in c.args.d c.requires.0 c.unwrap-j.result f.1 c.remove_ring.ensures

pub returns : goal.returns
returns c =
    let a = c.args in
    let s = decode a.store.now in
    let x = dispatcher_nth s a.d in
    let f = found_some by_value a.id x.attached (sym c.unwrap-j.ensures ∙ c.find_ring.ensures) in
    ring_words a.d c.requires.0 c.unwrap-j.result f.1 c.remove_ring.ensures c.next_of-to.result c.set_next.ensures
    ∙ ap (λ (y : Dispatcher). put a.store.now (set_dispatcher s a.d y))
    (ring_left a.id c.unwrap-j.result x c.requires.1 f.0 c.ring_count.result c.next.result c.next_of-to.result c.ring_count.ensures c.next.ensures c.next_of-to.ensures)
