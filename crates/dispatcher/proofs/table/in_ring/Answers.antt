-- `dispatcher::table::in_ring` meets its contract: the ring of the pair's slot is asked, or there is none.
use mathlib.Core.Path.{◌≡◌, sym, ap, ◌∙◌}
use mathlib.Core.List.{List}
use Prim.Native.Nat.{ℕ, ◌<◌}
use lib.ListN.{length}
use Rattle.std.specs.Prelude.{is_some}
use Rattle.std.specs.declared.option.Option.{Option}
use Rattle.rules.specs.Table.{any, member}
use Rattle.rules.specs.State.{Dispatcher, by_pair}
use Rattle.layout.specs.Layout.{decode}
use Rattle.layout.specs.Fields.{dispatcher_nth}
use Rattle.layout.proofs.Placed.{dispatcher_in}
use Rattle.store.specs.Find.{slot}
use Rattle.store.proofs.Founds.{found_some, found_none}
use Rattle.dispatcher.specs.Pairs.{pair_in}
use Rattle.dispatcher.proofs.Rings.{dispatcher_is, ring_none, member_found}
use Rattle.dispatcher.proofs.table.in_ring.Goals as goal

pub find_ring-requires : goal.find_ring-requires
find_ring-requires c =
    let f = found_some by_pair (pair_in c.args.pair) (decode c.args.store.now).dispatchers (sym c.in-Some.is ∙ c.find_dispatcher.ensures) in
    dispatcher_in c.requires _ f.1

pub returns-in_default : goal.returns-in_default
unfolding member any
returns-in_default c =
    let s = decode c.args.store.now in
    let p = pair_in c.args.pair in
    sym (ap (λ (l : List ℕ). member c.args.id l) (ring_none s p (found_none by_pair p s.dispatchers (sym c.in_default.is ∙ c.find_dispatcher.ensures))))

pub returns : goal.returns
returns c =
    let s = decode c.args.store.now in
    let p = pair_in c.args.pair in
    let f = found_some by_pair p s.dispatchers (sym c.in-Some.is ∙ c.find_dispatcher.ensures) in
    let e : slot by_pair p s.dispatchers ≡ c.in-Some.d = sym f.0 in
    let h : slot by_pair p s.dispatchers < length s.dispatchers = rw e f.1 in
    c.is_some.ensures
    ∙ ap (λ (o : Option ℕ). is_some o) c.find_ring.ensures
    ∙ member_found c.args.id (dispatcher_nth s c.in-Some.d).attached
    ∙ ap (λ (k : ℕ). member c.args.id (dispatcher_nth s k).attached) f.0
    ∙ ap (λ (d : Dispatcher). member c.args.id d.attached) (sym (dispatcher_is s p h))
