-- `consumer::fields::shared_dispatcher` meets its contract: a valid state has a dispatcher for a shared consumer's pair.
use mathlib.Core.Path.{refl, sym, ap, ◌∙◌}
use Prim.Native.Nat.{ℕ}
use lib.ListN.{length}
use borrow.Author.Tests.{lt-ltb}
use Rattle.std.specs.Prelude.{is_some}
use Rattle.std.specs.declared.option.Option.{Option}
use Rattle.rules.specs.State.{by_pair}
use Rattle.layout.specs.Layout.{decode}
use Rattle.layout.specs.Fields.{consumer_nth}
use Rattle.store.specs.Find.{slot}
use Rattle.store.proofs.Founds.{found_is, found_some}
use Rattle.operation_laws.proofs.Frame.{shared_found}
use Rattle.consumer.proofs.Found.{live_in, live_consumer}
use Rattle.consumer.proofs.fields.shared_dispatcher.Goals as goal

pub dispatcher_of-requires : goal.dispatcher_of-requires
dispatcher_of-requires c = live_in c.requires.live

pub unwrap-requires : goal.unwrap-requires
unwrap-requires c =
    let s = decode c.args.store.now in
    let p = (consumer_nth s c.args.i).pair in
    ap (λ (o : Option ℕ). is_some o) c.dispatcher_of.ensures
    ∙ found_is by_pair p s.dispatchers
    ∙ lt-ltb (slot by_pair p s.dispatchers) (length s.dispatchers)
    (shared_found s (slot by_pair p s.dispatchers) _ refl (consumer_nth s c.args.i) (live_consumer c.requires.live) c.requires.kind refl)

pub returns : goal.returns
returns c =
    let s = decode c.args.store.now in
    found_some by_pair (consumer_nth s c.args.i).pair s.dispatchers (sym c.unwrap.ensures ∙ c.dispatcher_of.ensures)
