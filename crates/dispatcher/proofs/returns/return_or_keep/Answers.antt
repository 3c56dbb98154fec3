-- `dispatcher::returns::return_or_keep` meets its contract: by who holds the entry.
use mathlib.Core.Path.{◌≡◌, sym, ap, ◌∙◌}
use mathlib.Core.Bool.{true, false}
use mathlib.Core.List.{[], ◌∷◌, ◌++◌}
use native.Mathlib.Omega.{arith}
use lib.Dec.{eqb}
use lib.ListN.{get_or, set}
use borrow.Author.Tests.{eq-eqb, ne_eqb}
use Rattle.rules.specs.State.{Held, Dispatcher}
use Rattle.rules.specs.Dispatcher.{with_places}
use Rattle.layout.specs.Layout.{decode, put}
use Rattle.layout.specs.Fields.{zero_held, dispatcher_nth, set_dispatcher}
use Rattle.dispatcher.proofs.Returning.{looked_own, looked_other}
use Rattle.dispatcher.proofs.returns.return_or_keep.Goals as goal

pub returns-then-h-id : goal.returns-then-h-id
returns-then-h-id c =
    let x = dispatcher_nth (decode c.args.store.now) c.args.d in
    let h = get_or x.in_flight c.args.j zero_held in
    let q = c.load_held-h.ensures in
    let t : eqb c.args.id h.holder ≡ true = eq-eqb c.args.id h.holder (sym c.if-h-id.true ∙ ap (λ (a : Held). a.holder) q) in
    record {
      count = rw t;
      words = c.append_queue.ensures
          ∙ ap (λ (y : Dispatcher). put c.args.store.now (set_dispatcher (decode c.args.store.now) c.args.d y))
          (ap (λ (a : Held). with_places x (x.redelivery ++ a.position ∷ []) x.in_flight) q ∙ looked_own c.args.id c.args.j c.args.kept x t);
    }

pub save_held-requires : goal.save_held-requires
save_held-requires c = let p = c.requires in let a = p.1 in let b = p.2 in (p.0, omega (arith, a, b))

pub returns : goal.returns
returns c =
    let x = dispatcher_nth (decode c.args.store.now) c.args.d in
    let h = get_or x.in_flight c.args.j zero_held in
    let q = c.load_held-h.ensures in
    let t : eqb c.args.id h.holder ≡ false = ne_eqb c.args.id h.holder (λ z. c.if-h-id.false (ap (λ (a : Held). a.holder) q ∙ sym z)) in
    record {
      count = rw t;
      words = c.save_held.ensures
          ∙ ap (λ (y : Dispatcher). put c.args.store.now (set_dispatcher (decode c.args.store.now) c.args.d y))
          (ap (λ (a : Held). with_places x x.redelivery (set x.in_flight c.args.kept a)) q ∙ looked_other c.args.id c.args.j c.args.kept x t);
    }
