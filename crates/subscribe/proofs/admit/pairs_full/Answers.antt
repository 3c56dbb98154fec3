-- `subscribe::admit::pairs_full` meets its contract: the number counts for a new pair alone.
use mathlib.Core.Path.{sym, ap, ◌∙◌}
use mathlib.Core.Bool.{not}
use Prim.Native.Nat.{ℕ}
use lib.Dec.{leb}
use Rattle.std.specs.Prelude.{is_some}
use Rattle.std.specs.declared.option.Option.{Option}
use Rattle.rules.specs.State.{by_pair, dispatcher_of}
use Rattle.layout.specs.Layout.{decode}
use Rattle.layout.specs.Fields.{zero_dispatcher}
use Rattle.store.proofs.Founds.{found_find}
use Rattle.dispatcher.specs.Pairs.{pair_in}
use Rattle.subscribe.proofs.Subscribing.{not_new, new_by}
use Rattle.subscribe.proofs.admit.pairs_full.Goals as goal

pub returns-then-is_none : goal.returns-then-is_none
unfolding dispatcher_of
returns-then-is_none c =
    let l = (decode c.args.store.now).dispatchers in
    ap (λ (n : ℕ). leb 8 n) c.dispatcher_count.ensures
    ∙ new_by _ _ (sym (c.is_none.ensures ∙ ap not c.if-is_none.true) ∙ ap (λ (o : Option ℕ). is_some o) c.find_dispatcher.ensures
    ∙ found_find by_pair (pair_in c.args.pair) l zero_dispatcher)

pub returns-else-is_none : goal.returns-else-is_none
unfolding dispatcher_of
returns-else-is_none c =
    let l = (decode c.args.store.now).dispatchers in
    c.if-is_none.false
    ∙ not_new _ _ (sym (c.is_none.ensures ∙ ap not c.if-is_none.false) ∙ ap (λ (o : Option ℕ). is_some o) c.find_dispatcher.ensures
    ∙ found_find by_pair (pair_in c.args.pair) l zero_dispatcher)
