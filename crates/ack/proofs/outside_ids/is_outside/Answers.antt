-- `ack::outside_ids::is_outside` meets its contract: the slot lies among the outside ids, or not.
use mathlib.Core.Path.{ap, ◌∙◌}
use Prim.Native.Nat.{ℕ}
use Rattle.std.specs.Prelude.{is_some}
use Rattle.std.specs.declared.option.Option.{Option}
use Rattle.layout.specs.Layout.{decode}
use Rattle.layout.specs.Fields.{dispatcher_nth}
use Rattle.rules.specs.Dispatcher.{is_outside}
use Rattle.store.proofs.Founds.{found_is}
use Rattle.dispatcher.specs.Outside.{by_itself}
use Rattle.ack.proofs.Counts.{slot_any}
use Rattle.ack.proofs.outside_ids.is_outside.Goals as goal

pub returns : goal.returns
unfolding is_outside
returns c =
    let i = c.args.id in
    let l = (dispatcher_nth (decode c.args.store.now) c.args.d).outside in
    c.is_some.ensures ∙ ap (λ (o : Option ℕ). is_some o) c.find_outside.ensures ∙ found_is by_itself i l ∙ slot_any i l
