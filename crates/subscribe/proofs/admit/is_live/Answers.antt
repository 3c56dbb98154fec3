-- `subscribe::admit::is_live` meets its contract: the lookup says it.
use mathlib.Core.Path.{ap, ◌∙◌}
use Prim.Native.Nat.{ℕ}
use Rattle.std.specs.Prelude.{is_some}
use Rattle.std.specs.declared.option.Option.{Option}
use Rattle.rules.specs.State.{by_id, consumer_of}
use Rattle.layout.specs.Layout.{decode}
use Rattle.layout.specs.Fields.{zero_consumer}
use Rattle.store.proofs.Founds.{found_find}
use Rattle.subscribe.proofs.admit.is_live.Goals as goal

pub returns : goal.returns
unfolding consumer_of
returns c =
    c.is_some.ensures ∙ ap (λ (o : Option ℕ). is_some o) c.find_consumer.ensures.slot
    ∙ found_find by_id c.args.id (decode c.args.store.now).consumers zero_consumer
