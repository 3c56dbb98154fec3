-- `seek::seek` meets its contract: the id is not live, or its seek is that of the consumer at its slot.
use mathlib.Core.Path.{sym, ap, ◌∙◌}
use Prim.Native.Nat.{ℕ}
use Rattle.layout.specs.Layout.{decode}
use Rattle.layout.specs.Calls.{answer, after}
use Rattle.command_parts.specs.Parts.{target_of}
use Rattle.seek.specs.Targets.{seek_to}
use Rattle.operation_laws.proofs.Frame.{canon_of, refused_with}
use Rattle.seek.proofs.Seeks.{seek_missing}
use Rattle.rules.specs.State.{by_id}
use Rattle.store.proofs.Founds.{found_none}
use Rattle.consumer.proofs.Found.{found_live}
use Rattle.seek.proofs.seek.Goals as goal

pub find_consumer-requires : goal.find_consumer-requires
find_consumer-requires c = canon_of c.entries-e.result c.args.store.now c.requires c.entries-e.ensures

pub returns-in_default : goal.returns-in_default
returns-in_default c =
    let ws = c.args.store.now in
    let id = c.args.command.consumer in
    refused_with ws _ c.requires
    (seek_missing (decode ws) id (target_of c.args.command.target) (found_none by_id id (decode ws).consumers (sym c.in_default.is ∙ c.find_consumer.ensures.slot)))

pub seek_live-requires : goal.seek_live-requires
seek_live-requires c = (found_live c.requires c.entries-e.ensures (sym c.in-Some.is ∙ c.find_consumer.ensures.slot)).0

pub returns : goal.returns
returns c =
    let ws = c.args.store.now in
    let id = c.args.command.consumer in
    let i = c.in-Some.i in
    let target = c.args.command.target in
    let q = (found_live c.requires c.entries-e.ensures (sym c.in-Some.is ∙ c.find_consumer.ensures.slot)).1 in
    record { answer = c.seek_live.ensures.answer ∙ ap (λ (j : ℕ). answer ws (seek_to j target)) q; words = c.seek_live.ensures.words ∙ ap (λ (j : ℕ). after ws (seek_to j target)) q }
