-- `flow::flow` meets its contract: the id is not live, or its flow is that of the consumer at its slot.
use mathlib.Core.Path.{sym, ap, ◌∙◌}
use Prim.Native.Nat.{ℕ}
use native.Mathlib.Omega.{arith}
use Rattle.layout.specs.Layout.{decode}
use Rattle.rules.specs.Calls.Call.{Flow}
use Rattle.layout.specs.Calls.{answer, after}
use Rattle.operation_laws.proofs.Frame.{canon_of, refused_with}
use Rattle.flow.proofs.Grants.{flow_missing}
use Rattle.rules.specs.State.{by_id}
use Rattle.store.proofs.Founds.{found_none}
use Rattle.consumer.proofs.Found.{found_live}
use Rattle.flow.proofs.flow.Goals as goal

pub find_consumer-requires : goal.find_consumer-requires
find_consumer-requires c = canon_of c.entries-e.result c.args.store.now c.requires c.entries-e.ensures

pub returns-in_default : goal.returns-in_default
returns-in_default c =
    let ws = c.args.store.now in
    let id = c.args.consumer in
    refused_with ws _ c.requires (flow_missing (decode ws) id c.args.grant (found_none by_id id (decode ws).consumers (sym c.in_default.is ∙ c.find_consumer.ensures.slot)))

pub flow_live-requires : goal.flow_live-requires
flow_live-requires c = ((found_live c.requires c.entries-e.ensures (sym c.in-Some.is ∙ c.find_consumer.ensures.slot)).0, omega arith)

pub returns : goal.returns
returns c =
    let ws = c.args.store.now in
    let id = c.args.consumer in
    let i = c.in-Some.i in
    let grant = c.args.grant in
    let q = (found_live c.requires c.entries-e.ensures (sym c.in-Some.is ∙ c.find_consumer.ensures.slot)).1 in
    record { answer = c.flow_live.ensures.answer ∙ ap (λ (j : ℕ). answer ws (Flow j grant)) q; words = c.flow_live.ensures.words ∙ ap (λ (j : ℕ). after ws (Flow j grant)) q }
