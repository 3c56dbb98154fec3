-- `ack::ack` meets its contract: the id is not live, the list is not of the form, or the ack of the consumer at its slot.
use mathlib.Core.Path.{sym, ap₂, ◌∙◌}
use mathlib.Core.List.{List}
use Prim.Native.Nat.{ℕ}
use Rattle.rules.specs.Calls.Call.{Ack}
use Rattle.layout.specs.Layout.{decode}
use Rattle.layout.specs.Calls.{answer, after}
use Rattle.operation_laws.proofs.Frame.{canon_of, refused_with}
use Rattle.ack.proofs.Outcomes.{ack_dead, ack_formless}
use Rattle.rules.specs.State.{by_id}
use Rattle.store.proofs.Founds.{found_some, found_none}
use Rattle.consumer.proofs.Found.{found_live}
use Rattle.ack.proofs.ack.Goals as goal

pub find_consumer-requires : goal.find_consumer-requires
find_consumer-requires c = canon_of c.entries-e.result c.args.store.now c.requires c.entries-e.ensures

pub returns-in_default : goal.returns-in_default
returns-in_default c =
    let a = c.args in
    let s = decode a.store.now in
    refused_with a.store.now _ c.requires
    (ack_dead s a.consumer a.list.now (found_none by_id a.consumer s.consumers (sym c.in_default.is ∙ c.find_consumer.ensures.slot)))

pub returns-in_default-of : goal.returns-in_default-of
returns-in_default-of c =
    let a = c.args in
    let s = decode a.store.now in
    let f = found_some by_id a.consumer s.consumers (sym c.in-Some.is ∙ c.find_consumer.ensures.slot) in
    refused_with a.store.now _ c.requires (ack_formless s c.in-Some.i a.consumer a.list.now f.0 f.1 c.in_default-of.ensures)

pub ack_live-requires : goal.ack_live-requires
ack_live-requires c = (found_live c.requires c.entries-e.ensures (sym c.in-Some.is ∙ c.find_consumer.ensures.slot)).0

pub returns : goal.returns
returns c =
    let a = c.args in
    let ws = a.store.now in
    let q = (found_live c.requires c.entries-e.ensures (sym c.in-Some.is ∙ c.find_consumer.ensures.slot)).1 in
    record {
      answer = c.ack_live.ensures.answer ∙ ap₂ (λ (j : ℕ) (list : List ℕ). answer ws (Ack j list)) q c.in-Some-of.ensures;
      words = c.ack_live.ensures.words ∙ ap₂ (λ (j : ℕ) (list : List ℕ). after ws (Ack j list)) q c.in-Some-of.ensures;
    }
