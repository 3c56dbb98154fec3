-- `redeliver::redeliver` meets its contract: the id is not live, the list is not of the form, or its redeliver is
-- that of the consumer at its slot.
use Rattle.std.proofs.Common.{rules}
use mathlib.Core.Path.{◌≡◌, sym, ap₂, ◌∙◌}
use Rattle.rules.specs.Calls.Call.{Redeliver}
use Rattle.layout.specs.Calls.{answer, after}
use Rattle.layout.specs.Layout.{decode}
use Rattle.operation_laws.proofs.Frame.{canon_of, refused_with}
use Rattle.redeliver.proofs.Refusals.{redeliver_missing, redeliver_ill}
use Rattle.rules.specs.State.{by_id}
use Rattle.store.proofs.Founds.{found_some, found_none}
use Rattle.consumer.proofs.Found.{found_live}
use Rattle.redeliver.proofs.redeliver.Goals as goal

pub find_consumer-requires : goal.find_consumer-requires
find_consumer-requires c = canon_of c.entries-e.result c.args.store.now c.requires c.entries-e.ensures

pub returns-in_default : goal.returns-in_default
returns-in_default c =
    let a = c.args in
    let s = decode a.store.now in
    refused_with a.store.now _ c.requires (redeliver_missing s a.consumer a.list.now (found_none by_id a.consumer s.consumers (sym c.in_default.is ∙ c.find_consumer.ensures.slot)))

pub returns-in_default-of : goal.returns-in_default-of
returns-in_default-of c =
    let a = c.args in
    let s = decode a.store.now in
    let f = found_some by_id a.consumer s.consumers (sym c.in-Some.is ∙ c.find_consumer.ensures.slot) in
    refused_with a.store.now _ c.requires (redeliver_ill s c.in-Some.i a.consumer a.list.now f.0 f.1 c.in_default-of.ensures)

pub redeliver_live-requires : goal.redeliver_live-requires
redeliver_live-requires c = (found_live c.requires c.entries-e.ensures (sym c.in-Some.is ∙ c.find_consumer.ensures.slot)).0

pub returns : goal.returns
returns c =
    let a = c.args in
    let s = decode a.store.now in
    let q = (found_live c.requires c.entries-e.ensures (sym c.in-Some.is ∙ c.find_consumer.ensures.slot)).1 in
    let r = c.redeliver_live.ensures in
    let list : c.in-Some-of.groups.list.now ≡ a.list.now = search (rules, c.in-Some-of.ensures) in
    record {
      answer = r.answer ∙ ap₂ (λ j l. answer a.store.now (Redeliver j l)) q list;
      words = r.words ∙ ap₂ (λ j l. after a.store.now (Redeliver j l)) q list;
    }
