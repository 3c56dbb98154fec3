-- `close::close` meets its contract: the id is not live, or its close is that of the consumer at its slot.
use mathlib.Core.Path.{refl, sym, ap, ◌∙◌}
use Prim.Native.Nat.{ℕ}
use Rattle.rules.specs.Calls.Call.{Close}
use Rattle.layout.specs.Calls.{answer, after}
use Rattle.layout.specs.Layout.{decode}
use Rattle.layout.proofs.Store.{put_decode}
use Rattle.operation_laws.proofs.Frame.{canon_of, done_with}
use Rattle.close.proofs.Closes.{value_not_closed, close_missing}
use Rattle.rules.specs.State.{by_id}
use Rattle.store.proofs.Founds.{found_none}
use Rattle.consumer.proofs.Found.{found_live}
use Rattle.close.proofs.close.Goals as goal

pub find_consumer-requires : goal.find_consumer-requires
find_consumer-requires c = canon_of c.entries-e.result c.args.store.now c.requires c.entries-e.ensures

pub returns-in_default : goal.returns-in_default
returns-in_default c =
    let ws = c.args.store.now in
    let id = c.args.consumer in
    done_with ws _ c.requires 0 0
    (close_missing (decode ws) id (found_none by_id id (decode ws).consumers (sym c.in_default.is ∙ c.find_consumer.ensures.slot)))
    value_not_closed refl (sym (put_decode (canon_of c.entries-e.result ws c.requires c.entries-e.ensures)))

pub close_live-requires : goal.close_live-requires
close_live-requires c = (found_live c.requires c.entries-e.ensures (sym c.in-Some.is ∙ c.find_consumer.ensures.slot)).0

pub returns : goal.returns
returns c =
    let ws = c.args.store.now in
    let id = c.args.consumer in
    let q = (found_live c.requires c.entries-e.ensures (sym c.in-Some.is ∙ c.find_consumer.ensures.slot)).1 in
    record {
      answer = c.close_live.ensures.answer ∙ ap (λ (j : ℕ). answer ws (Close j)) q;
      words = c.close_live.ensures.words ∙ ap (λ (j : ℕ). after ws (Close j)) q;
    }
