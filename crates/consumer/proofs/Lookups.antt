-- What a lookup says of a consumer, by its slot.
use mathlib.Core.Path.{◌≡◌, ap, ◌∙◌}
use Prim.Native.Nat.{ℕ}
use lib.Dec.{ltb}
use lib.ListN.{length}
use borrow.Author.Tests.{ltb-true, ltb-false}
use Rattle.std.specs.declared.option.Option.{Option}
use Rattle.rules.specs.State.{Consumer, State, by_id, consumer_of}
use Rattle.rules.specs.Outcome.{Outcome, found_or_4, with_live}
use Rattle.rules.proofs.Table.{by_test}
use Rattle.layout.specs.Fields.{zero_consumer}
use Rattle.store.specs.Find.{slot}
use Rattle.store.specs.Found.{found}
use Rattle.store.proofs.Finding.{slot_found, slot_none}
use Rattle.consumer.specs.Lookup.{lookup_outcome}

-- a lookup comes to what the rules have: refusal 4, or what is done with the consumer
pub lookup_rules : (s : State) (id : ℕ) {r : Option ℕ} → r ≡ found by_id id s.consumers → (f : Consumer → Outcome)
    → lookup_outcome s.consumers f r ≡ with_live s id f
unfolding found lookup_outcome with_live consumer_of found_or_4
lookup_rules s id e f =
    ap (lookup_outcome s.consumers f) e
    ∙ by_test (ltb (slot by_id id s.consumers) (length s.consumers))
    (λ t. rw (t, slot_found by_id id s.consumers zero_consumer (ltb-true (slot by_id id s.consumers) (length s.consumers) t)))
    (λ t. rw (t, slot_none by_id id s.consumers (ltb-false (slot by_id id s.consumers) (length s.consumers) t)))
