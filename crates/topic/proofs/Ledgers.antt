-- The ledger of a topic, by the topic's slot.
use mathlib.Core.Path.{◌≡◌}
use mathlib.Core.List.{[]}
use Prim.Native.Nat.{ℕ, ◌≤◌, ◌<◌}
use lib.ListN.{length}
use Rattle.rules.specs.Table.{or_else}
use Rattle.rules.specs.State.{State, by_number, topic_of, ledger_of}
use Rattle.layout.specs.Fields.{zero_topic, topic_nth}
use Rattle.store.specs.Find.{slot}
use Rattle.store.proofs.Finding.{slot_found, slot_none}

-- the ledger of a topic that exists
pub ledger_at : (s : State) (topic : ℕ) → slot by_number topic s.topics < length s.topics
    → ledger_of s topic ≡ (topic_nth s (slot by_number topic s.topics)).messages
unfolding ledger_of topic_of or_else
ledger_at s topic h = rw (slot_found by_number topic s.topics zero_topic h)

-- no ledger where the topic does not exist
pub ledger_none : (s : State) (topic : ℕ) → length s.topics ≤ slot by_number topic s.topics → ledger_of s topic ≡ []
unfolding ledger_of topic_of or_else
ledger_none s topic h = rw (slot_none by_number topic s.topics h)

-- the same, by its slot as it was found
pub ledger_here : (s : State) (topic t : ℕ) → t ≡ slot by_number topic s.topics → t < length s.topics → ledger_of s topic ≡ (topic_nth s t).messages
ledger_here s topic t e h = rw e (ledger_at s topic (rw e at h))
