-- The rule of seek by the consumer's slot, and the ledger that it seeks in.
use mathlib.Core.Path.{◌≡◌, refl, sym, ap, ◌∙◌}
use mathlib.Core.List.{List, []}
use Prim.Native.Nat.{ℕ, ◌≤◌, ◌<◌}
use lib.ListN.{length}
use Rattle.rules.specs.State.{Id, StoredMessage, State, by_id, by_number, ledger_of, put_consumer}
use Rattle.rules.specs.Ledger.{seek_position, first_at_or_after}
use Rattle.rules.specs.Outcome.Outcome.{refused, done}
use Rattle.rules.specs.Outcome.Value.{cursor_after}
use Rattle.rules.specs.Commands.{Target, target_position, seek, with_reading}
use Rattle.rules.specs.Calls.{rule}
use Rattle.rules.specs.Calls.Call.{Seek}
use Rattle.rules.specs.Valid.{Valid}
use Rattle.layout.specs.Fields.{topic_nth, consumer_nth, set_consumer}
use Rattle.store.specs.Find.{slot}
use Rattle.topic.proofs.Ledgers.{ledger_at, ledger_none}
use Rattle.operation_laws.proofs.Frame.{live_found, live_missing, set_consumer_put}

-- an id that is not live
pub seek_missing : (s : State) (id : ℕ) (target : Target) → length s.consumers ≤ slot by_id id s.consumers → rule s (Seek id target) ≡ refused 4
unfolding rule seek
seek_missing s id target h = live_missing s (slot by_id id s.consumers) id refl _ h

module _ (s : State) (i id : ℕ) (target : Target) (e : i ≡ slot by_id id s.consumers) (q : (consumer_nth s i).id ≡ id) (v : Valid s) (h : i < length s.consumers) where
  -- the rule with the consumer at hand
  at_hand : (k : ℕ) → target_position (ledger_of s (consumer_nth s i).pair.topic) target ≡ k
      → rule s (Seek id target) ≡ done (cursor_after k) (put_consumer s (with_reading (consumer_nth s i) k []))
  unfolding rule seek
  at_hand k p = rw (← p) (live_found s i id e _ h)

  -- a live consumer
  pub seek_found : (k : ℕ) → k ≡ target_position (ledger_of s (consumer_nth s i).pair.topic) target
      → rule s (Seek id target) ≡ done (cursor_after k) (set_consumer s i (with_reading (consumer_nth s i) k []))
  unfolding with_reading
  seek_found k p =
      at_hand k (sym p)
      ∙ ap (done (cursor_after k)) (sym (set_consumer_put s i id e (with_reading (consumer_nth s i) k []) v h q))

-- ---- the ledger of a topic

-- the position in the ledger of a topic that exists
pub position_there : (s : State) (t topic k : ℕ) (i : Id) → t ≡ slot by_number topic s.topics → t < length s.topics
    → k ≡ seek_position i (topic_nth s t).messages → k ≡ seek_position i (ledger_of s topic)
position_there s t topic k i e h p =
    let m : ledger_of s topic ≡ (topic_nth s t).messages = rw e (ledger_at s topic (rw e at h)) in
    p ∙ ap (λ (l : List StoredMessage). seek_position i l) (sym m)

-- in a ledger that does not exist it is the length, 0
pub position_none : (s : State) (t topic : ℕ) (i : Id) → t ≡ slot by_number topic s.topics → length s.topics ≤ t → 0 ≡ seek_position i (ledger_of s topic)
unfolding seek_position first_at_or_after
position_none s t topic i e h = rw (ledger_none s topic (rw e at h))
