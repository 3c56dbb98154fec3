-- The state that an append leaves: its ledgers, and that no dispatcher changes its pair or its ring.
use Prim.Native.Nat.{ℕ}
use mathlib.Core.Path.{◌≡◌, refl}
use mathlib.Core.Bool.{cond}
use mathlib.Core.List.{[], ◌∷◌, ◌++◌, map}
use mathlib.Core.Option
use mathlib.Core.Option.{Option, none, some}
use lib.Dec.{eqb}
use lib.ListN.{length}
use Rattle.rules.specs.Table.{or_else, find, put}
use Rattle.rules.specs.State.{StoredMessage, Pair, Dispatcher, State, new_dispatcher, by_number, by_pair, topic_of, ledger_of, dispatcher_of, dispatcher, with_topics, with_dispatchers}
use Rattle.rules.specs.Ledger.{appended}
use Rattle.rules.specs.Dispatcher.{with_marks}
use Rattle.rules.specs.Commands.{with_new_entry}
use Rattle.rules.proofs.Table.{by_test, decides_numbers, find_put, find_map}

-- the state that an append leaves
abbrev pub entry_added : State → ℕ → StoredMessage → State
entry_added s topic m =
    with_dispatchers (with_topics s (put by_number (appended m (record { number = topic; messages = ledger_of s topic })) s.topics))
    (map (with_new_entry topic m.id) s.dispatchers)

module _ (s : State) (topic : ℕ) (m : StoredMessage) where
  -- the ledgers after it
  pub ledger_after : (n : ℕ) → ledger_of (entry_added s topic m) n ≡ cond (eqb n topic) (ledger_of s topic ++ m ∷ []) (ledger_of s n)
  unfolding ledger_of topic_of with_dispatchers with_topics or_else appended
  ledger_after n =
      rw (find_put by_number decides_numbers n (appended m (record { number = topic; messages = ledger_of s topic })) s.topics)
      (by_test (eqb n topic) (λ t. rw t) (λ t. rw t))

  -- a dispatcher's pair stays
  pub entry_pair : (d : Dispatcher) → (with_new_entry topic m.id d).pair ≡ d.pair
  unfolding with_new_entry with_marks
  entry_pair d = by_test (eqb topic d.pair.topic) (λ t. rw t) (λ t. rw t)

  -- so does its ring
  entry_ring : (d : Dispatcher) → (with_new_entry topic m.id d).attached ≡ d.attached
  unfolding with_new_entry with_marks
  entry_ring d = by_test (eqb topic d.pair.topic) (λ t. rw t) (λ t. rw t)

  -- so no ring changes
  pub ring_after : (p : Pair) → (dispatcher (entry_added s topic m) p).attached ≡ (dispatcher s p).attached
  unfolding dispatcher dispatcher_of with_dispatchers or_else new_dispatcher
  ring_after p = rw (find_map by_pair (with_new_entry topic m.id) entry_pair p s.dispatchers) (go (find by_pair p s.dispatchers))
    where
      go : (o : Option Dispatcher) → (or_else (Option.map (with_new_entry topic m.id) o) (new_dispatcher p (length (ledger_of (entry_added s topic m) p.topic)))).attached
          ≡ (or_else o (new_dispatcher p (length (ledger_of s p.topic)))).attached
      go none = refl
      go (some d) = entry_ring d
