-- What a plain consumer reads, of every state: where a seek by id takes it, and what the next push sends it. So one that seeks
-- past the last entry waits there, and is then sent the next entry and no other. Its proof is proofs/Readers.antt.
use Rattle.std.specs.Prelude.{ℕ, ◌-◌, ◌≤◌, ◌<◌, ◌≡◌, true, false, List, [], ◌∷◌, ◌++◌, map, eqb, length, take, drop}
use Rattle.std.proofs.Math.Option.{some}
use Rattle.rules.specs.Permits.{zero_permits}
use Rattle.rules.specs.Table.{keep, member}
use Rattle.rules.specs.State.{Id, StoredMessage, Pair, Consumer, State, consumer_of, ledger_of, dispatcher}
use Rattle.rules.specs.State.Kind.{plain}
use Rattle.rules.specs.Ledger.{message_at, at_or_after, seek_position}
use Rattle.rules.specs.Outcome.{Dispatch}
use Rattle.rules.specs.Commands.Target.{to_id}
use Rattle.rules.specs.Push.{push_pending}
use Rattle.rules.specs.Calls.{rule, run}
use Rattle.rules.specs.Calls.Call.{Append, Seek}
use Rattle.rules.specs.Demand.{is_done}

-- where a seek by id goes in a ledger: no entry before is at or after the id, and the one there is, unless it is the end
pub record GoesTo (x : Id) (l : List StoredMessage) (k : ℕ) : Type 0 where
  pub not_past : k ≤ length l
  pub none_before : (j : ℕ) → j < k → at_or_after (message_at l j).id x ≡ false
  pub there : k < length l → at_or_after (message_at l k).id x ≡ true

-- an id past the end of a ledger: no entry is at or after it
abbrev pub PastEnd : Id → List StoredMessage → Type 0
PastEnd x l = (k : ℕ) → k < length l → at_or_after (message_at l k).id x ≡ false

-- a live plain consumer that no ring names
pub record Reader (s : State) (i : ℕ) (c : Consumer) : Type 0 where
  pub live : consumer_of s i ≡ some c
  pub is_plain : c.kind ≡ plain
  pub in_no_ring : (p : Pair) → member i (dispatcher s p).attached ≡ false

-- what is due to a consumer, in dispatch order: a push sends just this, or is refused
unfoldable pub due_to : ℕ → State → List StoredMessage
due_to i s =
    map (λ (x : Dispatch). x.message) (keep (λ (x : Dispatch). eqb i x.consumer) (push_pending s).dispatched)

-- what is ahead of a reader in a ledger: what it handed back, then the entries from its cursor on
unfoldable pub ahead : List StoredMessage → Consumer → List StoredMessage
ahead l c = map (message_at l) c.nacked ++ drop c.cursor l

-- what is claimed
pub record Reads : Type 0 where
  -- a seek by id goes to the first entry at or after it, else to the end
  pub seek_goes : (x : Id) (l : List StoredMessage) → GoesTo x l (seek_position x l)
  pub only_there : (x : Id) (l : List StoredMessage) (k : ℕ) → GoesTo x l k → k ≡ seek_position x l
  -- a push sends a reader what is ahead of it, as much as its permits above 0 allow
  pub push_sends : (s : State) (i : ℕ) (c : Consumer) → Reader s i c
      → due_to i s ≡ take (c.permits - zero_permits) (ahead (ledger_of s c.pair.topic) c)
  -- after a seek to an id that no entry is at or after, nothing is due to it
  pub waits : (s : State) (i : ℕ) (c : Consumer) (x : Id) → Reader s i c → PastEnd x (ledger_of s c.pair.topic)
      → due_to i (run s (Seek i (to_id x) ∷ [])) ≡ []
  -- and after the next append just the new entry
  pub next_alone : (s : State) (i : ℕ) (c : Consumer) (x : Id) (m : StoredMessage) → Reader s i c → PastEnd x (ledger_of s c.pair.topic)
      → is_done (rule (run s (Seek i (to_id x) ∷ [])) (Append c.pair.topic m)) ≡ true
      → due_to i (run s (Seek i (to_id x) ∷ Append c.pair.topic m ∷ [])) ≡ take (c.permits - zero_permits) (m ∷ [])
