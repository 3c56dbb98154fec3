-- Append by the slot of its topic: the refusals as one number, and the state after in the steps of the code.
use Rattle.std.specs.Prelude.{ℕ, ◌≡◌, cond, List, [], ◌∷◌, ◌++◌, map, leb, ltb, length}
use Rattle.rules.specs.Table.{put}
use Rattle.rules.specs.State.{Id, StoredMessage, State, by_number, ledger_of, with_topics, with_dispatchers}
use Rattle.rules.specs.Ledger.{holds_id, appended}
use Rattle.rules.specs.Commands.{with_new_entry}
use Rattle.layout.specs.Layout.{decode}
use Rattle.layout.specs.Fields.{topic_nth}
use Rattle.store.specs.Opened.{Opened}
use Rattle.store.specs.Find.{slot}

-- 7 if the topic at a slot holds the id, 6 if it has E entries; 5 if no topic stands there and 8 exist; else 0.
-- A number, as the rules' `refused` has one; 0 is none.
unfoldable pub append_refusal : State → ℕ → Id → ℕ
append_refusal s t i =
    cond (ltb t (length s.topics))
    (cond (holds_id i (topic_nth s t).messages) 7 (cond (leb s.entries (length (topic_nth s t).messages)) 6 0))
    (cond (leb 8 (length s.topics)) 5 0)

-- a state with a topic made at the end, if none stands at its slot
unfoldable pub with_topic : State → ℕ → ℕ → State
with_topic s t n =
    cond (ltb t (length s.topics)) s (with_topics s (s.topics ++ record { number = n; messages = [] } ∷ []))

-- the state after an append
unfoldable pub append_state : State → ℕ → StoredMessage → State
append_state s topic m =
    with_dispatchers
    (with_topics s
    (put by_number (appended m (record { number = topic; messages = ledger_of s topic })) s.topics))
    (map (with_new_entry topic m.id) s.dispatchers)

-- an append to the topic at slot t is not refused
pub record AppendsTo (e : ℕ) (ws : List ℕ) (t topic : ℕ) (i : Id) : Type 0 where
  pub opened : Opened e ws
  pub found : t ≡ slot by_number topic (decode ws).topics
  pub free : append_refusal (decode ws) t i ≡ 0
