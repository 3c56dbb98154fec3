-- The state: what a store spells, as records and lists, with the names of broker.rs. Nothing here speaks of words.
-- Topics and dispatchers stand in the order in which they were made, consumers by ascending id, what is in flight in
-- the order of dispatch, complete ids outside the ledger ascending.
use Rattle.std.specs.Prelude.{ℕ, Bool, true, false, cond, ◌&&◌, List, [], ◌∷◌, eqb, ltb, length, replicate}
use Rattle.std.proofs.Math.Option.{Option, map}
use Rattle.bits.specs.declared.UnackedBits.{UnackedBits}
use Rattle.rules.specs.Permits.{zero_permits}
use Rattle.rules.specs.Table.{Key, find, put, or_else}

-- a message id
pub record Id : Type 0 where
  pub ledger : ℕ
  pub entry : ℕ

-- whether two ids are the same
unfoldable pub same_id : Id → Id → Bool
same_id a b = eqb a.ledger b.ledger && eqb a.entry b.entry

-- an entry of a ledger (document 01: slip); the handle is the caller's, for the payload
pub record StoredMessage : Type 0 where
  pub id : Id
  pub handle : ℕ
  pub batch_size : ℕ

-- a topic and its ledger, in append order
pub record Topic : Type 0 where
  pub number : ℕ
  pub messages : List StoredMessage

-- a subscription: topic and subscription number
pub record Pair : Type 0 where
  pub topic : ℕ
  pub subscription : ℕ

-- whether two pairs are the same
unfoldable pub same_pair : Pair → Pair → Bool
same_pair a b = eqb a.topic b.topic && eqb a.subscription b.subscription

-- a consumer's kind
pub data Kind : Type 0 where
  plain : Kind
  shared : Kind

-- one of two, by the kind
unfoldable pub by_kind : {A : Type 0} → Kind → A → A → A
by_kind plain a b = a
by_kind shared a b = b

-- a live consumer: its permits (excess form), its own cursor, and the positions it handed back (plain)
pub record Consumer : Type 0 where
  pub id : ℕ
  pub pair : Pair
  pub kind : Kind
  pub permits : ℕ
  pub cursor : ℕ
  pub nacked : List ℕ

-- how far an entry is acknowledged: completely or not, and the stored bits still unacknowledged.
-- Stored bits are never all clear, so all clear stands for no stored bits.
pub record Acked : Type 0 where
  pub complete : Bool
  pub unacked : UnackedBits

-- what a dispatcher keeps for an entry of its topic
pub record Mark : Type 0 where
  pub acked : Acked
  pub redelivery_count : ℕ

-- an entry handed to a consumer and not dropped yet: the holder's id and the entry's position
pub record Held : Type 0 where
  pub holder : ℕ
  pub position : ℕ

-- the dispatcher of a shared subscription: the ring and its next slot, the cursor, mark-delete and the total of
-- permits (excess form), what waits for redelivery and what is in flight (positions), a mark for each entry of the
-- topic, and the complete ids that are not in the ledger
pub record Dispatcher : Type 0 where
  pub pair : Pair
  pub attached : List ℕ
  pub next : ℕ
  pub cursor : ℕ
  pub mark_delete : ℕ
  pub total_available_permits : ℕ
  pub redelivery : List ℕ
  pub in_flight : List Held
  pub marks : List Mark
  pub outside : List Id

-- the whole state; `entries` is E, the entries per topic
pub record State : Type 0 where
  pub entries : ℕ
  pub leak_shared_permits_on_churn : Bool
  pub live_id_subscribe_is_noop : Bool
  pub topics : List Topic
  pub consumers : List Consumer
  pub dispatchers : List Dispatcher

-- a state of E entries with its switches and tables
abbrev pub state_with : ℕ → Bool → Bool → List Topic → List Consumer → List Dispatcher → State
state_with e leak noop topics consumers dispatchers =
    record {
      entries = e;
      leak_shared_permits_on_churn = leak;
      live_id_subscribe_is_noop = noop;
      topics = topics;
      consumers = consumers;
      dispatchers = dispatchers;
    }

-- the same state with other tables
abbrev pub with_tables : State → List Topic → List Consumer → List Dispatcher → State
with_tables s topics consumers dispatchers =
    record {
      entries = s.entries;
      leak_shared_permits_on_churn = s.leak_shared_permits_on_churn;
      live_id_subscribe_is_noop = s.live_id_subscribe_is_noop;
      topics = topics;
      consumers = consumers;
      dispatchers = dispatchers;
    }

-- ---- nothing yet

-- no stored bits
abbrev pub no_bits : UnackedBits
no_bits = record { w0 = 0; w1 = 0; w2 = 0; w3 = 0 }

-- not acknowledged at all
abbrev pub unacknowledged : Acked
unacknowledged = record { complete = false; unacked = no_bits }

-- acknowledged completely
abbrev pub completed : Acked
completed = record { complete = true; unacked = no_bits }

-- an entry's mark at first
abbrev pub new_mark : Mark
new_mark = record { acked = unacknowledged; redelivery_count = 0 }

-- a new pair's dispatcher, over a ledger of n entries
unfoldable pub new_dispatcher : Pair → ℕ → Dispatcher
new_dispatcher p n =
    record {
      pair = p;
      attached = [];
      next = 0;
      cursor = 0;
      mark_delete = 0;
      total_available_permits = zero_permits;
      redelivery = [];
      in_flight = [];
      marks = replicate n new_mark;
      outside = [];
    }

-- ---- found by number, id or pair

-- topics are found by number
abbrev pub by_number : Key Topic ℕ
by_number = record { key = λ t. t.number; same = eqb }

-- consumers are found by id
abbrev pub by_id : Key Consumer ℕ
by_id = record { key = λ c. c.id; same = eqb }

-- dispatchers are found by pair
abbrev pub by_pair : Key Dispatcher Pair
by_pair = record { key = λ d. d.pair; same = same_pair }

-- the topic with a number
unfoldable pub topic_of : State → ℕ → Option Topic
topic_of s n = find by_number n s.topics

-- the live consumer with an id
unfoldable pub consumer_of : State → ℕ → Option Consumer
consumer_of s i = find by_id i s.consumers

-- the dispatcher of a pair
unfoldable pub dispatcher_of : State → Pair → Option Dispatcher
dispatcher_of s p = find by_pair p s.dispatchers

-- the ledger of a topic: empty until an append makes the topic
unfoldable pub ledger_of : State → ℕ → List StoredMessage
ledger_of s n = or_else (map (λ (t : Topic). t.messages) (topic_of s n)) []

-- the dispatcher of a pair, or the one that a subscribe would make
unfoldable pub dispatcher : State → Pair → Dispatcher
dispatcher s p = or_else (dispatcher_of s p) (new_dispatcher p (length (ledger_of s p.topic)))

-- ---- a state with one thing changed

-- a consumer among those with ascending ids: in place of the one with its id, or inserted
unfoldable pub insert : Consumer → List Consumer → List Consumer
insert c [] = c ∷ []
insert c (d ∷ l) = cond (ltb c.id d.id) (c ∷ d ∷ l) (cond (eqb c.id d.id) (c ∷ l) (d ∷ insert c l))

-- a state with other topics
unfoldable pub with_topics : State → List Topic → State
with_topics s l = with_tables s l s.consumers s.dispatchers

-- a state with other consumers
unfoldable pub with_consumers : State → List Consumer → State
with_consumers s l = with_tables s s.topics l s.dispatchers

-- a state with other dispatchers
unfoldable pub with_dispatchers : State → List Dispatcher → State
with_dispatchers s l = with_tables s s.topics s.consumers l

-- a state with a consumer's record put in place, or the consumer added
unfoldable pub put_consumer : State → Consumer → State
put_consumer s c = with_consumers s (insert c s.consumers)

-- a state with a dispatcher's record put in place, or the dispatcher added at the end
unfoldable pub put_dispatcher : State → Dispatcher → State
put_dispatcher s d = with_dispatchers s (put by_pair d s.dispatchers)
