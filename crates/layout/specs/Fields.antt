-- A state's records by their place in its tables, as code reaches them: the record at a place, and the state with another
-- record there. Past the end of a table stands a record of zeros, which is what a blank slot of a store reads as.
use Rattle.std.specs.Prelude.{ℕ, Bool, List, [], get_or, set}
use Rattle.bits.specs.declared.UnackedBits.{UnackedBits}
use Rattle.rules.specs.State.{Id, StoredMessage, Topic, Pair, Kind, Consumer, Mark, Held, Dispatcher, State, with_topics, with_consumers, with_dispatchers}
use Rattle.rules.specs.State.Kind.{plain}
use Rattle.layout.specs.Layout.{decode, put}

-- ---- records of zeros

-- an id
abbrev pub zero_id : Id
zero_id = record { ledger = 0; entry = 0 }

-- a pair
abbrev pub zero_pair : Pair
zero_pair = record { topic = 0; subscription = 0 }

-- an entry in flight
abbrev pub zero_held : Held
zero_held = record { holder = 0; position = 0 }

-- a consumer
abbrev pub zero_consumer : Consumer
zero_consumer = record { id = 0; pair = zero_pair; kind = plain; permits = 0; cursor = 0; nacked = [] }

-- a topic
abbrev pub zero_topic : Topic
zero_topic = record { number = 0; messages = [] }

-- a dispatcher
abbrev pub zero_dispatcher : Dispatcher
zero_dispatcher =
    record {
      pair = zero_pair;
      attached = [];
      next = 0;
      cursor = 0;
      mark_delete = 0;
      total_available_permits = 0;
      redelivery = [];
      in_flight = [];
      marks = [];
      outside = [];
    }

-- ---- from numbers

-- the pair of a topic and a subscription
abbrev pub pair_of : ℕ → ℕ → Pair
pair_of topic subscription = record { topic = topic; subscription = subscription }

-- ---- by place

-- consumer i
abbrev pub consumer_nth : State → ℕ → Consumer
consumer_nth s i = get_or s.consumers i zero_consumer

-- topic t
abbrev pub topic_nth : State → ℕ → Topic
topic_nth s t = get_or s.topics t zero_topic

-- dispatcher d
abbrev pub dispatcher_nth : State → ℕ → Dispatcher
dispatcher_nth s d = get_or s.dispatchers d zero_dispatcher

-- a state with another consumer i
unfoldable pub set_consumer : State → ℕ → Consumer → State
set_consumer s i c = with_consumers s (set s.consumers i c)

-- a state with another topic t
unfoldable pub set_topic : State → ℕ → Topic → State
set_topic s t x = with_topics s (set s.topics t x)

-- a state with another dispatcher d
unfoldable pub set_dispatcher : State → ℕ → Dispatcher → State
set_dispatcher s d x = with_dispatchers s (set s.dispatchers d x)

-- ---- in words

-- consumer i of the state that words decode to
abbrev pub consumer_now : List ℕ → ℕ → Consumer
consumer_now ws i = consumer_nth (decode ws) i

-- topic t
abbrev pub topic_now : List ℕ → ℕ → Topic
topic_now ws t = topic_nth (decode ws) t

-- dispatcher d
abbrev pub dispatcher_now : List ℕ → ℕ → Dispatcher
dispatcher_now ws d = dispatcher_nth (decode ws) d

-- words with another consumer i in that state
abbrev pub put_consumer_at : List ℕ → ℕ → Consumer → List ℕ
put_consumer_at ws i c = put ws (set_consumer (decode ws) i c)

-- another topic t
abbrev pub put_topic_at : List ℕ → ℕ → Topic → List ℕ
put_topic_at ws t x = put ws (set_topic (decode ws) t x)

-- another dispatcher d
abbrev pub put_dispatcher_at : List ℕ → ℕ → Dispatcher → List ℕ
put_dispatcher_at ws d x = put ws (set_dispatcher (decode ws) d x)

-- words with that state changed by f
abbrev pub state_changed : List ℕ → (State → State) → List ℕ
state_changed ws f = put ws (f (decode ws))

-- words with consumer i of that state changed by f
abbrev pub consumer_changed : List ℕ → ℕ → (Consumer → Consumer) → List ℕ
consumer_changed ws i f = put_consumer_at ws i (f (consumer_now ws i))

-- topic t changed by f
abbrev pub topic_changed : List ℕ → ℕ → (Topic → Topic) → List ℕ
topic_changed ws t f = put_topic_at ws t (f (topic_now ws t))

-- dispatcher d changed by f
abbrev pub dispatcher_changed : List ℕ → ℕ → (Dispatcher → Dispatcher) → List ℕ
dispatcher_changed ws d f = put_dispatcher_at ws d (f (dispatcher_now ws d))

-- ---- a record with one field changed, where the rules have no name for it

-- a consumer with another id
unfoldable pub with_id : Consumer → ℕ → Consumer
with_id c v =
    record { id = v; pair = c.pair; kind = c.kind; permits = c.permits; cursor = c.cursor; nacked = c.nacked }

-- a consumer with another pair
unfoldable pub with_pair : Consumer → Pair → Consumer
with_pair c v =
    record { id = c.id; pair = v; kind = c.kind; permits = c.permits; cursor = c.cursor; nacked = c.nacked }

-- a consumer of another kind
unfoldable pub with_kind : Consumer → Kind → Consumer
with_kind c v =
    record { id = c.id; pair = c.pair; kind = v; permits = c.permits; cursor = c.cursor; nacked = c.nacked }

-- a pair of another topic
unfoldable pub of_topic : Pair → ℕ → Pair
of_topic p v = record { topic = v; subscription = p.subscription }

-- a pair of another subscription
unfoldable pub of_subscription : Pair → ℕ → Pair
of_subscription p v = record { topic = p.topic; subscription = v }

-- a topic with another number
unfoldable pub with_number : Topic → ℕ → Topic
with_number t v = record { number = v; messages = t.messages }

-- a topic with other messages
unfoldable pub with_messages : Topic → List StoredMessage → Topic
with_messages t l = record { number = t.number; messages = l }

-- a dispatcher of another pair
unfoldable pub for_pair : Dispatcher → Pair → Dispatcher
for_pair d v =
    record {
      pair = v;
      attached = d.attached;
      next = d.next;
      cursor = d.cursor;
      mark_delete = d.mark_delete;
      total_available_permits = d.total_available_permits;
      redelivery = d.redelivery;
      in_flight = d.in_flight;
      marks = d.marks;
      outside = d.outside;
    }

-- a mark with another complete flag
unfoldable pub with_complete : Mark → Bool → Mark
with_complete m v = record { acked = record { complete = v; unacked = m.acked.unacked }; redelivery_count = m.redelivery_count }

-- a mark with another redelivery count
unfoldable pub with_count : Mark → ℕ → Mark
with_count m v = record { acked = m.acked; redelivery_count = v }

-- a mark with other bits
unfoldable pub with_bits : Mark → UnackedBits → Mark
with_bits m v = record { acked = record { complete = m.acked.complete; unacked = v }; redelivery_count = m.redelivery_count }
