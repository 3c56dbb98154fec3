-- Records that are there lie inside the store, and stay shaped when a field changes: what one write leaves is again a store
-- that the next may work on.
use mathlib.Core.Path.{◌≡◌, refl}
use mathlib.Core.List.{List}
use Prim.Native.Nat.{ℕ, ◌+◌, ◌*◌, ◌≤◌, ◌<◌}
use native.Mathlib.Nat.{mul-le-mul_right}
use native.Mathlib.Omega.{arith}
use lib.ListN.{length, set, length-set}
use Rattle.words.specs.Codec.{All}
use Rattle.words.proofs.Each.{all_set}
use Rattle.rules.specs.State.{State, Topic, Pair, Id, Mark, Held, Consumer, Dispatcher, with_topics, with_consumers, with_dispatchers}
use Rattle.rules.specs.Dispatcher.{with_attached, with_next, with_cursor, with_mark_delete, with_total, with_places, with_marks}
use Rattle.rules.specs.Commands.{with_permits, with_reading}
use Rattle.layout.specs.Layout.{decode}
use Rattle.layout.specs.Whole.{Shaped, ShapedConsumer, ShapedTopic, ShapedDispatcher}
use Rattle.layout.specs.Canon.{CanonStore}
use Rattle.layout.specs.Placed.{ConsumerIn, TopicIn, DispatcherIn}
use Rattle.layout.specs.Offsets.{topic_at, dispatcher_count_at, dispatcher_at, reserved_at}
use Rattle.layout.specs.Fields.{set_consumer, set_topic, set_dispatcher, for_pair}
use Rattle.layout.proofs.Body.{shaped_tables}
use Rattle.layout.proofs.Gets.{nacked_short, messages_short}
use Rattle.layout.proofs.GetsDispatcher.{dispatcher_short}

-- ---- inside the store

-- one more slot of w words, before the last of n
slot_inside : (i n w : ℕ) → i < n → i * w + w ≤ n * w
slot_inside i n w h = let m : (i + 1) * w ≤ n * w = mul-le-mul_right w (omega arith) in omega arith

-- a topic ends before the dispatchers
pub topic_inside : (e t : ℕ) → t < 8 → topic_at e t + (4 + 4 * e) ≤ dispatcher_count_at e
topic_inside e t h = omega (arith, slot_inside t 8 (4 + 4 * e) h)

-- a dispatcher ends before the words reserved
pub dispatcher_inside : (e d : ℕ) → d < 8 → dispatcher_at e d + (176 + 9 * e) ≤ reserved_at e
dispatcher_inside e d h = omega (arith, slot_inside d 8 (176 + 9 * e) h)

module _ {e : ℕ} {ws : List ℕ} (h : CanonStore e ws) where
  -- a consumer that is there
  pub consumer_in : (i : ℕ) → i < length (decode ws).consumers → ConsumerIn e ws i
  consumer_in i k =
      let f : length (decode ws).consumers ≤ 32 = h.shaped.consumers_fit in
      record { canon = h; there = k; few = omega arith; inside = omega arith; nacked_fit = nacked_short h i k }

  -- a topic that is there
  pub topic_in : (t : ℕ) → t < length (decode ws).topics → TopicIn e ws t
  topic_in t k =
      let f : length (decode ws).topics ≤ 8 = h.shaped.topics_fit in
      record { canon = h; there = k; few = omega arith; inside = topic_inside e t (omega arith); messages_fit = messages_short h t k }

  -- a dispatcher that is there
  pub dispatcher_in : (d : ℕ) → d < length (decode ws).dispatchers → DispatcherIn e ws d
  dispatcher_in d k =
      let f : length (decode ws).dispatchers ≤ 8 = h.shaped.dispatchers_fit in
      record { canon = h; there = k; few = omega arith; inside = dispatcher_inside e d (omega arith); lists_fit = dispatcher_short h d k }

-- ---- shaped with a table changed

module _ (s : State) (h : Shaped s) where
  -- other consumers
  pub shaped_consumers : (l : List Consumer) → length l ≤ 32 → All ShapedConsumer l → Shaped (with_consumers s l)
  unfolding with_consumers
  shaped_consumers l k a =
      shaped_tables s h s.topics l s.dispatchers h.topics_fit k h.dispatchers_fit h.each_topic a h.each_dispatcher

  -- other topics
  pub shaped_topics : (l : List Topic) → length l ≤ 8 → All (ShapedTopic s.entries) l → Shaped (with_topics s l)
  unfolding with_topics
  shaped_topics l k a =
      shaped_tables s h l s.consumers s.dispatchers k h.consumers_fit h.dispatchers_fit a h.each_consumer h.each_dispatcher

  -- other dispatchers
  pub shaped_dispatchers : (l : List Dispatcher) → length l ≤ 8 → All (ShapedDispatcher s.entries) l → Shaped (with_dispatchers s l)
  unfolding with_dispatchers
  shaped_dispatchers l k a =
      shaped_tables s h s.topics s.consumers l h.topics_fit h.consumers_fit k h.each_topic h.each_consumer a

  -- ---- with one record changed

  -- another consumer i
  pub shaped_set_consumer : (i : ℕ) (c : Consumer) → ShapedConsumer c → Shaped (set_consumer s i c)
  unfolding set_consumer
  shaped_set_consumer i c k =
      shaped_consumers (set s.consumers i c) (rw length-set h.consumers_fit)
      (all_set ShapedConsumer s.consumers i c h.each_consumer k)

  -- another topic i
  pub shaped_set_topic : (i : ℕ) (t : Topic) → ShapedTopic s.entries t → Shaped (set_topic s i t)
  unfolding set_topic
  shaped_set_topic i t k =
      shaped_topics (set s.topics i t) (rw length-set h.topics_fit)
      (all_set (ShapedTopic s.entries) s.topics i t h.each_topic k)

  -- another dispatcher i
  pub shaped_set_dispatcher : (i : ℕ) (d : Dispatcher) → ShapedDispatcher s.entries d → Shaped (set_dispatcher s i d)
  unfolding set_dispatcher
  shaped_set_dispatcher i d k =
      shaped_dispatchers (set s.dispatchers i d) (rw length-set h.dispatchers_fit)
      (all_set (ShapedDispatcher s.entries) s.dispatchers i d h.each_dispatcher k)

-- ---- records with one field changed

-- other permits
pub shaped_permits : (c : Consumer) (v : ℕ) → ShapedConsumer c → ShapedConsumer (with_permits c v)
unfolding with_permits
shaped_permits c v h = h

-- another cursor and other nacked positions
pub shaped_reading : (c : Consumer) (v : ℕ) (l : List ℕ) → length l ≤ 64 → ShapedConsumer (with_reading c v l)
unfolding with_reading
shaped_reading c v l h = h

module _ {e : ℕ} (d : Dispatcher) (h : ShapedDispatcher e d) where
  -- a dispatcher with the same lists
  same_lists : (x : Dispatcher) → x.attached ≡ d.attached → x.outside ≡ d.outside → x.redelivery ≡ d.redelivery
      → x.in_flight ≡ d.in_flight → x.marks ≡ d.marks → ShapedDispatcher e x
  same_lists x a b c f g =
      record {
        ring_fits = rw a h.ring_fits;
        outside_fits = rw b h.outside_fits;
        queue_fits = rw c h.queue_fits;
        flight_fits = rw f h.flight_fits;
        marks_fit = rw g h.marks_fit;
      }

  -- another pair
  pub shaped_for_pair : (p : Pair) → ShapedDispatcher e (for_pair d p)
  unfolding for_pair
  shaped_for_pair p = same_lists (for_pair d p) refl refl refl refl refl

  -- another next slot
  pub shaped_next : (v : ℕ) → ShapedDispatcher e (with_next d v)
  unfolding with_next
  shaped_next v = same_lists (with_next d v) refl refl refl refl refl

  -- another cursor
  pub shaped_cursor : (v : ℕ) → ShapedDispatcher e (with_cursor d v)
  unfolding with_cursor
  shaped_cursor v = same_lists (with_cursor d v) refl refl refl refl refl

  -- another mark-delete
  pub shaped_mark_delete : (v : ℕ) → ShapedDispatcher e (with_mark_delete d v)
  unfolding with_mark_delete
  shaped_mark_delete v = same_lists (with_mark_delete d v) refl refl refl refl refl

  -- another total
  pub shaped_total : (v : ℕ) → ShapedDispatcher e (with_total d v)
  unfolding with_total
  shaped_total v = same_lists (with_total d v) refl refl refl refl refl

  -- another ring
  pub shaped_attached : (l : List ℕ) → length l ≤ 32 → ShapedDispatcher e (with_attached d l)
  unfolding with_attached
  shaped_attached l k =
      record {
        ring_fits = k;
        outside_fits = h.outside_fits;
        queue_fits = h.queue_fits;
        flight_fits = h.flight_fits;
        marks_fit = h.marks_fit;
      }

  -- another queue and other entries in flight
  pub shaped_places : (queue : List ℕ) (held : List Held) → length queue ≤ e → length held ≤ e
      → ShapedDispatcher e (with_places d queue held)
  unfolding with_places
  shaped_places queue held a b =
      record {
        ring_fits = h.ring_fits;
        outside_fits = h.outside_fits;
        queue_fits = a;
        flight_fits = b;
        marks_fit = h.marks_fit;
      }

  -- other marks and other outside ids
  pub shaped_marks : (marks : List Mark) (ids : List Id) → length marks ≤ e → length ids ≤ 64 → ShapedDispatcher e (with_marks d marks ids)
  unfolding with_marks
  shaped_marks marks ids a b =
      record {
        ring_fits = h.ring_fits;
        outside_fits = b;
        queue_fits = h.queue_fits;
        flight_fits = h.flight_fits;
        marks_fit = a;
      }
