-- What code that works on one record of a store may take for granted: the store is spelt as it should be, the record is
-- there, and all its words lie before the words reserved at the end. Every index and every sum of code follows from these
-- numbers.
use Rattle.std.specs.Prelude.{ℕ, ◌+◌, ◌≤◌, ◌<◌, List, length}
use Rattle.layout.specs.Layout.{decode}
use Rattle.layout.specs.Whole.{ShapedDispatcher}
use Rattle.layout.specs.Canon.{CanonStore}
use Rattle.layout.specs.Offsets.{consumer_at, consumer_words, topic_count_at, topic_at, topic_words, dispatcher_count_at, dispatcher_at}
use Rattle.layout.specs.Offsets.{dispatcher_words, reserved_at}
use Rattle.layout.specs.Fields.{consumer_nth, topic_nth, dispatcher_nth}

-- consumer i is there
pub record ConsumerIn (e : ℕ) (ws : List ℕ) (i : ℕ) : Type 0 where
  pub canon : CanonStore e ws
  pub there : i < length (decode ws).consumers
  pub few : i < 32
  pub inside : consumer_at i + consumer_words ≤ topic_count_at
  pub nacked_fit : length (consumer_nth (decode ws) i).nacked ≤ 64

-- topic t is there
pub record TopicIn (e : ℕ) (ws : List ℕ) (t : ℕ) : Type 0 where
  pub canon : CanonStore e ws
  pub there : t < length (decode ws).topics
  pub few : t < 8
  pub inside : topic_at e t + topic_words e ≤ dispatcher_count_at e
  pub messages_fit : length (topic_nth (decode ws) t).messages ≤ e

-- dispatcher d is there
pub record DispatcherIn (e : ℕ) (ws : List ℕ) (d : ℕ) : Type 0 where
  pub canon : CanonStore e ws
  pub there : d < length (decode ws).dispatchers
  pub few : d < 8
  pub inside : dispatcher_at e d + dispatcher_words e ≤ reserved_at e
  pub lists_fit : ShapedDispatcher e (dispatcher_nth (decode ws) d)
