-- The whole state as one codec for each E, so that the laws of codecs serve for whole stores; and what the laws ask of a
-- state: `Shaped`, that E is in its range and every list fits its slots. A valid state is shaped, and so is whatever words
-- decode to.
use Rattle.std.specs.Prelude.{ℕ, ◌≤◌, refl, length}
use Rattle.words.specs.Codec.{Codec, Change, pair, via, All}
use Rattle.rules.specs.State.{Topic, Consumer, Dispatcher, State}
use Rattle.layout.specs.Layout.{header_codec, body_codec, header_of, body_of, state_of}

-- header and body as a state; its E is the header's
abbrev pub as_state : (e : ℕ) → Change (pair header_codec (body_codec e)) State
as_state e =
    record {
      to = λ t. state_of t.0.entries t.0 t.1;
      from = λ s. (header_of s, body_of s);
      back = λ s. refl;
      keeps = λ t ok. ok;
    }

-- the codec of states of E entries
unfoldable pub state_codec : ℕ → Codec State
state_codec e = via (as_state e)

-- ---- shaped

-- a ledger fits its slots
abbrev pub ShapedTopic : ℕ → Topic → Type 0
ShapedTopic e t = length t.messages ≤ e

-- the nacked positions fit their slots
abbrev pub ShapedConsumer : Consumer → Type 0
ShapedConsumer c = length c.nacked ≤ 64

-- the lists of a dispatcher fit their slots
pub record ShapedDispatcher (e : ℕ) (d : Dispatcher) : Type 0 where
  pub ring_fits : length d.attached ≤ 32
  pub outside_fits : length d.outside ≤ 64
  pub queue_fits : length d.redelivery ≤ e
  pub flight_fits : length d.in_flight ≤ e
  pub marks_fit : length d.marks ≤ e

-- E is 1 to 4,096, and every list fits its slots
pub record Shaped (s : State) : Type 0 where
  pub E_least : 1 ≤ s.entries
  pub E_most : s.entries ≤ 4096
  pub consumers_fit : length s.consumers ≤ 32
  pub topics_fit : length s.topics ≤ 8
  pub dispatchers_fit : length s.dispatchers ≤ 8
  pub each_consumer : All ShapedConsumer s.consumers
  pub each_topic : All (ShapedTopic s.entries) s.topics
  pub each_dispatcher : All (ShapedDispatcher s.entries) s.dispatchers
