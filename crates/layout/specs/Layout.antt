-- The state in words. A header of 16 words says the layout and E; the body's blocks depend on E, and the whole takes
-- exactly the needed words. `decode` reads any words, `encode` gives the one spelling of a state, and `spells` says which
-- words are a state's spelling: long enough, spelt exactly so, and valid.
use Rattle.std.specs.Prelude.{ℕ, min, max, refl, Bool, ◌&&◌, List, ◌++◌, leb, length, drop}
use Rattle.words.specs.Words.{starts}
use Rattle.words.specs.Codec.{Codec, Change, word, zeros, pair, via, flag, tag, upto}
use Rattle.rules.specs.State.{Topic, Consumer, Dispatcher, State, state_with}
use Rattle.rules.specs.Valid.{valid}
use Rattle.rules.specs.Calls.{needed}
use Rattle.layout.specs.Records.{consumer_codec, topic_codec, dispatcher_codec}
use Rattle.layout.specs.Offsets.{header_reserved, reserved}

-- what word 0 of every store of this layout is
abbrev pub layout_tag : ℕ
layout_tag = 0x5a51_4453_5031_0002

-- the header's fields
pub record Header : Type 0 where
  pub entries : ℕ
  pub leak : Bool
  pub noop : Bool

-- the header, 16 words: the tag, E, the leak switch, the no-op switch, the rest reserved
abbrev pub as_header : Change (pair (tag layout_tag) (pair word (pair flag (pair flag (zeros header_reserved))))) Header
as_header =
    record {
      to = λ t. record { entries = t.1.0; leak = t.1.1.0; noop = t.1.1.1.0 };
      from = λ h. (tt, (h.entries, (h.leak, (h.noop, tt))));
      back = λ h. refl;
      keeps = λ t ok. ok;
    }

-- the codec of it
unfoldable pub header_codec : Codec Header
header_codec = via as_header

-- the body's tables
pub record Body : Type 0 where
  pub consumers : List Consumer
  pub topics : List Topic
  pub dispatchers : List Dispatcher

-- the body, 4,080 + 128 E words: up to 32 consumers, up to 8 topics, up to 8 dispatchers, the rest reserved
abbrev pub as_body : (e : ℕ) → Change (pair (upto consumer_codec 32)
    (pair (upto (topic_codec e) 8) (pair (upto (dispatcher_codec e) 8) (zeros (reserved e))))) Body
as_body e =
    record {
      to = λ t. record { consumers = t.0; topics = t.1.0; dispatchers = t.1.1.0 };
      from = λ b. (b.consumers, (b.topics, (b.dispatchers, tt)));
      back = λ b. refl;
      keeps = λ t ok. ok;
    }

-- the codec of it
unfoldable pub body_codec : ℕ → Codec Body
body_codec e = via (as_body e)

-- the header of a state
abbrev pub header_of : State → Header
header_of s =
    record { entries = s.entries; leak = s.leak_shared_permits_on_churn; noop = s.live_id_subscribe_is_noop }

-- the body of a state
abbrev pub body_of : State → Body
body_of s = record { consumers = s.consumers; topics = s.topics; dispatchers = s.dispatchers }

-- a state of E entries with a header's switches and a body
abbrev pub state_of : ℕ → Header → Body → State
state_of e h b = state_with e h.leak h.noop b.topics b.consumers b.dispatchers

-- a word as E: within 1 to 4,096, whatever it is
unfoldable pub clamp : ℕ → ℕ
clamp n = max 1 (min n 4096)

-- the words of a state, as many as it needs
unfoldable pub encode : State → List ℕ
encode s = header_codec.enc (header_of s) ++ (body_codec s.entries).enc (body_of s)

-- the E that words say
unfoldable pub entries_in : List ℕ → ℕ
entries_in ws = clamp (header_codec.dec ws).entries

-- the state that words say, read by offset
unfoldable pub decode : List ℕ → State
decode ws = state_of (entries_in ws) (header_codec.dec ws) ((body_codec (entries_in ws)).dec (drop 16 ws))

-- whether words spell a state
unfoldable pub spells : List ℕ → Bool
spells ws = leb (needed (decode ws).entries) (length ws) && starts (encode (decode ws)) ws && valid (decode ws)

-- words with a state's spelling in place of the first ones; words past the needed length never change
unfoldable pub put : List ℕ → State → List ℕ
put ws s = encode s ++ drop (needed s.entries) ws
