-- How each record of a state is spelt in words, put together from codecs. docs/STORE.md has the same as a table of
-- offsets. Reserved words are 0.
use Rattle.std.specs.Prelude.{ℕ, ◌≡◌, refl, Bool, true, false}
use Rattle.words.specs.Codec.{Codec, Change, word, zeros, pair, via, asFlag, flag, upto}
use Rattle.bits.specs.declared.UnackedBits.{UnackedBits}
use Rattle.rules.specs.State.{Id, StoredMessage, Topic, Pair, Kind, Consumer, Mark, Held, Dispatcher}
use Rattle.rules.specs.State.Kind.{plain, shared}

-- ---- small records

-- an id: ledger, entry
abbrev pub as_id : Change (pair word word) Id
as_id =
    record {
      to = λ t. record { ledger = t.0; entry = t.1 };
      from = λ i. (i.ledger, i.entry);
      back = λ i. refl;
      keeps = λ t ok. ok;
    }

-- the codec of it
unfoldable pub id_codec : Codec Id
id_codec = via as_id

-- a message: ledger, entry, handle, batch size
abbrev pub as_message : Change (pair id_codec (pair word word)) StoredMessage
as_message =
    record {
      to = λ t. record { id = t.0; handle = t.1.0; batch_size = t.1.1 };
      from = λ m. (m.id, (m.handle, m.batch_size));
      back = λ m. refl;
      keeps = λ t ok. ok;
    }

-- the codec of it
unfoldable pub message_codec : Codec StoredMessage
message_codec = via as_message

-- unacknowledged bits: four words, lowest first
abbrev pub as_bits : Change (pair (pair word word) (pair word word)) UnackedBits
as_bits =
    record {
      to = λ t. record { w0 = t.0.0; w1 = t.0.1; w2 = t.1.0; w3 = t.1.1 };
      from = λ b. ((b.w0, b.w1), (b.w2, b.w3));
      back = λ b. refl;
      keeps = λ t ok. ok;
    }

-- the codec of it
unfoldable pub bits_codec : Codec UnackedBits
bits_codec = via as_bits

-- what a dispatcher keeps for an entry: complete or not, the redelivery count, the bits (all clear: none stored)
abbrev pub as_mark : Change (pair flag (pair word bits_codec)) Mark
as_mark =
    record {
      to = λ t. record { acked = record { complete = t.0; unacked = t.1.1 }; redelivery_count = t.1.0 };
      from = λ m. (m.acked.complete, (m.redelivery_count, m.acked.unacked));
      back = λ m. refl;
      keeps = λ t ok. ok;
    }

-- the codec of it
unfoldable pub mark_codec : Codec Mark
mark_codec = via as_mark

-- an entry in flight: holder, position
abbrev pub as_held : Change (pair word word) Held
as_held =
    record {
      to = λ t. record { holder = t.0; position = t.1 };
      from = λ h. (h.holder, h.position);
      back = λ h. refl;
      keeps = λ t ok. ok;
    }

-- the codec of it
unfoldable pub held_codec : Codec Held
held_codec = via as_held

-- a pair: topic, subscription
abbrev pub as_pair : Change (pair word word) Pair
as_pair =
    record {
      to = λ t. record { topic = t.0; subscription = t.1 };
      from = λ p. (p.topic, p.subscription);
      back = λ p. refl;
      keeps = λ t ok. ok;
    }

-- the codec of it
unfoldable pub pair_codec : Codec Pair
pair_codec = via as_pair

-- the kind that a flag stands for
abbrev pub kind_of : Bool → Kind
kind_of false = plain
kind_of true = shared

-- the flag that a kind is spelt as
abbrev pub flag_of : Kind → Bool
flag_of plain = false
flag_of shared = true

-- a kind comes back as it was
pub kind_back : (k : Kind) → kind_of (flag_of k) ≡ k
kind_back plain = refl
kind_back shared = refl

-- a kind: 0 for plain, 1 for shared
abbrev pub as_kind : Change (flag) Kind
unfolding flag via asFlag word
as_kind =
    record { to = kind_of; from = flag_of; back = kind_back; keeps = λ b ok. tt }

-- the codec of it
unfoldable pub kind_codec : Codec Kind
kind_codec = via as_kind

-- ---- records of a state

-- a consumer, 72 words: id, topic, subscription, kind, permits (excess form), cursor, up to 64 nacked positions, one word
-- reserved
abbrev pub as_consumer : Change (pair word (pair pair_codec (pair kind_codec (pair word (pair word (pair (upto word 64) (zeros 1))))))) Consumer
as_consumer =
    record {
      to =
          λ t.
          record {
            id = t.0;
            pair = t.1.0;
            kind = t.1.1.0;
            permits = t.1.1.1.0;
            cursor = t.1.1.1.1.0;
            nacked = t.1.1.1.1.1.0;
          };
      from = λ c. (c.id, (c.pair, (c.kind, (c.permits, (c.cursor, (c.nacked, tt))))));
      back = λ c. refl;
      keeps = λ t ok. ok;
    }

-- the codec of it
unfoldable pub consumer_codec : Codec Consumer
consumer_codec = via as_consumer

-- a topic, 4 + 4 E words: number, two words reserved, up to E messages
abbrev pub as_topic : (e : ℕ) → Change (pair word (pair (zeros 2) (upto message_codec e))) Topic
as_topic e =
    record {
      to = λ t. record { number = t.0; messages = t.1.1 };
      from = λ t. (t.number, (tt, t.messages));
      back = λ t. refl;
      keeps = λ t ok. ok;
    }

-- the codec of it
unfoldable pub topic_codec : ℕ → Codec Topic
topic_codec e = via (as_topic e)

-- a dispatcher, 176 + 9 E words: topic, subscription, next, cursor, mark-delete, total (excess form), five words reserved,
-- up to 32 ring ids, up to 64 complete ids outside the ledger, up to E queued positions, up to E entries in flight, up to
-- E marks
abbrev pub as_dispatcher : (e : ℕ) → Change (pair pair_codec
    (pair (pair (pair word word) (pair word word))
    (pair (zeros 5)
    (pair (upto word 32)
    (pair (upto id_codec 64)
    (pair (upto word e)
    (pair (upto held_codec e) (upto mark_codec e)))))))) Dispatcher
as_dispatcher e =
    record {
      to =
          λ t.
          record {
            pair = t.0;
            attached = t.1.1.1.0;
            next = t.1.0.0.0;
            cursor = t.1.0.0.1;
            mark_delete = t.1.0.1.0;
            total_available_permits = t.1.0.1.1;
            redelivery = t.1.1.1.1.1.0;
            in_flight = t.1.1.1.1.1.1.0;
            marks = t.1.1.1.1.1.1.1;
            outside = t.1.1.1.1.0;
          };
      from =
          λ d. (
            d.pair,
            (
              ((d.next, d.cursor), (d.mark_delete, d.total_available_permits)),
              (tt, (d.attached, (d.outside, (d.redelivery, (d.in_flight, d.marks))))),
            ),
          );
      back = λ d. refl;
      keeps = λ t ok. ok;
    }

-- the codec of it
unfoldable pub dispatcher_codec : ℕ → Codec Dispatcher
dispatcher_codec e = via (as_dispatcher e)
