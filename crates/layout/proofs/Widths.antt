-- How many words each part of the layout takes.
use mathlib.Core.Path.{◌≡◌, ◌∙◌}
use Prim.Native.Nat.{ℕ, ◌+◌, ◌*◌}
use native.Mathlib.Omega.{arith}
use Rattle.words.specs.Codec.{word, upto}
use Rattle.words.proofs.Width.{width_word, width_flag, width_zeros, width_pair, width_via, width_upto}
use Rattle.layout.specs.Records.{as_id, id_codec, as_message, message_codec, as_bits, bits_codec, as_mark, mark_codec, as_held, held_codec, as_pair, pair_codec, as_kind, kind_codec, as_consumer, consumer_codec, as_topic, topic_codec, as_dispatcher, dispatcher_codec}

-- ---- small records

-- an id
pub width_id : id_codec.width ≡ 2
unfolding id_codec
width_id = width_via as_id (width_pair word word width_word width_word)

-- a message
pub width_message : message_codec.width ≡ 4
unfolding message_codec
width_message = width_via as_message (width_pair _ _ width_id (width_pair _ _ width_word width_word))

-- the bits of a mark
pub width_bits : bits_codec.width ≡ 4
unfolding bits_codec
width_bits =
    width_via as_bits (width_pair _ _ (width_pair _ _ width_word width_word) (width_pair _ _ width_word width_word))

-- a mark
pub width_mark : mark_codec.width ≡ 6
unfolding mark_codec
width_mark = width_via as_mark (width_pair _ _ width_flag (width_pair _ _ width_word width_bits))

-- an entry in flight
pub width_held : held_codec.width ≡ 2
unfolding held_codec
width_held = width_via as_held (width_pair _ _ width_word width_word)

-- a pair
pub width_of_pair : pair_codec.width ≡ 2
unfolding pair_codec
width_of_pair = width_via as_pair (width_pair _ _ width_word width_word)

-- a kind
pub width_kind : kind_codec.width ≡ 1
unfolding kind_codec
width_kind = width_via as_kind width_flag

-- ---- lists

-- a list of plain numbers
pub width_numbers : (cap : ℕ) → (upto word cap).width ≡ 1 + cap
width_numbers cap = width_upto word cap width_word ∙ omega arith

-- ---- records of a state

-- a consumer
pub width_consumer : consumer_codec.width ≡ 72
unfolding consumer_codec
width_consumer =
    width_via as_consumer
    (width_pair _ _ width_word
    (width_pair _ _ width_of_pair
    (width_pair _ _ width_kind
    (width_pair _ _ width_word
    (width_pair _ _ width_word (width_pair _ _ (width_numbers 64) (width_zeros 1)))))))

-- a topic
pub width_topic : (e : ℕ) → (topic_codec e).width ≡ 4 + 4 * e
unfolding topic_codec
width_topic e =
    width_via (as_topic e)
    (width_pair _ _ width_word (width_pair _ _ (width_zeros 2) (width_upto message_codec e width_message)))
    ∙ omega arith

-- a dispatcher
pub width_dispatcher : (e : ℕ) → (dispatcher_codec e).width ≡ 176 + 9 * e
unfolding dispatcher_codec
width_dispatcher e =
    width_via (as_dispatcher e)
    (width_pair _ _ width_of_pair
    (width_pair _ _ (width_pair _ _ (width_pair _ _ width_word width_word) (width_pair _ _ width_word width_word))
    (width_pair _ _ (width_zeros 5)
    (width_pair _ _ (width_numbers 32)
    (width_pair _ _ (width_upto id_codec 64 width_id)
    (width_pair _ _ (width_numbers e)
    (width_pair _ _ (width_upto held_codec e width_held) (width_upto mark_codec e width_mark))))))))
    ∙ omega arith

-- ---- the tables

-- the table of consumers
pub width_consumers : (upto consumer_codec 32).width ≡ 2305
width_consumers = width_upto consumer_codec 32 width_consumer

-- the table of topics
pub width_topics : (e : ℕ) → (upto (topic_codec e) 8).width ≡ 33 + 32 * e
width_topics e = width_upto (topic_codec e) 8 (width_topic e) ∙ omega arith

-- the table of dispatchers
pub width_dispatchers : (e : ℕ) → (upto (dispatcher_codec e) 8).width ≡ 1409 + 72 * e
width_dispatchers e = width_upto (dispatcher_codec e) 8 (width_dispatcher e) ∙ omega arith
