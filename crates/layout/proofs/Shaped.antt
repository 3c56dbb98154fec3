-- `Shaped` and the codecs' own `Ok` are the same for each record of a state, and E as it is decoded lies in its range.
use mathlib.Core.Path.{◌≡◌}
use mathlib.Core.List.{List, [], ◌∷◌}
use Prim.Native.Nat.{ℕ, ◌≤◌}
use native.Mathlib.Omega.{arith}
use lib.ListN.{length}
use Rattle.words.specs.Codec.{Codec, word, zeros, flag, pair, via, upto, asFlag, All, Fits}
use Rattle.rules.specs.State.{Id, StoredMessage, Topic, Consumer, Mark, Held, Dispatcher}
use Rattle.layout.specs.Records.{id_codec, message_codec, bits_codec, mark_codec, held_codec, pair_codec, kind_codec, consumer_codec, topic_codec, dispatcher_codec}
use Rattle.layout.specs.Layout.{clamp}
use Rattle.layout.specs.Whole.{ShapedTopic, ShapedConsumer, ShapedDispatcher}

-- what holds of each element holds in another form
pub all_as : {A : Type 0} {P Q : A → Type 0} → ((a : A) → P a → Q a) → (l : List A) → All P l → All Q l
all_as f [] h = tt
all_as f (a ∷ l) h = (f a h.0, all_as f l h.1)

-- what holds of everything holds of each element
pub all_of : {A : Type 0} {P : A → Type 0} → ((a : A) → P a) → (l : List A) → All P l
all_of f [] = tt
all_of f (a ∷ l) = (f a, all_of f l)

-- a list fits where it is short enough, if each value is Ok
fits_any : {A : Type 0} (c : Codec A) → ((a : A) → c.Ok a) → (cap : ℕ) (l : List A) → length l ≤ cap → Fits c.Ok cap l
fits_any c f cap l h = record { short = h; each = all_of {P = c.Ok} f l }

-- ---- records without a list are always Ok

ok_word : (n : ℕ) → word.Ok n
unfolding word
ok_word n = tt

ok_id : (i : Id) → id_codec.Ok i
unfolding id_codec via pair word
ok_id i = (tt, tt)

ok_message : (m : StoredMessage) → message_codec.Ok m
unfolding message_codec via pair word
ok_message m = (ok_id m.id, (tt, tt))

ok_held : (h : Held) → held_codec.Ok h
unfolding held_codec via pair word
ok_held h = (tt, tt)

ok_mark : (m : Mark) → mark_codec.Ok m
unfolding mark_codec bits_codec via pair word flag asFlag
ok_mark m = (tt, (tt, ((tt, tt), (tt, tt))))

-- ---- records with lists

-- a shaped consumer is Ok
pub ok_consumer : (c : Consumer) → ShapedConsumer c → consumer_codec.Ok c
unfolding consumer_codec pair_codec kind_codec via pair word zeros flag asFlag upto
ok_consumer c h = (tt, ((tt, tt), (tt, (tt, (tt, (fits_any word ok_word 64 c.nacked h, tt))))))

-- and the other way round
pub consumer_ok : (c : Consumer) → consumer_codec.Ok c → ShapedConsumer c
unfolding consumer_codec pair_codec kind_codec via pair word zeros flag asFlag upto
consumer_ok c ok = ok.1.1.1.1.1.0.short

-- a shaped topic is Ok
pub ok_topic : (e : ℕ) (t : Topic) → ShapedTopic e t → (topic_codec e).Ok t
unfolding topic_codec via pair word zeros upto
ok_topic e t h = (tt, (tt, fits_any message_codec ok_message e t.messages h))

-- and the other way round
pub topic_ok : (e : ℕ) (t : Topic) → (topic_codec e).Ok t → ShapedTopic e t
unfolding topic_codec via pair word zeros upto
topic_ok e t ok = ok.1.1.short

-- a shaped dispatcher is Ok
pub ok_dispatcher : (e : ℕ) (d : Dispatcher) → ShapedDispatcher e d → (dispatcher_codec e).Ok d
unfolding dispatcher_codec pair_codec via pair word zeros upto
ok_dispatcher e d h = (
  (tt, tt),
  (
    ((tt, tt), (tt, tt)),
    (
      tt,
      (
        fits_any word ok_word 32 d.attached h.ring_fits,
        (
          fits_any id_codec ok_id 64 d.outside h.outside_fits,
          (
            fits_any word ok_word e d.redelivery h.queue_fits,
            (fits_any held_codec ok_held e d.in_flight h.flight_fits, fits_any mark_codec ok_mark e d.marks h.marks_fit),
          ),
        ),
      ),
    ),
  ),
)

-- and the other way round
pub dispatcher_ok : (e : ℕ) (d : Dispatcher) → (dispatcher_codec e).Ok d → ShapedDispatcher e d
unfolding dispatcher_codec pair_codec via pair word zeros upto
dispatcher_ok e d ok =
    record {
      ring_fits = ok.1.1.1.0.short;
      outside_fits = ok.1.1.1.1.0.short;
      queue_fits = ok.1.1.1.1.1.0.short;
      flight_fits = ok.1.1.1.1.1.1.0.short;
      marks_fit = ok.1.1.1.1.1.1.1.short;
    }

-- ---- E

-- E as words say it is in its range
pub clamp_from : (n : ℕ) → 1 ≤ clamp n
unfolding clamp
clamp_from n = omega arith

-- up to 4,096
pub clamp_to : (n : ℕ) → clamp n ≤ 4096
unfolding clamp
clamp_to n = omega arith

-- a number in range is E as it stands
pub clamp_in : (n : ℕ) → 1 ≤ n → n ≤ 4096 → clamp n ≡ n
unfolding clamp
clamp_in n h k = omega arith
