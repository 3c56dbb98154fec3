-- The body: all that is said of its lists one by one, and of the words reserved at its end, stands here.
use mathlib.Core.Path.{◌≡◌, refl, ap, ◌∙◌}
use mathlib.Core.Bool.{Bool, true, ◌&&◌}
use mathlib.Core.List.{List, []}
use Prim.Native.Nat.{ℕ, ◌+◌, ◌*◌, ◌≤◌}
use native.Mathlib.Omega.{arith}
use lib.ListN.{length, drop}
use Rattle.words.specs.Words.{blank}
use Rattle.words.specs.Codec.{zeros, pair, via, upto, All}
use Rattle.words.specs.Store.{canonical}
use Rattle.words.proofs.Width.{width_zeros, width_pair, width_via}
use Rattle.words.proofs.Zero.{Zero, zero_upto, zero_pair, zero_via, zero_zeros}
use Rattle.words.proofs.Check.{canonical_zeros, canonical_via}
use Rattle.rules.specs.State.{Topic, Consumer, Dispatcher, State, with_tables}
use Rattle.rules.specs.Valid.{ValidTopic, ValidConsumer, ValidDispatcher, Sound, valid, Valid}
use Rattle.rules.specs.Calls.{opened}
use Rattle.rules.proofs.Valid.{says_valid}
use Rattle.layout.specs.Records.{consumer_codec, topic_codec, dispatcher_codec}
use Rattle.layout.specs.Layout.{as_body, body_codec, body_of}
use Rattle.layout.specs.Whole.{ShapedTopic, ShapedConsumer, ShapedDispatcher, Shaped}
use Rattle.layout.specs.Offsets.{topic_count_at, dispatcher_count_at, reserved_at, reserved}
use Rattle.layout.proofs.Widths.{width_consumers, width_topics, width_dispatchers}
use Rattle.layout.proofs.Shaped.{all_as, ok_consumer, consumer_ok, ok_topic, topic_ok, ok_dispatcher, dispatcher_ok}
use Rattle.layout.proofs.Valid.{every_all, all_valid, dispatcher_shaped}
use Rattle.layout.proofs.Fine.{Fine, fine_upto, fine_zeros, fine_pair, fine_via, fine_consumer, fine_topic, fine_dispatcher}
use Rattle.layout.proofs.Check.{part}

-- its width
pub width_body : (e : ℕ) → (body_codec e).width ≡ 4080 + 128 * e
unfolding body_codec
width_body e =
    width_via (as_body e)
    (width_pair _ _ width_consumers
    (width_pair _ _ (width_topics e) (width_pair _ _ (width_dispatchers e) (width_zeros (reserved e)))))
    ∙ omega arith

-- ---- shaped

-- the body of a shaped state is Ok
pub ok_body : (s : State) → Shaped s → (body_codec s.entries).Ok (body_of s)
unfolding body_codec via pair upto zeros
ok_body s h = (
  record { short = h.consumers_fit; each = all_as ok_consumer s.consumers h.each_consumer },
  (
    record { short = h.topics_fit; each = all_as (ok_topic s.entries) s.topics h.each_topic },
    (
      record { short = h.dispatchers_fit; each = all_as (ok_dispatcher s.entries) s.dispatchers h.each_dispatcher },
      tt,
    ),
  ),
)

-- and the other way round
pub body_ok : (s : State) → 1 ≤ s.entries → s.entries ≤ 4096 → (body_codec s.entries).Ok (body_of s) → Shaped s
unfolding body_codec via pair upto zeros
body_ok s l m ok =
    record {
      E_least = l;
      E_most = m;
      consumers_fit = ok.0.short;
      topics_fit = ok.1.0.short;
      dispatchers_fit = ok.1.1.0.short;
      each_consumer = all_as consumer_ok s.consumers ok.0.each;
      each_topic = all_as (topic_ok s.entries) s.topics ok.1.0.each;
      each_dispatcher = all_as (dispatcher_ok s.entries) s.dispatchers ok.1.1.0.each;
    }

-- a shaped state with other tables that fit
pub shaped_tables : (s : State) → Shaped s → (topics : List Topic) (consumers : List Consumer) (dispatchers : List Dispatcher)
    → length topics ≤ 8 → length consumers ≤ 32 → length dispatchers ≤ 8 → All (ShapedTopic s.entries) topics
    → All ShapedConsumer consumers → All (ShapedDispatcher s.entries) dispatchers
    → Shaped (with_tables s topics consumers dispatchers)
shaped_tables s h topics consumers dispatchers t c d ts cs ds =
    record {
      E_least = h.E_least;
      E_most = h.E_most;
      consumers_fit = c;
      topics_fit = t;
      dispatchers_fit = d;
      each_consumer = cs;
      each_topic = ts;
      each_dispatcher = ds;
    }

-- a valid state is shaped
pub valid_shaped : (s : State) → valid s ≡ true → Shaped s
valid_shaped s e =
    let v : Valid s = (says_valid s).gives e in
    let w : Sound s = v.tables in
    let t : All (ShapedTopic s.entries) s.topics =
    all_valid {P = ValidTopic s.entries} (λ a h. h.at_most_E) s.topics w.each_topic in
    record {
      E_least = v.E_from;
      E_most = v.E_to;
      consumers_fit = w.consumer_count;
      topics_fit = w.topic_count;
      dispatchers_fit = w.dispatcher_count;
      each_consumer = all_valid {P = ValidConsumer s} {Q = ShapedConsumer} (λ a h. h.nacked_count) s.consumers w.each_consumer;
      each_topic = t;
      each_dispatcher = all_valid (dispatcher_shaped s t) s.dispatchers w.each_dispatcher;
    }

-- ---- its words

-- the body of a valid state has only 64-bit words
pub fine_body : (s : State) → Valid s → Fine (body_codec s.entries) (body_of s)
unfolding body_codec
fine_body s v =
    let e : s.entries ≤ 4096 = v.E_to in
    let h : Shaped s = valid_shaped s ((says_valid s).given v) in
    fine_via (as_body s.entries) (body_of s)
    (fine_pair _ _ _
    (fine_upto consumer_codec 32 s.consumers (omega arith)
    (all_as (fine_consumer s h) s.consumers (every_all {P = ValidConsumer s} s.consumers v.tables.each_consumer)))
    (fine_pair _ _ _
    (fine_upto (topic_codec s.entries) 8 s.topics (omega arith)
    (all_as (fine_topic s.entries e) s.topics (every_all {P = ValidTopic s.entries} s.topics v.tables.each_topic)))
    (fine_pair _ _ _
    (fine_upto (dispatcher_codec s.entries) 8 s.dispatchers (omega arith)
    (all_as (fine_dispatcher s h) s.dispatchers (every_all {P = ValidDispatcher s} s.dispatchers v.tables.each_dispatcher)))
    (fine_zeros (reserved s.entries) tt))))

-- the tables, and the words reserved at the end
pub check_body : (e : ℕ) (ws : List ℕ)
    → canonical (body_codec e) (drop 16 ws)
    ≡ canonical (upto consumer_codec 32) (drop 16 ws)
    && (canonical (upto (topic_codec e) 8) (drop topic_count_at ws)
    && (canonical (upto (dispatcher_codec e) 8) (drop (dispatcher_count_at e) ws)
    && blank (reserved e) (drop (reserved_at e) ws)))
unfolding body_codec
check_body e ws =
    canonical_via (as_body e) (drop 16 ws) refl
    ∙ part _ _ 16 topic_count_at ws refl width_consumers
    ∙ ap (λ (t : Bool). canonical (upto consumer_codec 32) (drop 16 ws) && t)
    (part _ _ topic_count_at (dispatcher_count_at e) ws (omega arith) (width_topics e)
    ∙ ap (λ (t : Bool). canonical (upto (topic_codec e) 8) (drop topic_count_at ws) && t)
    (part _ _ (dispatcher_count_at e) (reserved_at e) ws (omega arith) (width_dispatchers e)
    ∙ ap (λ (t : Bool). canonical (upto (dispatcher_codec e) 8) (drop (dispatcher_count_at e) ws) && t)
    (canonical_zeros (reserved e) (drop (reserved_at e) ws))))

-- the body of a state just opened is all zeros
pub zero_body : (e : ℕ) (leak noop : Bool) → Zero (body_codec e) (body_of (opened e leak noop))
unfolding body_codec opened
zero_body e leak noop =
    zero_via (as_body e) _
    (zero_pair (upto consumer_codec 32) _ [] _ (zero_upto consumer_codec 32)
    (zero_pair (upto (topic_codec e) 8) _ [] _ (zero_upto (topic_codec e) 8)
    (zero_pair (upto (dispatcher_codec e) 8) _ [] _ (zero_upto (dispatcher_codec e) 8) (zero_zeros (reserved e)))))
