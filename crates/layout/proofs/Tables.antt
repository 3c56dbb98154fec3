-- The check of a store's tables: a count, that many records, and the rest of the slots blank; and the turn of the loop over
-- the records. `Check.antt` has what each record comes to.
use mathlib.Core.Path.{◌≡◌, refl}
use mathlib.Core.Bool.{◌&&◌}
use mathlib.Core.List.{List}
use Prim.Native.Nat.{ℕ, ◌+◌, ◌-◌, ◌*◌, ◌<◌}
use native.Mathlib.Nat.{zero-mul, add-zero}
use native.Mathlib.Omega.{arith}
use lib.Dec.{leb}
use lib.ListN.{length, get_or, drop}
use Rattle.words.specs.Words.{blank}
use Rattle.words.specs.Codec.{Codec, upto}
use Rattle.words.specs.Store.{canonical, canonicals}
use Rattle.words.proofs.Check.{canonical_upto, canonicals_turn}
use Rattle.layout.specs.Records.{mark_codec, consumer_codec, topic_codec, dispatcher_codec}
use Rattle.layout.specs.Offsets.{consumer_at, topic_count_at, topic_at, dispatcher_count_at, dispatcher_at, marks_in, mark_in}
use Rattle.layout.proofs.Widths.{width_mark, width_consumer, width_topic, width_dispatcher}

-- a table whose first record stands at `first`
check_table : {A : Type 0} (c : Codec A) {w : ℕ} (cap off first : ℕ) (ws : List ℕ) → c.width ≡ w → off + 1 ≡ first → off < length ws
    → canonical (upto c cap) (drop off ws)
    ≡ leb (get_or ws off 0) cap && canonicals c (get_or ws off 0) (drop (first + 0 * w) ws)
    && blank ((cap - get_or ws off 0) * w) (drop (first + get_or ws off 0 * w) ws)
check_table c {w} cap off first ws sized f h = rw (zero-mul w, add-zero first, ← f) (canonical_upto c sized cap off ws h)

-- the consumers
pub check_consumers : (ws : List ℕ) → 16 < length ws
    → canonical (upto consumer_codec 32) (drop 16 ws)
    ≡ leb (get_or ws 16 0) 32 && canonicals consumer_codec (get_or ws 16 0) (drop (consumer_at 0) ws)
    && blank ((32 - get_or ws 16 0) * 72) (drop (consumer_at (get_or ws 16 0)) ws)
check_consumers ws h = check_table consumer_codec 32 16 17 ws width_consumer refl h

-- consumer i and those after it
pub check_consumers_turn : (n i : ℕ) (ws : List ℕ) → i < n
    → canonicals consumer_codec (n - i) (drop (consumer_at i) ws)
    ≡ canonical consumer_codec (drop (consumer_at i) ws) && canonicals consumer_codec (n - (i + 1)) (drop (consumer_at (i + 1)) ws)
check_consumers_turn n i ws h = canonicals_turn consumer_codec width_consumer n i 17 ws h

-- the topics
pub check_topics : (e : ℕ) (ws : List ℕ) → topic_count_at < length ws
    → canonical (upto (topic_codec e) 8) (drop topic_count_at ws)
    ≡ leb (get_or ws topic_count_at 0) 8 && canonicals (topic_codec e) (get_or ws topic_count_at 0) (drop (topic_at e 0) ws)
    && blank ((8 - get_or ws topic_count_at 0) * (4 + 4 * e)) (drop (topic_at e (get_or ws topic_count_at 0)) ws)
check_topics e ws h = check_table (topic_codec e) 8 topic_count_at 2322 ws (width_topic e) refl h

-- topic i and those after it
pub check_topics_turn : (e n i : ℕ) (ws : List ℕ) → i < n
    → canonicals (topic_codec e) (n - i) (drop (topic_at e i) ws)
    ≡ canonical (topic_codec e) (drop (topic_at e i) ws) && canonicals (topic_codec e) (n - (i + 1)) (drop (topic_at e (i + 1)) ws)
check_topics_turn e n i ws h = canonicals_turn (topic_codec e) (width_topic e) n i 2322 ws h

-- the dispatchers
pub check_dispatchers : (e : ℕ) (ws : List ℕ) → dispatcher_count_at e < length ws
    → canonical (upto (dispatcher_codec e) 8) (drop (dispatcher_count_at e) ws)
    ≡ leb (get_or ws (dispatcher_count_at e) 0) 8
    && canonicals (dispatcher_codec e) (get_or ws (dispatcher_count_at e) 0) (drop (dispatcher_at e 0) ws)
    && blank ((8 - get_or ws (dispatcher_count_at e) 0) * (176 + 9 * e)) (drop (dispatcher_at e (get_or ws (dispatcher_count_at e) 0)) ws)
check_dispatchers e ws h =
    check_table (dispatcher_codec e) 8 (dispatcher_count_at e) (2355 + 32 * e) ws (width_dispatcher e) (omega arith) h

-- dispatcher i and those after it
pub check_dispatchers_turn : (e n i : ℕ) (ws : List ℕ) → i < n
    → canonicals (dispatcher_codec e) (n - i) (drop (dispatcher_at e i) ws)
    ≡ canonical (dispatcher_codec e) (drop (dispatcher_at e i) ws)
    && canonicals (dispatcher_codec e) (n - (i + 1)) (drop (dispatcher_at e (i + 1)) ws)
check_dispatchers_turn e n i ws h = canonicals_turn (dispatcher_codec e) (width_dispatcher e) n i (2355 + 32 * e) ws h

-- the marks of the dispatcher at `at`
pub check_marks : (e at : ℕ) (ws : List ℕ) → at + marks_in e < length ws
    → canonical (upto mark_codec e) (drop (at + marks_in e) ws)
    ≡ leb (get_or ws (at + marks_in e) 0) e && canonicals mark_codec (get_or ws (at + marks_in e) 0) (drop (at + mark_in e 0) ws)
    && blank ((e - get_or ws (at + marks_in e) 0) * 6) (drop (at + mark_in e (get_or ws (at + marks_in e) 0)) ws)
check_marks e at ws h =
    let first : ℕ = at + (176 + 3 * e) in
    let f : (k : ℕ) → at + mark_in e k ≡ first + k * 6 = λ k. omega arith in
    rw (f 0, f (get_or ws (at + marks_in e) 0)) (check_table mark_codec e (at + marks_in e) first ws width_mark (omega arith) h)

-- mark i and those after it
pub check_marks_turn : (e at n i : ℕ) (ws : List ℕ) → i < n
    → canonicals mark_codec (n - i) (drop (at + mark_in e i) ws)
    ≡ canonical mark_codec (drop (at + mark_in e i) ws) && canonicals mark_codec (n - (i + 1)) (drop (at + mark_in e (i + 1)) ws)
check_marks_turn e at n i ws h =
    let first : ℕ = at + (176 + 3 * e) in
    let f : (k : ℕ) → at + mark_in e k ≡ first + k * 6 = λ k. omega arith in
    rw (f i, f (i + 1)) (canonicals_turn mark_codec width_mark n i first ws h)
