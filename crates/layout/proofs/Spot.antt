-- A part of a state in its place in a store: what reading it gives, and that an act on it is a put of the changed state.
-- Each table and each record of a table has its spot; the fields of a record are parts of it (`Parts.antt`).
use mathlib.Core.Path.{◌≡◌, refl, sym, ap, ◌∙◌, subst}
use mathlib.Core.List.{List}
use Prim.Native.Nat.{ℕ, ◌+◌, ◌≤◌, ◌<◌}
use native.Mathlib.Omega.{arith}
use lib.ListN.{length, get_or, set}
use Rattle.words.specs.Act.{Act, store, lay, both, past}
use Rattle.words.specs.Codec.{Codec, word, upto}
use Rattle.words.specs.Field.{Reads, Writes}
use Rattle.words.proofs.Field.{writes_whole}
use Rattle.words.proofs.Store.{canon_reads, canon_writes, put_reads, put_writes}
use Rattle.rules.specs.State.{State, with_topics, with_consumers, with_dispatchers}
use Rattle.layout.specs.Records.{consumer_codec, topic_codec, dispatcher_codec}
use Rattle.layout.specs.Layout.{as_body, body_codec, decode, put}
use Rattle.layout.specs.Whole.{as_state, state_codec, Shaped}
use Rattle.layout.specs.Canon.{CanonStore}
use Rattle.layout.specs.Offsets.{consumer_at, topic_count_at, topic_at, dispatcher_count_at, dispatcher_at}
use Rattle.layout.specs.Fields.{zero_consumer, zero_topic, zero_dispatcher, consumer_nth, topic_nth, dispatcher_nth, set_consumer, set_topic, set_dispatcher}
use Rattle.layout.proofs.Header.{width_header}
use Rattle.layout.proofs.Widths.{width_consumer, width_topic, width_dispatcher, width_consumers, width_topics}
use Rattle.layout.proofs.Store.{canon_state, decode_canon, canon_entries, put_as, put_put, decode_put}
use Rattle.layout.proofs.Part.{Part, part_at, part_in, reads_part, writes_first, reads_one, writes_one, first, beyond, by_change, nth}

-- the state s of a store of E entries has at `off` the part b; `whole` is s with another part there, and the same E
pub record Spot {B : Type 0} (e : ℕ) (s : State) (off : ℕ) (d : Codec B) (b : B) (whole : B → State) : Type 0 where
  pub part : Part (state_codec e) s off d b whole
  pub same : (y : B) → (whole y).entries ≡ s.entries

module _ {B : Type 0} {e : ℕ} {s : State} {d : Codec B} {b : B} {whole : B → State} where
  -- the same spot, its offset written another way
  pub spot_at : {m n : ℕ} → m ≡ n → Spot e s m d b whole → Spot e s n d b whole
  spot_at p t = record { part = part_at p t.part; same = t.same }

  -- a part of what stands there
  pub spot_in : {C : Type 0} {c : Codec C} {x : C} {m n : ℕ} {g : C → B} → Spot e s m d b whole → Part d b n c x g
      → Spot e s (m + n) c x (λ y. whole (g y))
  spot_in {g = g} t p = record { part = part_in t.part p; same = λ y. t.same (g y) }

-- ---- in a store as it should be

module _ {e : ℕ} {ws : List ℕ} (h : CanonStore e ws) where
  -- a word of the state's spelling
  pub state_reads : {off v : ℕ} → Reads (state_codec e) (decode ws) off v → get_or ws off 0 ≡ v
  state_reads {off} {v} r =
      canon_reads (canon_state h) (subst (λ (s : State). Reads (state_codec e) s off v) (decode_canon h) r)

  -- an act that changes the state's spelling into that of another of the same E
  pub state_writes : {off : ℕ} {act : Act} {t : State} → t.entries ≡ (decode ws).entries → Writes (state_codec e) (decode ws) off act t
      → act.run off ws ≡ put ws t
  state_writes {off} {act} {t} q w =
      canon_writes (canon_state h) (subst (λ (s : State). Writes (state_codec e) s off act t) (decode_canon h) w)
      ∙ sym (put_as ws t (q ∙ canon_entries h))

  module _ {B : Type 0} {off : ℕ} {d : Codec B} {b : B} {whole : B → State} (t : Spot e (decode ws) off d b whole) where
    -- a word of what stands there, its offset as code computes it
    pub looks : {j v : ℕ} (n : ℕ) → off + j ≡ n → Reads d b j v → get_or ws n 0 ≡ v
    looks {v = v} n q r = subst (λ (k : ℕ). get_or ws k 0 ≡ v) q (state_reads (reads_part t.part r))

    -- an act on it, from its first word on
    pub runs : {act : Act} {x : B} → Writes d b 0 act x → act.run off ws ≡ put ws (whole x)
    runs {x = x} w = state_writes (t.same x) (writes_first t.part w)

    -- it is written whole
    pub lays : (x : B) → (lay (d.enc x)).run off ws ≡ put ws (whole x)
    lays x = runs (writes_whole b x)

  module _ {off v : ℕ} {whole : ℕ → State} (t : Spot e (decode ws) off word v whole) where
    -- a field of one word is read
    pub reads_field : get_or ws off 0 ≡ v
    reads_field = state_reads (reads_one t.part)

    -- and written
    pub writes_field : (x : ℕ) → set ws off x ≡ put ws (whole x)
    unfolding store
    writes_field x = state_writes {act = store x} (t.same x) (writes_one t.part x)

-- ---- after a put

module _ {B : Type 0} {e off : ℕ} {s : State} {d : Codec B} {b : B} {whole : B → State} (ws : List ℕ) (q : s.entries ≡ e)
    (t : Spot e s off d b whole) where
  -- a word of what stands there
  pub put_looks : {j v : ℕ} → Reads d b j v → get_or (put ws s) (off + j) 0 ≡ v
  put_looks {j} {v} r =
      ap (λ (l : List ℕ). get_or l (off + j) 0) (put_as ws s q) ∙ put_reads ws (reads_part t.part r)

  -- an act on it is another put
  pub put_runs : {act : Act} {x : B} → Writes d b 0 act x → act.run off (put ws s) ≡ put ws (whole x)
  put_runs {act} {x} w =
      ap (act.run off) (put_as ws s q) ∙ put_writes ws (writes_first t.part w) ∙ sym (put_as ws (whole x) (t.same x ∙ q))

-- a change after a put, as a contract says it: the last put stands
pub put_step : (ws : List ℕ) (s : State) (f : State → State) → Shaped s → (f s).entries ≡ s.entries
    → put (put ws s) (f (decode (put ws s))) ≡ put ws (f s)
put_step ws s f h q = ap (λ (t : State). put (put ws s) (f t)) (decode_put ws s h) ∙ put_put ws s (f s) (sym q)

-- ---- the tables

module _ (e : ℕ) (s : State) where
  -- the consumers
  pub consumers_spot : Spot e s 16 (upto consumer_codec 32) s.consumers (with_consumers s)
  unfolding state_codec body_codec with_consumers
  consumers_spot =
      record {
        part = by_change (as_state e) (λ y. refl) (beyond _ _ width_header (by_change (as_body e) (λ y. refl) (first _ _)));
        same = λ y. refl;
      }

  -- the topics
  pub topics_spot : Spot e s topic_count_at (upto (topic_codec e) 8) s.topics (with_topics s)
  unfolding state_codec body_codec with_topics
  topics_spot =
      record {
        part =
            by_change (as_state e) (λ y. refl)
            (beyond _ _ width_header (by_change (as_body e) (λ y. refl) (beyond _ _ width_consumers (first _ _))));
        same = λ y. refl;
      }

  -- the dispatchers
  pub dispatchers_spot : Spot e s (dispatcher_count_at e) (upto (dispatcher_codec e) 8) s.dispatchers (with_dispatchers s)
  unfolding state_codec body_codec with_dispatchers
  dispatchers_spot =
      spot_at (omega arith)
      (record {
        part =
            by_change (as_state e) (λ y. refl)
            (beyond _ _ width_header
            (by_change (as_body e) (λ y. refl) (beyond _ _ width_consumers (beyond _ _ (width_topics e) (first _ _)))));
        same = λ y. refl;
      })

  -- ---- a record of a table

  -- consumer i
  pub consumer_spot : (i : ℕ) → i < length s.consumers → length s.consumers ≤ 32
      → Spot e s (consumer_at i) consumer_codec (consumer_nth s i) (set_consumer s i)
  unfolding set_consumer
  consumer_spot i h l =
      spot_at (omega arith) (spot_in consumers_spot (nth consumer_codec width_consumer 32 s.consumers i zero_consumer h l))

  -- topic t
  pub topic_spot : (t : ℕ) → t < length s.topics → length s.topics ≤ 8
      → Spot e s (topic_at e t) (topic_codec e) (topic_nth s t) (set_topic s t)
  unfolding set_topic
  topic_spot t h l =
      spot_at (omega arith) (spot_in topics_spot (nth (topic_codec e) (width_topic e) 8 s.topics t zero_topic h l))

  -- dispatcher d
  pub dispatcher_spot : (d : ℕ) → d < length s.dispatchers → length s.dispatchers ≤ 8
      → Spot e s (dispatcher_at e d) (dispatcher_codec e) (dispatcher_nth s d) (set_dispatcher s d)
  unfolding set_dispatcher
  dispatcher_spot d h l =
      spot_at (omega arith)
      (spot_in dispatchers_spot (nth (dispatcher_codec e) (width_dispatcher e) 8 s.dispatchers d zero_dispatcher h l))

-- ---- a list and its count

module _ {B : Type 0} {e off : ℕ} {ws : List ℕ} {d : Codec B} {b m : B} {whole : B → State} (h : CanonStore e ws)
    (t : Spot e (decode ws) off d b whole) where
  -- a change of the elements from `at` on and a store of the count are a change of the list
  pub lists : (x : Act) (k n : ℕ) → Writes d b 0 (both (past (1 + k) x) (store n)) m → (at : ℕ) → off + (1 + k) ≡ at
      → set (x.run at ws) off n ≡ put ws (whole m)
  unfolding both past store
  lists x k n w at q =
      ap (λ (i : ℕ). set (x.run i ws) off n) (sym q) ∙ runs h t {act = both (past (1 + k) x) (store n)} w

  -- a store of the count alone is a change of the list
  pub raises : (n : ℕ) → Writes d b 0 (store n) m → set ws off n ≡ put ws (whole m)
  unfolding store
  raises n w = runs h t {act = store n} w
