-- Entries that a shared consumer hands back, in words: one entry by three writes, and a list of ids one after another.
use mathlib.Core.Path.{◌≡◌, refl, sym, ap, ◌∙◌, subst}
use mathlib.Core.List.{List, [], ◌∷◌, ◌++◌}
use Prim.Native.Nat.{ℕ, ◌+◌, ◌≤◌, ◌<◌}
use native.Mathlib.Omega.{arith}
use lib.ListN.{length, get_or, set, take, drop, length-append}
use lib.Seq.{set-get_or}
use Rattle.rules.specs.State.{Pair, StoredMessage, Topic, Dispatcher, State, topic_of, ledger_of, with_dispatchers}
use Rattle.rules.specs.Dispatcher.{with_places, with_marks, mark_at}
use Rattle.rules.specs.Commands.{raised, redeliver_id, redeliver_groups}
use Rattle.rules.specs.Valid.{ValidDispatcher}
use Rattle.rules.proofs.Kept.Frame.{move_dispatcher}
use Rattle.rules.proofs.Kept.Redeliver.{redeliver_id_valid, redeliver_id_pair}
use Rattle.layout.specs.Layout.{decode, put}
use Rattle.layout.specs.Whole.{ShapedDispatcher}
use Rattle.layout.specs.Fields.{zero_dispatcher, zero_topic, dispatcher_nth, topic_nth, set_dispatcher}
use Rattle.layout.specs.Placed.{DispatcherIn, TopicIn}
use Rattle.layout.proofs.Store.{canon_entries, put_decode}
use Rattle.layout.proofs.Placed.{shaped_places, shaped_set_dispatcher, topic_in}
use Rattle.rules.specs.Groups.{Group}
use Rattle.operation_laws.proofs.Frame.{decode_after, dispatcher_twice, dispatcher_set_in, dispatcher_now_is}
use Rattle.dispatcher.proofs.Returning.{length_without}
use Rattle.redeliver.specs.Back.{handed}
use Rattle.redeliver.proofs.Holds.{valid_fits, redeliver_absent}

-- ---- one entry

-- the position at the queue's end
abbrev queued : ℕ → Dispatcher → Dispatcher
queued k d = with_places d (d.redelivery ++ k ∷ []) d.in_flight

-- entry j no longer in flight
abbrev landed : ℕ → Dispatcher → Dispatcher
landed j d = with_places d d.redelivery (take j d.in_flight ++ drop (j + 1) d.in_flight)

-- the redelivery count risen
abbrev counted : ℕ → Dispatcher → Dispatcher
counted k d = with_marks d (set d.marks k (raised (mark_at d k))) d.outside

module _ {e : ℕ} {ws : List ℕ} (d j k : ℕ) (h : DispatcherIn e ws d) (l : j < length (dispatcher_nth (decode ws) d).in_flight)
    (room : length (dispatcher_nth (decode ws) d).redelivery < e) (m : k < length (dispatcher_nth (decode ws) d).marks) where
  -- the queue fits with one position more
  longer : length ((dispatcher_nth (decode ws) d).redelivery ++ k ∷ []) ≤ e
  longer = simp length-append (omega (arith, room))

  queued_fits : ShapedDispatcher (decode ws).entries (queued k (dispatcher_nth (decode ws) d))
  queued_fits =
      let x = dispatcher_nth (decode ws) d in
      rw (canon_entries h.canon) (shaped_places x h.lists_fit (x.redelivery ++ k ∷ []) x.in_flight longer h.lists_fit.flight_fits)

  landed_fits : ShapedDispatcher (decode ws).entries (landed j (queued k (dispatcher_nth (decode ws) d)))
  unfolding with_places
  landed_fits =
      let x = dispatcher_nth (decode ws) d in
      let n = length_without j x.in_flight l in
      let f = h.lists_fit.flight_fits in
      rw (canon_entries h.canon) (shaped_places x h.lists_fit (x.redelivery ++ k ∷ []) (take j x.in_flight ++ drop (j + 1) x.in_flight) longer (omega (arith, n, f)))

  module _ {us : List ℕ} (w : us ≡ put ws (set_dispatcher (decode ws) d (queued k (dispatcher_nth (decode ws) d)))) where
    -- after the first write the same entries are in flight
    pub queued_in : DispatcherIn e us d × (j < length (dispatcher_nth (decode us) d).in_flight)
    unfolding with_places
    queued_in =
        let x = queued k (dispatcher_nth (decode ws) d) in
        let same : dispatcher_nth (decode us) d ≡ x = dispatcher_now_is ws (decode ws) d x h.canon.shaped queued_fits w h.there in (
          dispatcher_set_in ws (decode ws) d x h.canon.shaped (canon_entries h.canon) queued_fits w h.there,
          rw same l,
        )

    module _ {vs : List ℕ} (w' : vs ≡ put us (set_dispatcher (decode us) d (landed j (dispatcher_nth (decode us) d)))) where
      -- the first two writes in one
      both : vs ≡ put ws (set_dispatcher (decode ws) d (landed j (queued k (dispatcher_nth (decode ws) d))))
      both = dispatcher_twice ws (decode ws) d (queued k (dispatcher_nth (decode ws) d)) (landed j) h.canon.shaped queued_fits h.there w w'

      -- after them the same marks are there
      pub landed_in : DispatcherIn e vs d × (k < length (dispatcher_nth (decode vs) d).marks)
      unfolding with_places
      landed_in =
          let x = landed j (queued k (dispatcher_nth (decode ws) d)) in
          let same : dispatcher_nth (decode vs) d ≡ x = dispatcher_now_is ws (decode ws) d x h.canon.shaped landed_fits both h.there in (
            dispatcher_set_in ws (decode ws) d x h.canon.shaped (canon_entries h.canon) landed_fits both h.there,
            rw same m,
          )

      -- all three in one
      pub handed_words : {xs : List ℕ} → xs ≡ put vs (set_dispatcher (decode vs) d (counted k (dispatcher_nth (decode vs) d)))
          → xs ≡ put ws (set_dispatcher (decode ws) d (handed j k (dispatcher_nth (decode ws) d)))
      unfolding handed with_places with_marks mark_at
      handed_words w'' =
          dispatcher_twice ws (decode ws) d (landed j (queued k (dispatcher_nth (decode ws) d))) (counted k) h.canon.shaped landed_fits h.there both w''

-- ---- a list of ids

-- words that stay are those of the dispatcher that stays
pub stays : {e : ℕ} {ws : List ℕ} (d : ℕ) (x : Dispatcher) → DispatcherIn e ws d → x ≡ dispatcher_nth (decode ws) d → ws ≡ put ws (set_dispatcher (decode ws) d x)
unfolding set_dispatcher with_dispatchers
stays {e} {ws} d x h q = rw (q, set-get_or (decode ws).dispatchers d zero_dispatcher) (sym (put_decode h.canon))

-- some ids are handed back: the words us are ws with another dispatcher d, which is valid, and what is ahead of it comes to
-- what the whole list does
pub record Handing (e : ℕ) (ws us : List ℕ) (d topic i : ℕ) (all ahead : List Group) : Type 0 where
  pub here : DispatcherIn e us d
  pub good : ValidDispatcher (decode us) (dispatcher_nth (decode us) d)
  pub of_topic : (dispatcher_nth (decode us) d).pair.topic ≡ topic
  pub topics : (decode us).topics ≡ (decode ws).topics
  pub ledger : ledger_of (decode us) topic ≡ ledger_of (decode ws) topic
  pub words : us ≡ put ws (set_dispatcher (decode ws) d (dispatcher_nth (decode us) d))
  pub same : redeliver_groups (ledger_of (decode ws) topic) i (dispatcher_nth (decode us) d) ahead
      ≡ redeliver_groups (ledger_of (decode ws) topic) i (dispatcher_nth (decode ws) d) all

module _ {e : ℕ} {ws : List ℕ} (d topic i : ℕ) (all : List Group) (h : DispatcherIn e ws d) where
  -- at the start
  pub handing_start : ValidDispatcher (decode ws) (dispatcher_nth (decode ws) d) → (dispatcher_nth (decode ws) d).pair.topic ≡ topic
      → Handing e ws ws d topic i all all
  handing_start v t = record { here = h; good = v; of_topic = t; topics = refl; ledger = refl; words = stays d (dispatcher_nth (decode ws) d) h refl; same = refl }

  module _ {us : List ℕ} (gs : List Group) (r : Handing e ws us d topic i all gs) where
    -- at the end
    pub handing_end : gs ≡ [] → us ≡ put ws (set_dispatcher (decode ws) d (redeliver_groups (ledger_of (decode ws) topic) i (dispatcher_nth (decode ws) d) all))
    unfolding redeliver_groups
    handing_end l =
        let n : redeliver_groups (ledger_of (decode ws) topic) i (dispatcher_nth (decode us) d) gs ≡ dispatcher_nth (decode us) d = rw l in
        r.words ∙ ap (λ (y : Dispatcher). put ws (set_dispatcher (decode ws) d y)) (sym n ∙ r.same)

    -- the topic's slot in the words now
    pub handing_slot : (t : ℕ) → (ledger_of (decode ws) topic ≡ (topic_nth (decode ws) t).messages) × (t < length (decode ws).topics)
        → TopicIn e us t × (ledger_of (decode us) (dispatcher_nth (decode us) d).pair.topic ≡ (topic_nth (decode us) t).messages)
    handing_slot t q = (
      topic_in r.here.canon t (rw r.topics q.1),
      rw r.of_topic (r.ledger ∙ q.0 ∙ ap (λ (l : List Topic). (get_or l t zero_topic).messages) (sym r.topics)),
    )

    -- the dispatcher after a turn
    abbrev turned : Group → Dispatcher
    turned g = redeliver_id (ledger_of (decode us) topic) i (dispatcher_nth (decode us) d) g.id

    turned_valid : (g : Group) → ValidDispatcher (decode us) (turned g)
    turned_valid g = redeliver_id_valid (decode us) (ledger_of (decode us) topic) i (dispatcher_nth (decode us) d) g.id r.good

    turned_fits : (g : Group) → ShapedDispatcher (decode us).entries (turned g)
    turned_fits g =
        let p = ap (λ (x : Pair). length (ledger_of (decode us) x.topic)) (redeliver_id_pair (ledger_of (decode us) topic) i (dispatcher_nth (decode us) d) g.id) in
        let m = r.good.entry_marks.one_each in
        let f = r.here.lists_fit.marks_fit in
        subst (λ (n : ℕ). ShapedDispatcher n (turned g)) (sym (canon_entries r.here.canon)) (valid_fits e (decode us) (turned g) (turned_valid g) (omega (arith, p, m, f)))

    module _ {vs : List ℕ} (g : Group) (w : vs ≡ put us (set_dispatcher (decode us) d (turned g))) where
      -- what the words decode to
      now_turned : dispatcher_nth (decode vs) d ≡ turned g
      now_turned = dispatcher_now_is us (decode us) d (turned g) r.here.canon.shaped (turned_fits g) w r.here.there

      same_ledger : (t : ℕ) → ledger_of (decode vs) t ≡ ledger_of (decode us) t
      unfolding ledger_of topic_of set_dispatcher with_dispatchers
      same_ledger t = ap (λ (s : State). ledger_of s t) (decode_after us _ (shaped_set_dispatcher (decode us) r.here.canon.shaped d (turned g) (turned_fits g)) w)

      same_topics : (decode vs).topics ≡ (decode us).topics
      unfolding set_dispatcher with_dispatchers
      same_topics = ap (λ (s : State). s.topics) (decode_after us _ (shaped_set_dispatcher (decode us) r.here.canon.shaped d (turned g) (turned_fits g)) w)

      turn_words : vs ≡ put ws (set_dispatcher (decode ws) d (dispatcher_nth (decode vs) d))
      turn_words =
          let x = dispatcher_nth (decode us) d in
          let f : ShapedDispatcher (decode ws).entries x = rw (canon_entries h.canon) r.here.lists_fit in
          dispatcher_twice ws (decode ws) d x (λ (y : Dispatcher). redeliver_id (ledger_of (decode us) topic) i y g.id) h.canon.shaped f h.there r.words w
          ∙ ap (λ (y : Dispatcher). put ws (set_dispatcher (decode ws) d y)) (sym now_turned)

      turn_valid : ValidDispatcher (decode vs) (dispatcher_nth (decode vs) d)
      turn_valid = rw now_turned (move_dispatcher (decode us) (decode vs) (turned g) (same_ledger (turned g).pair.topic) (turned_valid g))

      turn_same : (rest : List Group) → gs ≡ g ∷ rest → redeliver_groups (ledger_of (decode ws) topic) i (dispatcher_nth (decode vs) d) rest
          ≡ redeliver_groups (ledger_of (decode ws) topic) i (dispatcher_nth (decode ws) d) all
      unfolding redeliver_groups
      turn_same rest k =
          let x = dispatcher_nth (decode us) d in
          let l = ledger_of (decode ws) topic in
          let n : dispatcher_nth (decode vs) d ≡ redeliver_id l i x g.id = now_turned ∙ ap (λ (m : List StoredMessage). redeliver_id m i x g.id) r.ledger in
          let f : redeliver_groups l i x gs ≡ redeliver_groups l i (redeliver_id l i x g.id) rest = rw k in
          ap (λ (y : Dispatcher). redeliver_groups l i y rest) n ∙ sym f ∙ r.same

      -- a turn
      pub handing_turn : (rest : List Group) → gs ≡ g ∷ rest → Handing e ws vs d topic i all rest
      handing_turn rest k =
          record {
            here = dispatcher_set_in us (decode us) d (turned g) r.here.canon.shaped (canon_entries r.here.canon) (turned_fits g) w r.here.there;
            good = turn_valid;
            of_topic = rw now_turned (ap (λ (x : Pair). x.topic) (redeliver_id_pair (ledger_of (decode us) topic) i (dispatcher_nth (decode us) d) g.id) ∙ r.of_topic);
            topics = same_topics ∙ r.topics;
            ledger = same_ledger topic ∙ r.ledger;
            words = turn_words;
            same = turn_same rest k;
          }

-- no id is in a ledger of none: the dispatcher stays
pub handed_nowhere : (s : State) (i topic : ℕ) (d : Dispatcher) (gs : List Group) → ValidDispatcher s d → d.pair.topic ≡ topic → ledger_of s topic ≡ []
    → redeliver_groups (ledger_of s topic) i d gs ≡ d
unfolding redeliver_groups
handed_nowhere s i topic d [] v t e = refl
handed_nowhere s i topic d (g ∷ gs) v t e =
    let n = ap (λ (l : List StoredMessage). length l) e in
    rw (redeliver_absent s i topic d g.id v t (omega arith)) (handed_nowhere s i topic d gs v t e)
