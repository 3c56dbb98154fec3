-- The rule of append by the slot of its topic, and the state after in the steps of the code.
use mathlib.Core.Path.{◌≡◌, refl, sym, ap, ◌∙◌, subst}
use mathlib.Core.Bool.{true, false, not}
use mathlib.Core.List.{List, [], ◌∷◌, ◌++◌, map}
use mathlib.Core.Option.{none, some}
use Prim.Native.Nat.{ℕ, ◌≤◌, ◌<◌}
use native.Mathlib.Omega.{arith}
use lib.Dec.{eqb, leb, ltb}
use lib.ListN.{length, get_or, set, length-append}
use lib.Seq.{get_or-append_seam, set-append_seam}
use borrow.Author.Tests.{ltb-true, ltb-false, lt-ltb, le-ltb, le-leb, lt-leb, leb-false, ne_eqb}
use Rattle.words.proofs.Each.{all_append}
use Rattle.rules.specs.Table.{Every, put, is_some}
use Rattle.rules.specs.State.{Id, StoredMessage, Topic, State, by_number, topic_of, ledger_of, with_topics, with_dispatchers}
use Rattle.rules.specs.Ledger.{position_of, holds_id, appended}
use Rattle.rules.specs.Outcome.{guard}
use Rattle.rules.specs.Outcome.Outcome.{refused, done}
use Rattle.rules.specs.Outcome.Value.{nothing}
use Rattle.rules.specs.Commands.{append, with_new_entry}
use Rattle.rules.specs.Calls.{rule}
use Rattle.rules.specs.Calls.Call.{Append}
use Rattle.rules.specs.Valid.{Valid}
use Rattle.rules.proofs.Table.{by_test, decides_numbers}
use Rattle.rules.proofs.Ids.{ascending_distinct}
use Rattle.layout.specs.Layout.{decode, put as put_state}
use Rattle.layout.specs.Whole.{Shaped, ShapedTopic}
use Rattle.layout.specs.Canon.{CanonStore}
use Rattle.layout.specs.Fields.{zero_topic, topic_nth, set_topic, with_number}
use Rattle.layout.specs.Placed.{TopicIn}
use Rattle.layout.proofs.Store.{canon_entries}
use Rattle.layout.proofs.Placed.{topic_in, shaped_topics, shaped_set_topic}
use Rattle.store.specs.Find.{slot}
use Rattle.store.proofs.Finding.{slot_found, slot_none, slot_le}
use Rattle.topic.proofs.Ledgers.{ledger_at, ledger_none}
use Rattle.append.specs.Appends.{append_refusal, with_topic, append_state}
use Rattle.append.specs.Entries.{Takes}
use Rattle.operation_laws.proofs.Frame.{put_found, put_missing, slot_key, guard_stop, guard_pass, then_write, canon_after, decode_after}

-- ---- the rule

-- a batch that is too large
pub append_large : (s : State) (topic : ℕ) (m : StoredMessage) → 256 < m.batch_size → rule s (Append topic m) ≡ refused 8
unfolding rule append
append_large s topic m h = guard_stop _ _ _ (lt-ltb 256 m.batch_size h)

-- each refusal by the slot
module _ (s : State) (t : ℕ) (i : Id) where
  module _ (h : length s.topics ≤ t) where
    pub refusal_5 : 8 ≤ length s.topics → 5 ≡ append_refusal s t i
    unfolding append_refusal
    refusal_5 k = rw (le-ltb t (length s.topics) h, le-leb 8 (length s.topics) k)

    pub refusal_new : length s.topics < 8 → 0 ≡ append_refusal s t i
    unfolding append_refusal
    refusal_new k = rw (le-ltb t (length s.topics) h, lt-leb 8 (length s.topics) k)

  module _ (h : t < length s.topics) where
    pub refusal_7 : holds_id i (topic_nth s t).messages ≡ true → 7 ≡ append_refusal s t i
    unfolding append_refusal
    refusal_7 k = rw (lt-ltb t (length s.topics) h, k)

    module _ (k : holds_id i (topic_nth s t).messages ≡ false) where
      pub refusal_6 : s.entries ≤ length (topic_nth s t).messages → 6 ≡ append_refusal s t i
      unfolding append_refusal
      refusal_6 l = rw (lt-ltb t (length s.topics) h, k, le-leb s.entries (length (topic_nth s t).messages) l)

      pub refusal_none : length (topic_nth s t).messages < s.entries → 0 ≡ append_refusal s t i
      unfolding append_refusal
      refusal_none l = rw (lt-ltb t (length s.topics) h, k, lt-leb s.entries (length (topic_nth s t).messages) l)

module _ (s : State) (t topic : ℕ) (e : t ≡ slot by_number topic s.topics) where
  -- the topic exists
  topic_there : t < length s.topics → topic_of s topic ≡ some (topic_nth s t)
  unfolding topic_of
  topic_there h = rw e (slot_found by_number topic s.topics zero_topic (rw e at h))

  pub ledger_there : t < length s.topics → ledger_of s topic ≡ (topic_nth s t).messages
  ledger_there h = rw e (ledger_at s topic (rw e at h))

  -- it does not
  topic_new : length s.topics ≤ t → topic_of s topic ≡ none
  unfolding topic_of
  topic_new h = slot_none by_number topic s.topics (rw e at h)

  ledger_new : length s.topics ≤ t → ledger_of s topic ≡ []
  ledger_new h = ledger_none s topic (rw e at h)

  -- the rule past the first refusal, by one number
  pub append_by : (m : StoredMessage) → 1 ≤ s.entries → m.batch_size ≤ 256
      → rule s (Append topic m) ≡ guard (not (eqb (append_refusal s t m.id) 0)) (append_refusal s t m.id) (done nothing (append_state s topic m))
  unfolding rule append append_refusal append_state guard is_some holds_id position_of
  append_by m E b =
      guard_pass _ _ _ (le-ltb 256 m.batch_size b)
      ∙ by_test (ltb t (length s.topics))
      (λ h. let l = ltb-true t (length s.topics) h in
      rw (h, topic_there l, ledger_there l)
      (by_test (holds_id m.id (topic_nth s t).messages) (λ u. rw u)
      (λ u. rw u (by_test (leb s.entries (length (topic_nth s t).messages)) (λ v. rw v) (λ v. rw v)))))
      (λ h. let l = ltb-false t (length s.topics) h in
      rw (h, topic_new l, ledger_new l)
      (by_test (leb 8 (length s.topics)) (λ u. rw u) (λ u. rw (u, lt-leb s.entries 0 E))))

  -- refused by that number
  pub append_refused : (m : StoredMessage) (r : ℕ) → 1 ≤ s.entries → m.batch_size ≤ 256 → r ≡ append_refusal s t m.id → (r ≡ 0 → ⊥) → rule s (Append topic m) ≡ refused r
  append_refused m r E b q n =
      append_by m E b ∙ guard_stop _ _ _ (rw (← q, ne_eqb r 0 n)) ∙ ap refused (sym q)

  -- or done
  pub append_done : (m : StoredMessage) → 1 ≤ s.entries → m.batch_size ≤ 256 → append_refusal s t m.id ≡ 0 → rule s (Append topic m) ≡ done nothing (append_state s topic m)
  append_done m E b q = append_by m E b ∙ guard_pass _ _ _ (rw q)

  -- what follows where no refusal applies: there is room
  module _ (i : Id) (r : append_refusal s t i ≡ 0) where
    pub room_there : t < length s.topics → length (topic_nth s t).messages < s.entries
    unfolding append_refusal
    room_there h =
        let q = rw (lt-ltb t (length s.topics) h) at r in
        by_test (leb s.entries (length (topic_nth s t).messages))
        (λ v. by_test (holds_id i (topic_nth s t).messages)
        (λ u. let z : ◌≡◌ {A = ℕ} 7 0 = rw u at q in let none : ⊥ = omega arith in absurd none)
        (λ u. let z : ◌≡◌ {A = ℕ} 6 0 = rw (u, v) at q in let none : ⊥ = omega arith in absurd none))
        (λ v. leb-false s.entries (length (topic_nth s t).messages) v)

    pub room_new : length s.topics ≤ t → length s.topics < 8
    unfolding append_refusal
    room_new h =
        let q = rw (le-ltb t (length s.topics) h) at r in
        by_test (leb 8 (length s.topics))
        (λ u. let z : ◌≡◌ {A = ℕ} 5 0 = rw u at q in let none : ⊥ = omega arith in absurd none)
        (λ u. leb-false 8 (length s.topics) u)

    -- the slot is one of eight
    pub slot_below : length s.topics ≤ 8 → t < 8
    slot_below f =
        let l = slot_le by_number topic s.topics in
        by_test (ltb t (length s.topics))
        (λ h. let k = ltb-true t (length s.topics) h in omega arith)
        (λ h. let k = room_new (ltb-false t (length s.topics) h) in omega arith)

    -- the ledger has room
    pub ledger_room : 1 ≤ s.entries → length (ledger_of s topic) < s.entries
    ledger_room E =
        by_test (ltb t (length s.topics))
        (λ h. let k = ltb-true t (length s.topics) h in rw (ledger_there k) (room_there k))
        (λ h. rw (ledger_new (ltb-false t (length s.topics) h)) E)

  -- ---- the topic, made or there

  -- it is there
  pub topic_made_there : t < length s.topics → with_topic s t topic ≡ s
  unfolding with_topic
  topic_made_there h = rw (lt-ltb t (length s.topics) h)

  -- it is made
  pub topic_made_new : length s.topics ≤ t → with_topic s t topic ≡ with_topics s (s.topics ++ record { number = topic; messages = [] } ∷ [])
  unfolding with_topic
  topic_made_new h = rw (le-ltb t (length s.topics) h)

  -- a new one stands at its slot
  new_slot : length s.topics ≤ t → t ≡ length s.topics
  new_slot h = let l = slot_le by_number topic s.topics in omega arith

  -- in the steps of the code
  pub number_set : length s.topics ≤ t
      → set_topic (with_topics s (s.topics ++ zero_topic ∷ [])) t (with_number (topic_nth (with_topics s (s.topics ++ zero_topic ∷ [])) t) topic) ≡ with_topic s t topic
  unfolding set_topic with_topics with_number
  number_set h =
      rw (new_slot h, get_or-append_seam s.topics zero_topic [] zero_topic, set-append_seam)
      (sym (subst (λ (n : ℕ). with_topic s n topic ≡ with_topics s (s.topics ++ record { number = topic; messages = [] } ∷ [])) (new_slot h) (topic_made_new h)))

  -- the message appended to a topic that is there is the rule's put
  put_there : (m : StoredMessage) → t < length s.topics
      → set_topic s t (appended m (topic_nth s t)) ≡ with_topics s (put by_number (appended m (record { number = topic; messages = ledger_of s topic })) s.topics)
  unfolding set_topic appended
  put_there m h =
      let x = topic_nth s t in
      let y = appended m x in
      let n : x.number ≡ topic = rw e (slot_key by_number decides_numbers topic s.topics zero_topic (rw e at h)) in
      let at : slot by_number y.number s.topics ≡ t = ap (λ (k : ℕ). slot by_number k s.topics) n ∙ sym e in
      let l : slot by_number y.number s.topics < length s.topics = rw at h in
      ap (with_topics s)
      (sym (rw (ledger_there h, ← n) (put_found by_number y s.topics l ∙ ap (λ (k : ℕ). set s.topics k y) at)))

  -- and so is the first message of a new one
  put_new : (m : StoredMessage) → length s.topics ≤ t
      → set_topic (with_topics s (s.topics ++ record { number = topic; messages = [] } ∷ [])) t
      (appended m (topic_nth (with_topics s (s.topics ++ record { number = topic; messages = [] } ∷ [])) t))
      ≡ with_topics s (put by_number (appended m (record { number = topic; messages = ledger_of s topic })) s.topics)
  unfolding set_topic with_topics appended
  put_new m h =
      let x : Topic = record { number = topic; messages = [] } in
      let l : length s.topics ≤ slot by_number topic s.topics = rw e at h in
      rw (new_slot h, get_or-append_seam s.topics x [] zero_topic, set-append_seam, ledger_new h)
      (ap (with_topics s) (sym (put_missing by_number (appended m x) s.topics l)))

  -- either way
  pub message_put : (m : StoredMessage)
      → set_topic (with_topic s t topic) t (appended m (topic_nth (with_topic s t topic) t))
      ≡ with_topics s (put by_number (appended m (record { number = topic; messages = ledger_of s topic })) s.topics)
  message_put m =
      by_test (ltb t (length s.topics))
      (λ h. let k = ltb-true t (length s.topics) h in
      ap (λ (x : State). set_topic x t (appended m (topic_nth x t))) (topic_made_there k) ∙ put_there m k)
      (λ h. let k = ltb-false t (length s.topics) h in
      ap (λ (x : State). set_topic x t (appended m (topic_nth x t))) (topic_made_new k) ∙ put_new m k)

-- ---- in the words

-- a valid state's dispatchers take an entry for which the ledger has room
pub all_take : (s : State) (topic : ℕ) → Valid s → length (ledger_of s topic) < s.entries → Every (Takes s.entries topic) s.dispatchers
all_take s topic v r d m q =
    let w = v.tables.each_dispatcher d m in
    let l : length (ledger_of s d.pair.topic) < s.entries = subst (λ (n : ℕ). length (ledger_of s n) < s.entries) q r in
    record { room = rw w.entry_marks.one_each l; outside_once = ascending_distinct d.outside w.outside_ids.outside_ascending }

module _ {e : ℕ} {ws : List ℕ} (t topic : ℕ) (h : CanonStore e ws) (q : t ≡ slot by_number topic (decode ws).topics) where
  -- a topic joined fits
  joined_fits : (x : Topic) → ShapedTopic (decode ws).entries x → length (decode ws).topics < 8 → Shaped (with_topics (decode ws) ((decode ws).topics ++ x ∷ []))
  joined_fits x f r =
      let n : length ((decode ws).topics ++ x ∷ []) ≤ 8 = simp length-append (omega arith) in
      shaped_topics (decode ws) h.shaped ((decode ws).topics ++ x ∷ []) n
      (all_append (ShapedTopic (decode ws).entries) (decode ws).topics (x ∷ []) h.shaped.each_topic (f, tt))

  module _ (l : length (decode ws).topics ≤ t) (r : length (decode ws).topics < 8)
      {us : List ℕ} (w : us ≡ put_state ws (with_topics (decode ws) ((decode ws).topics ++ zero_topic ∷ []))) where
    -- a topic just joined is there
    pub joined_in : TopicIn e us t
    unfolding with_topics
    joined_in =
        let x = with_topics (decode ws) ((decode ws).topics ++ zero_topic ∷ []) in
        let f = joined_fits zero_topic (omega arith) r in
        let d = ap (λ (y : State). length y.topics) (decode_after ws x f w) in
        let n = new_slot (decode ws) t topic q l in
        let k : t < length (decode us).topics = rw d (simp length-append (omega arith)) in
        topic_in (canon_after ws x f (canon_entries h) w) t k

    -- and made once it has its number
    pub made_words : {vs : List ℕ} → vs ≡ put_state us (set_topic (decode us) t (with_number (topic_nth (decode us) t) topic)) → vs ≡ put_state ws (with_topic (decode ws) t topic)
    unfolding with_topics set_topic
    made_words w' =
        let x = with_topics (decode ws) ((decode ws).topics ++ zero_topic ∷ []) in
        then_write ws x (λ (y : State). set_topic y t (with_number (topic_nth y t) topic)) (joined_fits zero_topic (omega arith) r) refl w w'
        ∙ ap (put_state ws) (number_set (decode ws) t topic q l)

  module _ (i : Id) (r : append_refusal (decode ws) t i ≡ 0) where
    -- the state with the topic fits
    made_fits : Shaped (with_topic (decode ws) t topic)
    made_fits =
        by_test (ltb t (length (decode ws).topics))
        (λ u. let k = ltb-true t (length (decode ws).topics) u in rw (topic_made_there (decode ws) t topic q k) h.shaped)
        (λ u. let k = ltb-false t (length (decode ws).topics) u in
        rw (topic_made_new (decode ws) t topic q k)
        (joined_fits (record { number = topic; messages = [] }) (omega arith) (room_new (decode ws) t topic q i r k)))

    -- it has the E of the store
    made_entries : (with_topic (decode ws) t topic).entries ≡ (decode ws).entries
    unfolding with_topic with_topics
    made_entries = by_test (ltb t (length (decode ws).topics)) (λ u. rw u) (λ u. rw u)

    -- the topic is there, and its ledger has room
    made_there : (t < length (with_topic (decode ws) t topic).topics) × (length (topic_nth (with_topic (decode ws) t topic) t).messages < (decode ws).entries)
    unfolding with_topics
    made_there =
        by_test (ltb t (length (decode ws).topics))
        (λ u. let k = ltb-true t (length (decode ws).topics) u in
        rw (topic_made_there (decode ws) t topic q k) (k, room_there (decode ws) t topic q i r k))
        (λ u. let k = ltb-false t (length (decode ws).topics) u in
        let n = new_slot (decode ws) t topic q k in
        let x : Topic = record { number = topic; messages = [] } in
        let l : t < length ((decode ws).topics ++ x ∷ []) = simp length-append (omega arith) in
        let z : get_or ((decode ws).topics ++ x ∷ []) t zero_topic ≡ x = rw n (get_or-append_seam (decode ws).topics x [] zero_topic) in
        let o : length (get_or ((decode ws).topics ++ x ∷ []) t zero_topic).messages < (decode ws).entries = rw z h.shaped.E_least in
        rw (topic_made_new (decode ws) t topic q k) (l, o))

    module _ {us : List ℕ} (w : us ≡ put_state ws (with_topic (decode ws) t topic)) where
      -- so it is in the words
      pub made_in : TopicIn e us t × (length (topic_nth (decode us) t).messages < e)
      made_in =
          let d = decode_after ws (with_topic (decode ws) t topic) made_fits w in
          let k : t < length (decode us).topics = rw d made_there.0 in
          let o : length (topic_nth (decode us) t).messages < e = rw (d, ← canon_entries h) made_there.1 in
          (topic_in (canon_after ws (with_topic (decode ws) t topic) made_fits (made_entries ∙ canon_entries h) w) t k, o)

      module _ (m : StoredMessage) {vs : List ℕ} (w' : vs ≡ put_state us (set_topic (decode us) t (appended m (topic_nth (decode us) t)))) where
        -- the state with the message
        messaged : State
        messaged = set_topic (with_topic (decode ws) t topic) t (appended m (topic_nth (with_topic (decode ws) t topic) t))

        messaged_fits : Shaped messaged
        unfolding messaged appended
        messaged_fits =
            let x = with_topic (decode ws) t topic in
            let n : length ((topic_nth x t).messages ++ m ∷ []) ≤ x.entries = rw made_entries (simp length-append (omega (arith, made_there.1))) in
            shaped_set_topic x made_fits t (appended m (topic_nth x t)) n

        messaged_words : vs ≡ put_state ws messaged
        unfolding messaged set_topic with_topics
        messaged_words =
            then_write ws (with_topic (decode ws) t topic) (λ (y : State). set_topic y t (appended m (topic_nth y t))) made_fits refl w w'

        messaged_same : (messaged.entries ≡ (decode ws).entries) × (messaged.dispatchers ≡ (decode ws).dispatchers)
        unfolding messaged with_topics
        messaged_same = let p = message_put (decode ws) t topic q m in (ap (λ (y : State). y.entries) p, ap (λ (y : State). y.dispatchers) p)

        -- the dispatchers are as they were
        pub messaged_in : Valid (decode ws) → CanonStore e vs × Every (Takes e topic) (decode vs).dispatchers
        messaged_in v =
            let d : (decode vs).dispatchers ≡ (decode ws).dispatchers = ap (λ (y : State). y.dispatchers) (decode_after ws messaged messaged_fits messaged_words) ∙ messaged_same.1 in
            let a : Every (Takes e topic) (decode ws).dispatchers =
            subst (λ (n : ℕ). Every (Takes n topic) (decode ws).dispatchers) (canon_entries h)
            (all_take (decode ws) topic v (ledger_room (decode ws) t topic q i r h.shaped.E_least)) in
            (canon_after ws messaged messaged_fits (messaged_same.0 ∙ canon_entries h) messaged_words, rw d a)

        -- the whole append
        pub appended_all : {xs : List ℕ} → xs ≡ put_state vs (with_dispatchers (decode vs) (map (with_new_entry topic m.id) (decode vs).dispatchers))
            → xs ≡ put_state ws (append_state (decode ws) topic m)
        unfolding with_dispatchers append_state with_topics messaged
        appended_all w'' =
            then_write ws messaged (λ (y : State). with_dispatchers y (map (with_new_entry topic m.id) y.dispatchers)) messaged_fits refl messaged_words w''
            ∙ ap (λ (y : State). put_state ws (with_dispatchers y (map (with_new_entry topic m.id) y.dispatchers))) (message_put (decode ws) t topic q m)
