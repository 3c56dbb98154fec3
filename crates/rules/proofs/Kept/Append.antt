-- An append keeps a state sound: the topic's ledger grows by a message with a new id, its dispatchers by a mark.
use Prim.Native.Nat.{ℕ, suc, ◌+◌, ◌≤◌, ◌<◌}
use mathlib.Core.Path.{◌≡◌, refl, sym, ◌∙◌, ap, subst}
use mathlib.Core.Bool.{Bool, true, false, cond, not}
use mathlib.Core.List.Memᴰ
use mathlib.Core.List.{List, [], ◌∷◌, ◌++◌, map, map-append, Memᴰ}
use mathlib.Core.Option
use mathlib.Core.Option.{Option, none, some}
use native.Mathlib.Nat.{le_trans, le_of_eq}
use native.Mathlib.Omega.{arith}
use lib.Dec.{eqb}
use lib.ListN.{length, length-append, length-map}
use borrow.Author.Tests.{eqb-true, eq-eqb, ltb-false, leb-false, le-ltb, not-true}
use Rattle.rules.specs.Table.{find, keep, Every, Distinct, is_some, or_else}
use Rattle.rules.specs.State.{Id, same_id, StoredMessage, Topic, same_pair, Dispatcher, State, completed, unacknowledged, by_number, by_pair, topic_of, ledger_of, with_topics, with_dispatchers}
use Rattle.rules.specs.Ledger.{position_of, holds_id, appended}
use Rattle.rules.specs.Dispatcher.{with_marks, is_outside}
use Rattle.rules.specs.Commands.{with_new_entry, append}
use Rattle.rules.specs.Calls.{fits}
use Rattle.rules.specs.Calls.Call.{Append}
use Rattle.rules.specs.Valid.{ValidMessage, ValidTopic, ValidMark, ValidOutside, ValidDispatcher, Sound}
use Rattle.rules.proofs.Says.{says_and, every_cons}
use Rattle.rules.proofs.Valid.{says_byte, says_word, says_id}
use Rattle.rules.proofs.Table.{by_test, decides_numbers, turned_round, keys_map, length_keep}
use Rattle.rules.proofs.State.{decides_ids}
use Rattle.rules.proofs.Appended.{entry_added, ledger_after, entry_pair, ring_after}
use Rattle.rules.proofs.Ledger.{position_past}
use Rattle.rules.proofs.Ids.{ascending_keep_ids}
use Rattle.rules.proofs.Kept.Every.{every_snoc, kept_was, kept_passes, distinct_snoc, found_in, every_put, length_put, distinct_put}
use Rattle.rules.proofs.Kept.Frame.{move_consumer, move_dispatcher}
use Rattle.rules.proofs.Kept.Parts.{ring_of, places_of, by_parts, valid_no_bits}
use Rattle.rules.proofs.Kept.Outcomes.{Keeps, keeps_guard, room_left}
use Rattle.rules.proofs.Kept.Marks.{valid_more_marks}

-- ---- the ledger

-- what holds of no message and of each topic's ledger holds of every ledger
pub each_ledger : (P : List StoredMessage → Type 0) (s : State) → P [] → ((t : Topic) → Memᴰ t s.topics → P t.messages) → (n : ℕ) → P (ledger_of s n)
unfolding ledger_of topic_of or_else
each_ledger P s none_yet some_yet n = go (find by_number n s.topics) refl
  where
    go : (o : Option Topic) → find by_number n s.topics ≡ o → P (or_else (Option.map (λ (t : Topic). t.messages) o) [])
    go none e = none_yet
    go (some t) e = some_yet t (found_in by_number n s.topics t e)

-- an id that is not in a ledger is none of its ids
absent : (i : Id) (l : List StoredMessage) → length l ≤ position_of i l → Every (λ (j : Id). same_id i j ≡ false) (map (λ (m : StoredMessage). m.id) l)
unfolding position_of
absent i [] h = λ a m. absurd (Memᴰ.not-nil m)
absent i (m ∷ l) h =
    by_test (same_id i m.id)
    (λ t. absurd (let g : suc (length l) ≤ 0 = rw t at h in omega arith))
    (λ t.
    let g : suc (length l) ≤ suc (position_of i l) = rw t at h in
    every_cons {P = λ (j : Id). same_id i j ≡ false} t (absent i l (omega arith)))

-- an id that is neither in a ledger nor the new one is not in the longer ledger
still_absent : (j : Id) (l : List StoredMessage) (m : StoredMessage) → holds_id j l ≡ false → same_id j m.id ≡ false → holds_id j (l ++ m ∷ []) ≡ false
unfolding holds_id position_of
still_absent j l m h f =
    let past : length l ≤ position_of j l = ltb-false (position_of j l) (length l) h in
    let e : position_of j (l ++ m ∷ []) ≡ length l + position_of j (m ∷ []) = position_past j l (m ∷ []) past in
    let one : position_of j (m ∷ []) ≡ 1 = rw f in
    let n : length (l ++ m ∷ []) ≡ length l + 1 = length-append l (m ∷ []) in
    le-ltb (position_of j (l ++ m ∷ [])) (length (l ++ m ∷ [])) (omega arith)

module _ (s : State) (v : Sound s) (topic : ℕ) (m : StoredMessage) (topic_byte : topic < 256) (message : ValidMessage m)
    (new : holds_id m.id (ledger_of s topic) ≡ false) (room : is_some (topic_of s topic) ≡ false → length s.topics < 8)
    (fewer : length (ledger_of s topic) < s.entries) where
  -- the topic after it
  abbrev grown_topic : Topic
  grown_topic = appended m (record { number = topic; messages = ledger_of s topic })

  -- the state after it
  abbrev after : State
  after = entry_added s topic m

  -- it is valid
  grown_topic_valid : ValidTopic s.entries grown_topic
  unfolding appended Distinct holds_id
  grown_topic_valid =
      let l : List StoredMessage = ledger_of s topic in
      let n : length (l ++ m ∷ []) ≡ length l + 1 = length-append l (m ∷ []) in
      record {
        number_byte = topic_byte;
        some_entry = omega arith;
        at_most_E = omega arith;
        each_message = every_snoc l m (each_ledger (Every ValidMessage) s (λ a k. absurd (Memᴰ.not-nil k)) (λ t k. (v.each_topic t k).each_message) topic) message;
        ids_distinct =
            rw (map-append (λ (x : StoredMessage). x.id) l (m ∷ []))
            (distinct_snoc decides_ids (map (λ (x : StoredMessage). x.id) l) m.id
            (each_ledger (λ (k : List StoredMessage). Distinct same_id (map (λ (x : StoredMessage). x.id) k)) s tt (λ t k. (v.each_topic t k).ids_distinct) topic)
            (absent m.id l (ltb-false (position_of m.id l) (length l) new)));
      }

  -- none is shorter
  ledger_longer : (n : ℕ) → length (ledger_of s n) ≤ length (ledger_of after n)
  ledger_longer n =
      rw (ledger_after s topic m n)
      (by_test (eqb n topic)
      (λ t. rw (t, eqb-true n topic t, length-append (ledger_of s topic) (m ∷ [])) (omega arith))
      (λ t. rw t (omega arith)))

  -- what is left outside
  outside_after : (l : List StoredMessage) (ids : List Id) → ValidOutside l ids → ValidOutside (l ++ m ∷ []) (keep (λ (j : Id). not (same_id m.id j)) ids)
  outside_after l ids w =
      let other : Id → Bool = λ (j : Id). not (same_id m.id j) in
      record {
        outside_count = le_trans (length_keep other ids) w.outside_count;
        outside_ascending = ascending_keep_ids other ids w.outside_ascending;
        outside_words = λ a k. w.outside_words a (kept_was other ids a k);
        not_in_ledger = λ a k.
            still_absent a l m (w.not_in_ledger a (kept_was other ids a k))
            (turned_round decides_ids m.id a (not-true (same_id m.id a) (kept_passes other ids a k)));
      }

  -- the new mark
  mark_valid : (b : Bool) → ValidMark m (record { acked = cond b completed unacknowledged; redelivery_count = 0 })
  mark_valid true = valid_no_bits m true 0 (omega arith)
  mark_valid false = valid_no_bits m false 0 (omega arith)

  -- a dispatcher of the topic after it
  grown_valid : (d : Dispatcher) → d.pair.topic ≡ topic → ValidDispatcher s d → ValidDispatcher after (with_marks d
      (d.marks ++ record { acked = cond (is_outside m.id d) completed unacknowledged; redelivery_count = 0 } ∷ [])
      (keep (λ (j : Id). not (same_id m.id j)) d.outside))
  unfolding with_marks
  grown_valid d e w =
      let l : List StoredMessage = ledger_of s d.pair.topic in
      let f : ledger_of after d.pair.topic ≡ l ++ m ∷ [] =
      ledger_after s topic m d.pair.topic ∙ (rw (eq-eqb d.pair.topic topic e) (ap (λ (n : ℕ). ledger_of s n ++ m ∷ []) (sym e))) in
      by_parts after _ w.pair_topic_byte w.pair_subscription_byte (ring_of d w.ring) w.total_from w.total_to
      (le_trans w.cursor_in_ledger (ledger_longer d.pair.topic)) (le_trans w.mark_delete_in_ledger (ledger_longer d.pair.topic))
      (places_of d w.places)
      (rw f (valid_more_marks l d.marks m _ w.entry_marks (mark_valid (is_outside m.id d))))
      (rw f (outside_after l d.outside w.outside_ids))

  -- any dispatcher after it
  entry_valid : (d : Dispatcher) → ValidDispatcher s d → ValidDispatcher after (with_new_entry topic m.id d)
  unfolding with_new_entry
  entry_valid d w =
      by_test (eqb topic d.pair.topic)
      (λ t. rw t (grown_valid d (sym (eqb-true topic d.pair.topic t)) w))
      (λ t. rw t
      (move_dispatcher s after d (ledger_after s topic m d.pair.topic ∙ rw (turned_round decides_numbers topic d.pair.topic t)) w))

  -- the state after it is sound
  pub appended_sound : Sound after
  unfolding with_dispatchers with_topics topic_of appended
  appended_sound =
      record {
        topic_count = length_put by_number grown_topic s.topics 8 v.topic_count room;
        topics_distinct = distinct_put by_number decides_numbers grown_topic s.topics v.topics_distinct;
        each_topic = every_put by_number grown_topic s.topics grown_topic_valid v.each_topic;
        consumer_count = v.consumer_count;
        consumers_ascending = v.consumers_ascending;
        each_consumer = λ c k.
            move_consumer s after c (ledger_longer c.pair.topic)
            (λ r. subst (λ (l : List ℕ). Memᴰ c.id l) (sym (ring_after s topic m c.pair)) r) (v.each_consumer c k);
        dispatcher_count = (le_trans (le_of_eq (length-map s.dispatchers (with_new_entry topic m.id))) v.dispatcher_count);
        pairs_distinct = subst (Distinct same_pair) (sym (keys_map by_pair (with_new_entry topic m.id) (entry_pair s topic m) s.dispatchers)) v.pairs_distinct;
        each_dispatcher = λ d k.
            let o = Memᴰ.of_map (with_new_entry topic m.id) s.dispatchers k in
            subst (ValidDispatcher after) o.2 (entry_valid o.0 (v.each_dispatcher o.0 o.1));
      }

-- any append
pub append_keeps : (s : State) (topic : ℕ) (m : StoredMessage) → Sound s → fits (Append topic m) ≡ true → Keeps Sound s (append s topic m)
unfolding fits append
append_keeps s topic m v f =
    let width = (says_and _ _ (says_and _ _ (says_and _ _ (says_byte topic) (says_id m.id)) (says_word m.handle)) (says_word m.batch_size)).gives f in
    keeps_guard Sound s v _ 8 _ (λ a.
    keeps_guard Sound s v _ 7 _ (λ b.
    keeps_guard Sound s v _ 5 _ (λ c.
    keeps_guard Sound s v _ 6 _ (λ d.
    appended_sound s v topic m width.0.0.0
    (record { id_words = width.0.0.1; handle_word = width.0.1; batch_range = ltb-false 256 m.batch_size a })
    b (room_left (is_some (topic_of s topic)) 8 (length s.topics) c) (leb-false s.entries (length (ledger_of s topic)) d)))))
