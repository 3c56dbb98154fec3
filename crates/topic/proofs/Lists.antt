-- The table of topics and the messages of each as counted lists of a store: they lie in it, and what is done to one is done
-- to the state.
use mathlib.Core.Path.{◌≡◌, ◌∙◌}
use mathlib.Core.List.{List, [], ◌∷◌, ◌++◌}
use Prim.Native.Nat.{ℕ, ◌+◌, ◌*◌, ◌≤◌, ◌<◌}
use native.Mathlib.Omega.{arith}
use lib.ListN.{length}
use Rattle.rules.specs.State.{StoredMessage, with_topics}
use Rattle.rules.specs.Ledger.{appended}
use Rattle.layout.specs.Layout.{decode, put}
use Rattle.layout.specs.Offsets.{topic_at, topic_words, message_in}
use Rattle.layout.specs.Fields.{zero_topic, topic_nth, set_topic}
use Rattle.layout.specs.Canon.{CanonStore}
use Rattle.layout.specs.Placed.{TopicIn}
use Rattle.layout.proofs.Gets.{read_topic_count, read_message_count}
use Rattle.layout.proofs.Sets as layout
use Rattle.store.specs.Counted.{Inside, size, with_last, one_more}
use Rattle.store.proofs.Rooms.{room_le}
use Rattle.topic.specs.Lists.{topic_list, message_list}

-- ---- the table

module _ {e : ℕ} {ws : List ℕ} (h : CanonStore e ws) where
  pub topic_size : size (topic_list e) ws ≡ length (decode ws).topics
  topic_size = read_topic_count h

  pub topic_inside : Inside (topic_list e) ws
  topic_inside =
      let n = topic_size in
      let l = h.long in
      let r : size (topic_list e) ws * topic_words e ≤ 8 * topic_words e = room_le _ 8 (topic_words e) (rw n h.shaped.topics_fit) in
      record { counted = omega arith; inside = omega arith }

  pub topic_more : length (decode ws).topics < 8
      → one_more (topic_list e) ws ≡ put ws (with_topics (decode ws) ((decode ws).topics ++ zero_topic ∷ []))
  topic_more l = rw topic_size (layout.raise_topics h l)

-- ---- the messages

module _ {e : ℕ} {ws : List ℕ} (t : ℕ) (h : TopicIn e ws t) where
  pub message_size : size (message_list e t) ws ≡ length (topic_nth (decode ws) t).messages
  message_size = read_message_count h.canon t h.there

  pub message_inside : Inside (message_list e t) ws
  message_inside =
      let n = message_size in
      let f = h.messages_fit in
      let i = h.inside in
      let l = h.canon.long in
      record { counted = omega arith; inside = omega arith }

  pub message_with : (m : StoredMessage) → length (topic_nth (decode ws) t).messages < e
      → with_last (message_list e t) (m.id.ledger ∷ m.id.entry ∷ m.handle ∷ m.batch_size ∷ []) ws
      ≡ put ws (set_topic (decode ws) t (appended m (topic_nth (decode ws) t)))
  message_with m l =
      let to : topic_at e t + message_in 0 + size (message_list e t) ws * 4 ≡ topic_at e t + message_in (size (message_list e t) ws) = omega arith in
      rw (to, message_size) (layout.append_message h.canon t h.there m l)

  -- whatever way its words came to be those
  pub message_stands : {us : List ℕ} (m : StoredMessage) → length (topic_nth (decode ws) t).messages < e
      → us ≡ with_last (message_list e t) (m.id.ledger ∷ m.id.entry ∷ m.handle ∷ m.batch_size ∷ []) ws
      → us ≡ put ws (set_topic (decode ws) t (appended m (topic_nth (decode ws) t)))
  message_stands m l s = s ∙ message_with m l
