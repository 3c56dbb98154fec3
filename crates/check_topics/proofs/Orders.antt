-- Topics whose ids ascend are valid ones, and what is known of their order.
use mathlib.Core.Path.{◌≡◌, refl, sym, ap, ap₂, ◌∙◌, subst}
use mathlib.Core.Bool.{Bool, true, false, ◌&&◌, and-eq-true_iff}
use mathlib.Core.List.{List}
use Prim.Native.Nat.{ℕ, ◌+◌, ◌≤◌, ◌<◌}
use native.Mathlib.Omega.{arith}
use lib.Dec.{eqb, leb, ltb}
use lib.ListN.{length, get_or, set, replicate, length-map, get_or-map, get_or-replicate, length-replicate, get_or-eq_default}
use lib.Seq.{get_or-set_same, get_or-set_other}
use borrow.Author.Tests.{eqb-true, eqb-false, ltb-true, ltb-false}
use Rattle.std.proofs.Common.{Some, None}
use Rattle.bits.specs.Bits.{AreWords}
use Rattle.rules.specs.Table.{all, distinct}
use Rattle.rules.specs.State.{Id, same_id, StoredMessage}
use Rattle.rules.specs.Ledger.{no_message}
use Rattle.rules.specs.Valid.{valid_message, valid_topic}
use Rattle.rules.proofs.Table.{by_test}
use Rattle.rules.proofs.State.{decides_ids}
use Rattle.layout.specs.Layout.{decode}
use Rattle.layout.specs.Canon.{CanonStore}
use Rattle.layout.specs.Fields.{topic_nth}
use Rattle.layout.specs.Offsets.{topic_at, messages_in, message_in}
use Rattle.layout.proofs.Gets.{read_message_count, read_message_ledger, read_message_entry, read_message_handle, read_message_batch}
use Rattle.check_rows.specs.Below.{each_below}
use Rattle.check_rows.specs.Rows.{row, row_second, twos_distinct, twos_ascend}
use Rattle.check_topics.specs.Orders.{batch_right, messages_ascend, messages_distinct, ledger_ascends, topic_order, Known}
use Rattle.check_rows.proofs.Below.{each_same}
use Rattle.check_rows.proofs.Elements.{all_each}
use Rattle.check_rows.proofs.RowLists.{twos_list}
use Rattle.check_rows.proofs.RowOrder.{ascend_distinct}
use Rattle.check_topics.proofs.Topics.{ids, messages_valid, message_words}

module _ {e : ℕ} {ws : List ℕ} (h : CanonStore e ws) (t : ℕ) (k : t < length (decode ws).topics) where
  -- the messages
  abbrev messages : List StoredMessage
  messages = (topic_nth (decode ws) t).messages

  -- where they stand
  abbrev first : ℕ
  first = topic_at e t + message_in 0

  -- a word of message j
  word_of : {n : ℕ} {v : ℕ} (place : ℕ) → n ≡ place → get_or ws place 0 ≡ v → get_or ws n 0 ≡ v
  word_of place p r = ap (λ (i : ℕ). get_or ws i 0) p ∙ r

  -- as many as the count says
  pub order_count : get_or ws (topic_at e t + messages_in) 0 ≡ length messages
  order_count = read_message_count h t k

  -- the ids
  spell : (j : ℕ) → j < length (ids messages)
      → (row ws first 4 j ≡ (get_or (ids messages) j no_message.id).ledger) × (row_second ws first 4 j ≡ (get_or (ids messages) j no_message.id).entry)
  spell j l =
      let m : j < length messages = rw (length-map messages (λ (m : StoredMessage). m.id)) at l in
      let s = sym (get_or-map (λ (m : StoredMessage). m.id) messages j no_message) in (
        word_of (topic_at e t + message_in j) (omega arith) (read_message_ledger h t k j m) ∙ ap (λ (i : Id). i.ledger) s,
        word_of (topic_at e t + message_in j + 1) (omega arith) (read_message_entry h t k j m) ∙ ap (λ (i : Id). i.entry) s,
      )

  -- whether no id stands twice
  ids_read : twos_distinct ws first 4 (length messages) ≡ distinct same_id (ids messages)
  unfolding same_id
  ids_read =
      subst (λ (n : ℕ). twos_distinct ws first 4 n ≡ distinct same_id (ids messages)) (length-map messages (λ (m : StoredMessage). m.id))
      (twos_list same_id decides_ids (λ i. i.ledger) (λ i. i.entry) (λ a b. refl) ws first 4 (ids messages) no_message.id spell)

  module _ (are_words : AreWords ws) where
    -- the tests of the batch sizes are those of the messages
    batches : each_below (batch_right ws first) (length messages) ≡ all valid_message messages
    batches =
        each_same (batch_right ws first) (λ j. valid_message (get_or messages j no_message)) (length messages)
        (λ j l.
        let at = topic_at e t + message_in j in
        ap (λ (n : ℕ). leb n 256) (word_of (at + 3) (omega arith) (read_message_batch h t k j l))
        ∙ message_words (get_or messages j no_message)
        (omega (arith, are_words at, read_message_ledger h t k j l))
        (omega (arith, are_words (at + 1), read_message_entry h t k j l))
        (omega (arith, are_words (at + 2), read_message_handle h t k j l)))
        ∙ sym (all_each valid_message messages no_message)

    -- messages of right sizes whose ids are distinct are the valid ones
    pub distinct_valid : messages_distinct ws first (length messages) ≡ messages_valid messages
    unfolding messages_distinct
    distinct_valid = ap₂ ◌&&◌ batches ids_read

    -- those whose ids ascend are valid
    pub ascend_valid : messages_ascend ws first (length messages) ≡ true → (messages_valid messages ≡ true) × (ledger_ascends e ws t ≡ true)
    unfolding messages_ascend
    ascend_valid a =
        let p = (and-eq-true_iff (each_below (batch_right ws first) (length messages)) (twos_ascend ws first 4 (length messages))).0 a in
        (rw (sym batches ∙ p.0, sym ids_read ∙ ascend_distinct ws first 4 (length messages) p.1), rw order_count p.1)

    -- those that are valid and not of that kind have ids that do not ascend
    pub valid_mixed : messages_ascend ws first (length messages) ≡ false → messages_valid messages ≡ true → ledger_ascends e ws t ≡ false
    unfolding messages_ascend
    valid_mixed a v =
        let p = ((and-eq-true_iff (all valid_message messages) (distinct same_id (ids messages))).0 v).0 in
        rw order_count (rw (batches ∙ p) at a)

-- ---- what a topic is known as

module _ (e : ℕ) (ws : List ℕ) (t : ℕ) where
  -- it is not valid
  pub order_wrong : false ≡ valid_topic e (topic_nth (decode ws) t) → None ≡ topic_order e ws t
  unfolding topic_order
  order_wrong f = rw (← f)

  -- it is, and its ids do or do not ascend
  pub order_right : {b : Bool} → true ≡ valid_topic e (topic_nth (decode ws) t) → ledger_ascends e ws t ≡ b → Some b ≡ topic_order e ws t
  unfolding topic_order
  order_right v a = rw (← v, a)

  -- known as nothing it is not valid
  pub order_none : None ≡ topic_order e ws t → valid_topic e (topic_nth (decode ws) t) ≡ false
  unfolding topic_order
  order_none q = by_test (valid_topic e (topic_nth (decode ws) t)) (λ x. let d : None ≡ Some (ledger_ascends e ws t) = rw x at q in absurd (cc)) (λ x. x)

  -- and as something it is, and that says whether its ids ascend
  pub order_some : {b : Bool} → Some b ≡ topic_order e ws t → (valid_topic e (topic_nth (decode ws) t) ≡ true) × (ledger_ascends e ws t ≡ b)
  unfolding topic_order
  order_some {b} q =
      by_test (valid_topic e (topic_nth (decode ws) t))
      (λ x. let d : Some b ≡ Some (ledger_ascends e ws t) = rw x at q in (x, cc))
      (λ x. let d : Some b ≡ None = rw x at q in absurd (cc))

-- ---- what is known

-- nothing, of no topic
pub known_nothing : (e : ℕ) (ws : List ℕ) (n : ℕ) → Known e ws (replicate n false)
known_nothing e ws n t q =
    by_test (ltb t n)
    (λ l. let z = get_or-replicate n t false false (ltb-true t n l) in absurd (cc))
    (λ l.
    let k : length (replicate {A = Bool} n false) ≤ t = rw (length-replicate {A = Bool} n false) (ltb-false t n l) in
    let z = get_or-eq_default (replicate n false) false k in absurd (cc))

-- a topic's order told
pub known_more : (e : ℕ) (ws : List ℕ) (ascend : List Bool) (t : ℕ) (b : Bool) → t < length ascend → Some b ≡ topic_order e ws t → Known e ws ascend
    → Known e ws (set ascend t b)
known_more e ws ascend t b l q f j h =
    by_test (eqb j t)
    (λ u.
    let s : j ≡ t = eqb-true j t u in
    rw s ((order_some e ws t q).1 ∙ sym (get_or-set_same ascend t b false l) ∙ (rw s at h)))
    (λ u. f j (sym (get_or-set_other ascend t j b false (eqb-false j t u)) ∙ h))
