-- `check_topics::topic_order` meets its contract: number, count and messages are tested in order, first whether they ascend.
use mathlib.Core.Path.{◌≡◌, sym, ap, ap₂, ◌∙◌}
use mathlib.Core.Bool.{Bool, ◌&&◌}
use mathlib.Core.List.{List}
use Prim.Native.Nat.{ℕ, ◌+◌, ◌≤◌, ◌<◌}
use lib.Dec.{leb}
use lib.ListN.{length, get_or}
use borrow.Author.Tests.{lt-leb, le-leb}
use Rattle.std.proofs.Common.{None}
use Rattle.rules.specs.State.{StoredMessage}
use Rattle.rules.specs.Valid.{is_byte, valid_topic}
use Rattle.rules.proofs.Table.{by_test}
use Rattle.layout.specs.Layout.{decode}
use Rattle.layout.specs.Placed.{TopicIn}
use Rattle.layout.specs.Offsets.{topic_at, message_in}
use Rattle.layout.specs.Fields.{topic_nth}
use Rattle.layout.proofs.Gets.{read_topic_number, read_message_count}
use Rattle.store.proofs.Tests.{fails, passes}
use Rattle.check_topics.specs.Orders.{messages_ascend, messages_distinct, topic_order}
use Rattle.check_topics.proofs.Bytes.{byte_over, byte_within}
use Rattle.check_topics.proofs.Topics.{messages_valid, topic_by_parts}
use Rattle.check_topics.proofs.Ledgers.{ledger_inside}
use Rattle.check_topics.proofs.Orders.{distinct_valid, ascend_valid, valid_mixed, order_wrong, order_right}
use Rattle.check_topics.proofs.topic_order.Goals as goal
use Rattle.check_topics.proofs.topic_order.Goals.{then-store-at-gt-MOST_NUMBER-via-then-store-at-gt-MOST_NUMBER, then-store-at-gt-MOST_NUMBER-via-else-store-at-gt-MOST_NUMBER+then-n-lt1}

module _ {e : ℕ} {ws : List ℕ} {t : ℕ} (h : TopicIn e ws t) {at : ℕ} (place : at ≡ topic_at e t) where
  -- the messages
  abbrev messages : List StoredMessage
  messages = (topic_nth (decode ws) t).messages

  -- the number that is read
  number : get_or ws at 0 ≡ (topic_nth (decode ws) t).number
  number = ap (λ (i : ℕ). get_or ws i 0) place ∙ read_topic_number h.canon t h.there

  -- and how many messages there are
  count : {n : ℕ} → n ≡ get_or ws (at + 3) 0 → n ≡ length messages
  count q = q ∙ ap (λ (i : ℕ). get_or ws (i + 3) 0) place ∙ read_message_count h.canon t h.there

  -- the three parts make up the rule
  parts : (is_byte (topic_nth (decode ws) t).number && (leb 1 (length messages) && messages_valid messages)) ≡ valid_topic e (topic_nth (decode ws) t)
  parts = topic_by_parts e (topic_nth (decode ws) t) h.messages_fit

  -- a number past a byte
  over : 255 < get_or ws at 0 → None ≡ topic_order e ws t
  over k = order_wrong e ws t (fails _ (byte_over number k) ∙ parts)

  module _ (byte : get_or ws at 0 ≤ 255) {n : ℕ} (counted : n ≡ get_or ws (at + 3) 0) where
    -- no message
    bare : n < 1 → None ≡ topic_order e ws t
    bare k = order_wrong e ws t (passes (byte_within number byte) (fails _ (lt-leb 1 _ (rw (count counted) at k))) ∙ parts)

    -- number and count are right: the messages decide
    decided : {r : Bool} → 1 ≤ n → r ≡ messages_valid messages → r ≡ valid_topic e (topic_nth (decode ws) t)
    decided k q = passes (byte_within number byte) (passes (le-leb 1 _ (rw (count counted) at k)) q) ∙ parts

    -- a test of the messages where they stand
    told : (p : List ℕ → ℕ → ℕ → Bool) {r : Bool} → r ≡ p ws (at + 4) n → r ≡ p ws (topic_at e t + message_in 0) (length messages)
    told p q = q ∙ ap₂ (λ (k m : ℕ). p ws (k + 4) m) place (count counted)

pub returns-then-store-at-gt-MOST_NUMBER : goal.returns-then-store-at-gt-MOST_NUMBER
returns-then-store-at-gt-MOST_NUMBER c =
    elim c.then-store-at-gt-MOST_NUMBER.branch [
      | then-store-at-gt-MOST_NUMBER-via-then-store-at-gt-MOST_NUMBER w ↦ over c.requires c.topic_at-at.ensures w.if-store-at-gt-MOST_NUMBER.true
      | then-store-at-gt-MOST_NUMBER-via-else-store-at-gt-MOST_NUMBER+then-n-lt1 w ↦
          bare c.requires c.topic_at-at.ensures w.if-store-at-gt-MOST_NUMBER.false c.word-n.ensures w.if-n-lt1.true
    ]

pub messages_ascend-requires : goal.messages_ascend-requires
messages_ascend-requires c = (c.if-n-lt1.false, ledger_inside c.requires c.topic_at-at.ensures c.word-n.ensures)

pub returns-then-messages_ascend : goal.returns-then-messages_ascend
returns-then-messages_ascend c =
    let a = c.args in
    let p = c.topic_at-at.ensures in
    let b = c.if-store-at-gt-MOST_NUMBER.false in
    let v = ascend_valid c.requires.canon a.t c.requires.there (λ q. (c.type_inv.store q).fits)
    (sym (told c.requires p b c.word-n.ensures messages_ascend c.messages_ascend.ensures) ∙ c.if-messages_ascend.true) in
    order_right a.e a.store.now a.t (decided c.requires p b c.word-n.ensures c.if-n-lt1.false (sym v.0)) v.1

pub messages_distinct-requires : goal.messages_distinct-requires
messages_distinct-requires c = ledger_inside c.requires c.topic_at-at.ensures c.word-n.ensures

pub returns : goal.returns
returns c =
    let a = c.args in
    let h = c.requires in
    let p = c.topic_at-at.ensures in
    let b = c.if-store-at-gt-MOST_NUMBER.false in
    let mixed = sym (told h p b c.word-n.ensures messages_ascend c.messages_ascend.ensures) ∙ c.if-messages_ascend.false in
    let valid : c.messages_distinct.result ≡ messages_valid (topic_nth (decode a.store.now) a.t).messages =
    told h p b c.word-n.ensures messages_distinct c.messages_distinct.ensures ∙ distinct_valid h.canon a.t h.there (λ q. (c.type_inv.store q).fits) in
    let right = decided h p b c.word-n.ensures c.if-n-lt1.false valid in
    c.then_some.ensures
    ∙ by_test c.messages_distinct.result
    (λ t. rw t (order_right a.e a.store.now a.t (sym t ∙ right) (valid_mixed h.canon a.t h.there (λ q. (c.type_inv.store q).fits) mixed (sym valid ∙ t))))
    (λ t. rw t (order_wrong a.e a.store.now a.t (sym t ∙ right)))
