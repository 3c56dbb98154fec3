-- The words of a topic's ledger, by the topic's slot. Where there is no such topic the ledger is empty, and no word is asked of.
use mathlib.Core.Path.{◌≡◌, sym, ap, ◌∙◌, subst}
use mathlib.Core.List.{List}
use Prim.Native.Nat.{ℕ, ◌+◌, ◌*◌, ◌≤◌, ◌<◌}
use native.Mathlib.Nat.{not-suc-le-zero}
use native.Mathlib.Omega.{arith}
use lib.Dec.{ltb}
use lib.ListN.{length, get_or}
use borrow.Author.Tests.{ltb-true, ltb-false}
use Rattle.rules.specs.State.{StoredMessage, by_number, ledger_of}
use Rattle.rules.specs.Ledger.{no_message}
use Rattle.rules.proofs.Table.{by_test}
use Rattle.layout.specs.Layout.{decode}
use Rattle.layout.specs.Canon.{CanonStore}
use Rattle.layout.specs.Fields.{topic_nth}
use Rattle.layout.proofs.Gets.{messages_short, read_message_ledger, read_message_entry, read_message_batch}
use Rattle.store.specs.Find.{slot}
use Rattle.store.proofs.Finding.{slot_le}
use Rattle.topic.proofs.Ledgers.{ledger_at, ledger_none}
use Rattle.store.proofs.Rooms as rooms

module _ {e : ℕ} {ws : List ℕ} (h : CanonStore e ws) (topic : ℕ) where
  -- the topic's slot
  abbrev pub at_slot : ℕ
  at_slot = slot by_number topic (decode ws).topics

  -- where its messages start
  abbrev pub ledger_start : ℕ
  ledger_start = 2326 + at_slot * (4 + 4 * e)

  -- a topic with an entry exists
  there : (k : ℕ) → k < length (ledger_of (decode ws) topic) → at_slot < length (decode ws).topics
  there k l =
      by_test (ltb at_slot (length (decode ws).topics)) (ltb-true at_slot (length (decode ws).topics))
      (λ t. absurd (not-suc-le-zero (subst (λ (m : List StoredMessage). k < length m)
      (ledger_none (decode ws) topic (ltb-false at_slot (length (decode ws).topics) t)) l)))

  -- the ledger has at most E entries
  pub ledger_fits : length (ledger_of (decode ws) topic) ≤ e
  ledger_fits =
      by_test (ltb at_slot (length (decode ws).topics))
      (λ t. let l = ltb-true at_slot (length (decode ws).topics) t in
      subst (λ (m : List StoredMessage). length m ≤ e) (sym (ledger_at (decode ws) topic l)) (messages_short h at_slot l))
      (λ t. subst (λ (m : List StoredMessage). length m ≤ e) (sym (ledger_none (decode ws) topic (ltb-false at_slot (length (decode ws).topics) t))) (omega arith))

  -- and its words lie in the store
  pub ledger_room : ledger_start + length (ledger_of (decode ws) topic) * 4 ≤ length ws
  ledger_room =
      let l = ledger_fits in
      let s = slot_le by_number topic (decode ws).topics in
      let f = h.shaped.topics_fit in
      let m = rooms.room_le at_slot 8 (4 + 4 * e) (omega arith) in
      let g = h.long in
      omega arith

  module _ (k : ℕ) (l : k < length (ledger_of (decode ws) topic)) where
    -- an entry of the slot's ledger
    inside : k < length (topic_nth (decode ws) at_slot).messages
    inside = subst (λ (m : List StoredMessage). k < length m) (ledger_at (decode ws) topic (there k l)) l

    -- an entry's word, by its place in the slot
    at : {n : ℕ} (f : StoredMessage → ℕ) {place : ℕ} → n ≡ place → get_or ws place 0 ≡ f (get_or (topic_nth (decode ws) at_slot).messages k no_message)
        → get_or ws n 0 ≡ f (get_or (ledger_of (decode ws) topic) k no_message)
    at f e r = ap (λ (i : ℕ). get_or ws i 0) e ∙ r ∙ ap (λ (m : List StoredMessage). f (get_or m k no_message)) (sym (ledger_at (decode ws) topic (there k l)))

    -- the ledger number of its id
    pub entry_ledger : get_or ws (ledger_start + k * 4) 0 ≡ (get_or (ledger_of (decode ws) topic) k no_message).id.ledger
    entry_ledger = at (λ m. m.id.ledger) (omega arith) (read_message_ledger h at_slot (there k l) k inside)

    -- the entry number of its id
    pub entry_entry : get_or ws (ledger_start + k * 4 + 1) 0 ≡ (get_or (ledger_of (decode ws) topic) k no_message).id.entry
    entry_entry = at (λ m. m.id.entry) (omega arith) (read_message_entry h at_slot (there k l) k inside)

    -- its batch size
    pub entry_batch : get_or ws (ledger_start + k * 4 + 3) 0 ≡ (get_or (ledger_of (decode ws) topic) k no_message).batch_size
    entry_batch = at (λ m. m.batch_size) (omega arith) (read_message_batch h at_slot (there k l) k inside)
