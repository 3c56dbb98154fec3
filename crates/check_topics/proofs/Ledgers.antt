-- The ledger of a topic in words: where its messages stand, and that they are read there.
use mathlib.Core.Path.{◌≡◌, refl, ap, ◌∙◌}
use mathlib.Core.List.{List}
use Prim.Native.Nat.{ℕ, ◌+◌, ◌*◌, ◌≤◌}
use native.Mathlib.Nat.{not-suc-le-zero}
use native.Mathlib.Omega.{arith}
use lib.ListN.{length, get_or}
use Rattle.rules.specs.State.{by_number, ledger_of}
use Rattle.layout.specs.Layout.{decode}
use Rattle.layout.specs.Offsets.{topic_at, message_in}
use Rattle.layout.specs.Fields.{topic_nth}
use Rattle.layout.specs.Placed.{TopicIn}
use Rattle.layout.proofs.Gets.{read_message_count, read_message_ledger, read_message_entry, read_message_batch}
use Rattle.store.specs.Find.{slot}
use Rattle.topic.proofs.Ledgers.{ledger_here, ledger_none}
use Rattle.check_topics.specs.Ledgers.{LedgerSpelt}

-- a topic that does not exist has no messages, so they are read anywhere
pub ledger_absent : (ws : List ℕ) (topic : ℕ) → length (decode ws).topics ≤ slot by_number topic (decode ws).topics
    → (0 ≡ length (ledger_of (decode ws) topic)) × LedgerSpelt ws 0 (ledger_of (decode ws) topic)
ledger_absent ws topic h =
    let e = ledger_none (decode ws) topic h in rw e (refl, λ j l. absurd (not-suc-le-zero l))

module _ {e : ℕ} {ws : List ℕ} {t : ℕ} (h : TopicIn e ws t) {at n : ℕ} (place : at ≡ topic_at e t) (count : n ≡ get_or ws (at + 3) 0) where
  -- there are as many messages as the count says
  counted : n ≡ length (topic_nth (decode ws) t).messages
  counted = count ∙ ap (λ (i : ℕ). get_or ws (i + 3) 0) place ∙ read_message_count h.canon t h.there

  -- they lie in the store
  pub ledger_inside : at + 4 + n * 4 ≤ length ws
  ledger_inside =
      let k = h.inside in
      let l = h.canon.long in
      let m = h.messages_fit in
      let c = counted in
      omega arith

  -- and are read there
  messages_spelt : LedgerSpelt ws (at + 4) (topic_nth (decode ws) t).messages
  messages_spelt j l =
      let p : at + 4 + j * 4 ≡ topic_at e t + message_in j = omega (arith, place) in (
        rw p (read_message_ledger h.canon t h.there j l),
        rw p (read_message_entry h.canon t h.there j l),
        rw p (read_message_batch h.canon t h.there j l),
      )

  -- so they are the ledger of the topic whose slot it is
  pub ledger_rows : (topic : ℕ) → t ≡ slot by_number topic (decode ws).topics
      → (n ≡ length (ledger_of (decode ws) topic)) × LedgerSpelt ws (at + 4) (ledger_of (decode ws) topic)
  ledger_rows topic found = rw (ledger_here (decode ws) topic t found h.there) (counted, messages_spelt)
