-- A consumer that is due an entry has a topic, and each of its entries can be sent.
use mathlib.Core.Path.{◌≡◌, refl, sym, ap}
use mathlib.Core.List.{List}
use Prim.Native.Nat.{ℕ, zero, suc, ◌+◌, ◌-◌, ◌≤◌, ◌<◌}
use native.Mathlib.Nat.{le_trans}
use native.Mathlib.Omega.{arith}
use lib.Dec.{ltb}
use lib.ListN.{length}
use borrow.Author.Tests.{ltb-true, ltb-false}
use Rattle.rules.specs.State.{StoredMessage, Consumer, State, by_number}
use Rattle.rules.specs.Commands.{with_permits}
use Rattle.rules.proofs.Table.{by_test}
use Rattle.layout.specs.Layout.{decode}
use Rattle.layout.specs.Fields.{consumer_nth, topic_nth}
use Rattle.layout.proofs.Placed.{topic_in}
use Rattle.store.specs.Find.{slot}
use Rattle.topic.proofs.Ledgers.{ledger_at, ledger_none}
use Rattle.topic.proofs.LedgerWords.{ledger_fits}
use Rattle.push_laws.specs.Plain.{plain_due, ledger_for}
use Rattle.push_plain.specs.Reading.{position_at, ReadableIn, SendableTo}
use Rattle.push_plain.specs.declared.reader.Reader as readers
use Rattle.push_plain.proofs.Entries.{charged_waiting, charged_permitted, position_inside}

-- what is not 0 is above it
pub above : (n : ℕ) → (n ≡ 0 → ⊥) → 0 < n
above zero h = absurd (h refl)
above (suc n) h = omega arith

module _ {e : ℕ} {ws : List ℕ} (i : ℕ) (h : ReadableIn e ws i) where
  -- the cursor of a readable consumer is low
  pub cursor_low : (consumer_nth (decode ws) i).cursor ≤ 4096
  cursor_low =
      let g = ledger_fits h.here.canon (consumer_nth (decode ws) i).pair.topic in
      let m = h.here.canon.E_to in
      let k = h.readable.cursor_in in
      omega arith

  -- few entries wait for it
  pub waiting_few : length (consumer_nth (decode ws) i).nacked +
      (length (ledger_for (decode ws) (consumer_nth (decode ws) i)) - (consumer_nth (decode ws) i).cursor) ≤ 4160
  waiting_few =
      let g = ledger_fits h.here.canon (consumer_nth (decode ws) i).pair.topic in
      let m = h.here.canon.E_to in
      let k = h.here.nacked_fit in
      omega arith

module _ {ws : List ℕ} (x : readers.Reader) (t n : ℕ) (h : ReadableIn x.e ws x.i)
    (d : n ≡ plain_due (ledger_for (decode ws) (consumer_nth (decode ws) x.i)) (with_permits (consumer_nth (decode ws) x.i) x.permits))
    (some : 0 < n)
    (f : t ≡ slot by_number (consumer_nth (decode ws) x.i).pair.topic (decode ws).topics) where
  abbrev s : State
  s = decode ws

  abbrev c : Consumer
  c = consumer_nth (decode ws) x.i

  -- as many wait
  wait : n ≤ length c.nacked + (length (ledger_for s c) - c.cursor)
  wait = rw d (charged_waiting (ledger_for s c) c x.permits)

  -- the first of them lies in the ledger, which so has an entry
  first : position_at c 0 < length (ledger_for s c)
  first = position_inside (ledger_for s c) c 0 n h.readable.cursor_in h.readable.nacked_in some wait

  here : t < length s.topics
  here =
      by_test (ltb t (length s.topics)) (ltb-true t (length s.topics))
      (λ u. let none : length s.topics ≤ slot by_number c.pair.topic s.topics = rw (← f) (ltb-false t (length s.topics) u) in
      let q : length (ledger_for s c) ≡ 0 = ap (λ (l : List StoredMessage). length l) (ledger_none s c.pair.topic none) in
      let k = first in
      let no : ⊥ = omega arith in absurd no)

  same : (topic_nth s t).messages ≡ ledger_for s c
  same = rw f (sym (ledger_at s c.pair.topic (rw f at here)))

  pub sendable : SendableTo x t ws n
  sendable =
      record {
        reader = h;
        topic = topic_in h.here.canon t here;
        ledger = same;
        waiting = wait;
        permitted = rw d (charged_permitted (ledger_for s c) c x.permits);
      }

-- fewer can be sent too
pub sendable_fewer : {x : readers.Reader} {t : ℕ} {ws : List ℕ} {n : ℕ} → SendableTo x t ws n → (k : ℕ) → k ≤ n → SendableTo x t ws k
sendable_fewer h k l =
    record { reader = h.reader; topic = h.topic; ledger = h.ledger; waiting = le_trans l h.waiting; permitted = le_trans l h.permitted }
