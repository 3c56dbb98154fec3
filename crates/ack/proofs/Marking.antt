-- One mark or one outside id acknowledged, as the code does it and as the rules say it.
use mathlib.Core.Path.{◌≡◌, refl, sym, ap, ◌∙◌}
use mathlib.Core.Bool.{Bool, true, false, cond, not, ◌&&◌, ◌||◌}
use mathlib.Core.List.{List, [], ◌∷◌}
use Prim.Native.Nat.{ℕ, ◌≤◌, ◌<◌}
use native.Mathlib.Omega.{arith}
use lib.Dec.{eqb, ltb, eqb-suc-zero}
use lib.Seq.{set-get_or}
use lib.ListN.{length, set}
use borrow.Author.Tests.{lt-ltb, le-ltb, ltb-true, ltb-false}
use Rattle.bits.specs.declared.UnackedBits.{UnackedBits}
use Rattle.bits.specs.Bits.{fresh_unacked_bits, and_into, bits_empty}
use Rattle.bits.specs.Four.{words, four}
use Rattle.rules.specs.Table.{is_empty}
use Rattle.rules.specs.State.{Id, StoredMessage, Dispatcher, State, completed, by_number, ledger_of, with_dispatchers}
use Rattle.rules.specs.Ledger.{position_of, message_at, batch_size_of, insert_id}
use Rattle.rules.specs.Dispatcher.{with_marks, mark_at, is_outside, bits_left, ack_entry, ack_mark, ack_id}
use Rattle.rules.proofs.Table.{by_test}
use Rattle.rules.proofs.Ids.{length_insert_id}
use Rattle.dispatcher.specs.Values.{mark_of}
use Rattle.dispatcher.specs.declared.marks.Mark as declared
use Rattle.layout.specs.Layout.{decode, put}
use Rattle.layout.specs.Fields.{zero_dispatcher, topic_nth, dispatcher_nth, set_dispatcher}
use Rattle.layout.specs.Placed.{DispatcherIn}
use Rattle.layout.proofs.Store.{put_decode}
use Rattle.store.specs.Find.{slot}
use Rattle.topic.proofs.Ledgers.{ledger_at, ledger_none}

-- ---- bits

-- fresh bits
pub bits_fresh : (b r : UnackedBits) (batch : ℕ) → bits_empty (words b) ≡ true → r ≡ four (fresh_unacked_bits 4 batch)
    → words r ≡ cond (bits_empty (words b)) (fresh_unacked_bits 4 batch) (words b)
unfolding fresh_unacked_bits
bits_fresh b r batch t e = rw (t, e)

-- stored bits
pub bits_stored : (b : UnackedBits) (batch : ℕ) → bits_empty (words b) ≡ false
    → words b ≡ cond (bits_empty (words b)) (fresh_unacked_bits 4 batch) (words b)
bits_stored b batch t = rw t

-- the bits left, as the code has them
pub bits_now : (b f l : UnackedBits) (batch : ℕ) (incoming : List ℕ) → words f ≡ cond (bits_empty (words b)) (fresh_unacked_bits 4 batch) (words b)
    → l ≡ four (and_into (words f) incoming) → l ≡ four (bits_left batch incoming b)
unfolding bits_left
bits_now b f l batch incoming e q = q ∙ ap (λ (w : List ℕ). four (and_into w incoming)) e

-- they are four words
four_left : (b : UnackedBits) (batch : ℕ) (incoming : List ℕ) → words (four (bits_left batch incoming b)) ≡ bits_left batch incoming b
unfolding bits_left and_into fresh_unacked_bits
four_left b batch incoming = by_test (bits_empty (words b)) (λ t. rw t) (λ t. rw t)

-- whether none is left
pub none_left : (b l : UnackedBits) (batch : ℕ) (incoming : List ℕ) → l ≡ four (bits_left batch incoming b) → bits_empty (words l) ≡ bits_empty (bits_left batch incoming b)
none_left b l batch incoming e = ap (λ (x : UnackedBits). bits_empty (words x)) e ∙ ap bits_empty (four_left b batch incoming)

-- ---- marks

-- either is true
pub or_left : (a b : Bool) → a ≡ true → a ≡ (a || b)
or_left a b e = rw e

pub or_right : (a b c : Bool) → a ≡ false → c ≡ b → c ≡ (a || b)
or_right a b c e q = rw e q

-- a mark acknowledged in part
pub in_part : (m : declared.Mark) (v : Bool) (l : UnackedBits) (batch : ℕ) (incoming : List ℕ)
    → v ≡ (m.complete || bits_empty (bits_left batch incoming m.unacked)) → l ≡ four (bits_left batch incoming m.unacked)
    → mark_of (record { complete = v; redelivery_count = m.redelivery_count; unacked = l })
    ≡ record { acked = record { complete = m.complete || bits_empty (bits_left batch incoming m.unacked); unacked = four (bits_left batch incoming m.unacked) }; redelivery_count = m.redelivery_count }
unfolding mark_of
in_part m v l batch incoming e q =
    ap (λ (x : Bool). record { acked = record { complete = x; unacked = l }; redelivery_count = m.redelivery_count }) e
    ∙ ap (λ (x : UnackedBits). record { acked = record { complete = m.complete || bits_empty (bits_left batch incoming m.unacked); unacked = x }; redelivery_count = m.redelivery_count }) q

module _ (m : declared.Mark) (batch : ℕ) (incoming : List ℕ) where
  -- an ack of the whole entry
  whole : (ltb 1 batch && not (is_empty incoming)) ≡ false → record { acked = completed; redelivery_count = m.redelivery_count } ≡ ack_mark batch incoming (mark_of m)
  unfolding mark_of ack_mark ack_entry
  whole e = rw e

  -- a batch of at most one
  pub whole_small : batch ≤ 1 → record { acked = completed; redelivery_count = m.redelivery_count } ≡ ack_mark batch incoming (mark_of m)
  whole_small h = whole (rw (le-ltb 1 batch h))

  -- no words
  pub whole_wordless : 1 < batch → is_empty incoming ≡ true → record { acked = completed; redelivery_count = m.redelivery_count } ≡ ack_mark batch incoming (mark_of m)
  whole_wordless h e = whole (rw (lt-ltb 1 batch h, e))

  -- an ack of a part
  pub part : 1 < batch → is_empty incoming ≡ false
      → record { acked = record { complete = m.complete || bits_empty (bits_left batch incoming m.unacked); unacked = four (bits_left batch incoming m.unacked) }; redelivery_count = m.redelivery_count }
      ≡ ack_mark batch incoming (mark_of m)
  unfolding mark_of ack_mark ack_entry
  part h e = rw (lt-ltb 1 batch h, e)

-- whether words are none is told by their number
pub none_told : (l : List ℕ) → eqb (length l) 0 ≡ is_empty l
unfolding is_empty
none_told [] = refl
none_told (a ∷ l) = eqb-suc-zero (length l)

-- ---- one id

module _ (ledger : List StoredMessage) (d : Dispatcher) (i : Id) (incoming : List ℕ) where
  -- an id in the ledger
  pub ack_there : (k : ℕ) → k ≡ position_of i ledger → k < length ledger
      → with_marks d (set d.marks k (ack_mark (message_at ledger k).batch_size incoming (mark_at d k))) d.outside ≡ ack_id ledger d i incoming
  unfolding ack_id batch_size_of
  ack_there k e h = rw (lt-ltb (position_of i ledger) (length ledger) (omega arith), e)

  -- an id that is not in it
  pub ack_missing : (k : ℕ) → k ≡ position_of i ledger → length ledger ≤ k
      → with_marks d d.marks (cond (is_outside i d) d.outside (insert_id i d.outside)) ≡ ack_id ledger d i incoming
  unfolding ack_id
  ack_missing k e h = rw (le-ltb (position_of i ledger) (length ledger) (omega arith))

  -- has room where the ack has
  pub ack_room : (k : ℕ) → k ≡ position_of i ledger → length ledger ≤ k → length (ack_id ledger d i incoming).outside ≤ 64
      → length (cond (is_outside i d) d.outside (insert_id i d.outside)) ≤ 64
  unfolding with_marks
  ack_room k e h r = rw (← ack_missing k e h) at r

-- one more has room
pub last_room : (i : Id) (x : Dispatcher) → is_outside i x ≡ false → length (cond (is_outside i x) x.outside (insert_id i x.outside)) ≤ 64 → length x.outside < 64
last_room i x e h = let h' : length (insert_id i x.outside) ≤ 64 = rw e at h in let n = length_insert_id i x.outside in omega arith

-- words that stay are those of a dispatcher whose marks and outside ids stay
pub unchanged : {e : ℕ} {ws : List ℕ} (d : ℕ) → DispatcherIn e ws d
    → ws ≡ put ws (set_dispatcher (decode ws) d (with_marks (dispatcher_nth (decode ws) d) (dispatcher_nth (decode ws) d).marks (dispatcher_nth (decode ws) d).outside))
unfolding with_marks set_dispatcher with_dispatchers
unchanged {e} {ws} d h = rw (set-get_or (decode ws).dispatchers d zero_dispatcher) (sym (put_decode h.canon))

-- ---- the topic

-- a topic with an entry exists
pub ledger_there : (s : State) (t topic k : ℕ) → t ≡ slot by_number topic s.topics → k < length (ledger_of s topic)
    → (t < length s.topics) × (ledger_of s topic ≡ (topic_nth s t).messages)
ledger_there s t topic k e h =
    by_test (ltb t (length s.topics))
    (λ b. let l = ltb-true t (length s.topics) b in (l, rw e (ledger_at s topic (rw e at l))))
    (λ b. let l = ltb-false t (length s.topics) b in
    let n : length (ledger_of s topic) ≡ 0 = rw (ledger_none s topic (rw e at l)) in
    let none : ⊥ = omega arith in absurd none)
