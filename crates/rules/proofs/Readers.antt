-- What a plain consumer reads: the claims of specs/Readers.antt. A seek past the end leaves nothing ahead of the reader, and an
-- append then just the new entry.
use Prim.Native.Nat.{ℕ, ◌-◌}
use mathlib.Core.Path.{◌≡◌, refl, sym, ap, ◌∙◌, subst}
use mathlib.Core.Bool.{Bool, true, false, true≢false}
use mathlib.Core.List.{List, [], ◌∷◌, ◌++◌}
use native.Mathlib.Omega.{arith}
use lib.ListN.{length, take, drop_of_length-le}
use lib.Seq.{take-nil, drop-append_seam}
use borrow.Author.Tests.{eq-eqb}
use Rattle.rules.specs.Permits.{zero_permits}
use Rattle.rules.specs.State.{Id, StoredMessage, Consumer, State, consumer_of, ledger_of, with_topics, with_dispatchers, put_consumer}
use Rattle.rules.specs.Outcome.{Outcome, guard, found_or_4, with_live}
use Rattle.rules.specs.Commands.{append, target_position, with_reading, seek}
use Rattle.rules.specs.Commands.Target.{to_id}
use Rattle.rules.specs.Calls.{rule, state_after, run}
use Rattle.rules.specs.Calls.Call.{Append, Seek}
use Rattle.rules.specs.Demand.{is_done}
use Rattle.rules.specs.Readers.{GoesTo, PastEnd, Reader, due_to, ahead, Reads}
use Rattle.rules.proofs.Appended.{entry_added, ledger_after, ring_after}
use Rattle.rules.proofs.Readers.Goes.{goes, alone}
use Rattle.rules.proofs.Readers.Others.{Stands, self_put}
use Rattle.rules.proofs.Readers.Pushed.{due_allowed}
pub mod Goes
pub mod Others
pub mod Own
pub mod Pushed

-- ---- an append that is done

-- a test that refuses nothing
passed : (b : Bool) (k : ℕ) (o : Outcome) (t : State) → is_done (guard b k o) ≡ true → (is_done o ≡ true) × (state_after t (guard b k o) ≡ state_after t o)
unfolding guard is_done
passed true k o t e = absurd (true≢false (sym e))
passed false k o t e = (e, refl)

-- so the entry is added
added : (t : State) (topic : ℕ) (m : StoredMessage) → is_done (rule t (Append topic m)) ≡ true → state_after t (rule t (Append topic m)) ≡ entry_added t topic m
unfolding rule append state_after
added t topic m e =
    let a = passed _ _ _ t e in
    let b = passed _ _ _ t a.0 in
    let c = passed _ _ _ t b.0 in
    let d = passed _ _ _ t c.0 in
    a.1 ∙ b.1 ∙ c.1 ∙ d.1

-- a reader stands as it was, over the ledger that grew
stands_added : (i n : ℕ) (l : List StoredMessage) (c : Consumer) (t : State) (m : StoredMessage) → Stands i n l c t → Stands i n (l ++ m ∷ []) c (entry_added t n m)
unfolding consumer_of with_dispatchers with_topics
stands_added i n l c t m h =
    record {
      reader = record { live = h.reader.live; is_plain = h.reader.is_plain; in_no_ring = λ p. rw (ring_after t n m p) (h.reader.in_no_ring p) };
      its_topic = h.its_topic;
      its_ledger = ledger_after t n m n ∙ rw (eq-eqb n n refl) (ap (λ (r : List StoredMessage). r ++ m ∷ []) h.its_ledger);
    }

-- ---- the claims

-- a reader stands over the ledger of its topic
stands : (s : State) (i : ℕ) (c : Consumer) → Reader s i c → Stands i c.pair.topic (ledger_of s c.pair.topic) c s
stands s i c r = record { reader = r; its_topic = refl; its_ledger = refl }

-- a push sends what is ahead
sends_ahead : (s : State) (i : ℕ) (c : Consumer) → Reader s i c → due_to i s ≡ take (c.permits - zero_permits) (ahead (ledger_of s c.pair.topic) c)
sends_ahead s i c r = due_allowed i c.pair.topic (ledger_of s c.pair.topic) c s (stands s i c r)

module _ (s : State) (i : ℕ) (c : Consumer) (x : Id) (r : Reader s i c) (past : PastEnd x (ledger_of s c.pair.topic)) where
  -- its topic
  abbrev n : ℕ
  n = c.pair.topic

  -- the ledger
  abbrev l : List StoredMessage
  l = ledger_of s n

  -- the reader after a seek past the end
  abbrev d : Consumer
  d = with_reading c (length l) []

  -- the state then
  sought : run s (Seek i (to_id x) ∷ []) ≡ put_consumer s d
  unfolding run rule seek with_live found_or_4 target_position state_after
  sought =
      let end : GoesTo x l (length l) = record { not_past = omega arith; none_before = past; there = λ h. absurd (omega arith) } in
      rw r.live (ap (λ (k : ℕ). put_consumer s (with_reading c k [])) (sym (alone x l (length l) end)))

  -- it stands there
  sought_stands : Stands i n l d (put_consumer s d)
  unfolding with_reading
  sought_stands = self_put i n l c d s refl refl refl (stands s i c r)

  -- nothing is due to it
  nothing_due : due_to i (run s (Seek i (to_id x) ∷ [])) ≡ []
  unfolding ahead with_reading
  nothing_due =
      rw sought
      (due_allowed i n l d (put_consumer s d) sought_stands
      ∙ ap (take (c.permits - zero_permits)) (drop_of_length-le l {i = length l} (omega arith)) ∙ take-nil (c.permits - zero_permits))

  -- and then just the new entry
  one_due : (m : StoredMessage) → is_done (rule (run s (Seek i (to_id x) ∷ [])) (Append n m)) ≡ true
      → due_to i (run s (Seek i (to_id x) ∷ Append n m ∷ [])) ≡ take (c.permits - zero_permits) (m ∷ [])
  unfolding run ahead with_reading
  one_due m e =
      let t : State = put_consumer s d in
      let f : is_done (rule t (Append n m)) ≡ true = subst (λ (u : State). is_done (rule u (Append n m)) ≡ true) sought e in
      ap (λ (u : State). due_to i (state_after u (rule u (Append n m)))) sought
      ∙ ap (due_to i) (added t n m f)
      ∙ due_allowed i n (l ++ m ∷ []) d (entry_added t n m) (stands_added i n l d t m sought_stands)
      ∙ ap (take (c.permits - zero_permits)) (drop-append_seam l (m ∷ []))

-- what a plain consumer reads
pub reads : Reads
reads = record {
  seek_goes = goes;
  only_there = alone;
  push_sends = sends_ahead;
  waits = λ s i c x r past. nothing_due s i c x r past;
  next_alone = λ s i c x m r past e. one_due s i c x r past m e;
}
