-- What holds of a record that a push makes: the ranges of its numbers. An entry costs 1 to 256.
use Prim.Native.Nat.{ℕ, zero, suc, ◌-◌, ◌^◌, ◌≤◌, ◌<◌}
use mathlib.Core.Path.{◌≡◌, refl}
use mathlib.Core.Bool.{true, and-eq-true_iff}
use mathlib.Core.List.Memᴰ
use mathlib.Core.List.{List, [], ◌∷◌}
use native.Mathlib.Omega.{arith}
use lib.Dec.{eqb, ltb, leb-zero}
use lib.ListN.{length, get_or}
use borrow.Author.Tests.{ltb-true, ltb-false, eqb-true}
use Rattle.bits.specs.Bits.{bits_empty, bits_below, bits_cardinality, AreWords}
use Rattle.bits.specs.Four.{words}
use Rattle.bits.proofs.Sets.{below_are_words, below_cardinality, cardinality_empty}
use Rattle.rules.specs.Permits.{least_permits, most_permits}
use Rattle.rules.specs.Table.{Every}
use Rattle.rules.specs.State.{StoredMessage, Mark, State, ledger_of}
use Rattle.rules.specs.Ledger.{message_at, no_message}
use Rattle.rules.specs.Dispatcher.{cost}
use Rattle.rules.specs.Outcome.{Dispatch}
use Rattle.rules.specs.Valid.{ValidMessage, ValidMark, Sound}
use Rattle.rules.proofs.Says.{every_head, every_tail}
use Rattle.rules.proofs.Table.{by_test, never_both}
use Rattle.rules.proofs.Kept.Append.{each_ledger}

-- the ranges of a record's numbers
pub record Ranged (x : Dispatch) : Type 0 where
  pub consumer_word : x.consumer < 2 ^ 64
  pub message_valid : ValidMessage x.message
  pub words_most : x.ack_set_words ≤ 4
  pub set_words : AreWords (words x.ack_set)
  pub count_range : x.redelivery_count < 2 ^ 32
  pub cost_from : 1 ≤ x.cost
  pub cost_to : x.cost ≤ 256
  pub permits_from : least_permits ≤ x.permits
  pub permits_to : x.permits ≤ most_permits

-- a message of a ledger is valid
pub message_valid_at : (s : State) (n k : ℕ) → Sound s → k < length (ledger_of s n) → ValidMessage (message_at (ledger_of s n) k)
unfolding message_at
message_valid_at s n k v h =
    each_in (ledger_of s n) k (each_ledger (Every ValidMessage) s (λ a m. absurd (Memᴰ.not-nil m)) (λ t m. (v.each_topic t m).each_message) n) h
  where
    each_in : (l : List StoredMessage) (k : ℕ) → Every ValidMessage l → k < length l → ValidMessage (get_or l k no_message)
    each_in [] k f h = absurd (omega arith)
    each_in (m ∷ l) zero f h = every_head f
    each_in (m ∷ l) (suc k) f h = each_in l k (every_tail f) (omega arith)

-- a set without bits is below any number
pub empty_below : (n : ℕ) (ws : List ℕ) → bits_empty ws ≡ true → bits_below n ws ≡ true
unfolding bits_empty bits_below
empty_below n [] h = refl
empty_below n (w ∷ ws) h =
    let parts = (and-eq-true_iff (eqb w 0) (bits_empty ws)).0 h in
    rw (eqb-true w 0 parts.0, leb-zero) (empty_below (n - 64) ws parts.1)

module _ (m : StoredMessage) (k : Mark) (message : ValidMessage m) (mark : ValidMark m k) where
  -- an entry's stored bits are below its batch size
  bits_in : bits_below m.batch_size (words k.acked.unacked) ≡ true
  bits_in =
      by_test (ltb 1 m.batch_size)
      (λ t. mark.bits_in_batch (ltb-true 1 m.batch_size t))
      (λ t. empty_below m.batch_size (words k.acked.unacked) (mark.no_bits_below_2 (ltb-false 1 m.batch_size t)))

  -- so they are words
  pub bits_words : AreWords (words k.acked.unacked)
  bits_words = below_are_words m.batch_size (words k.acked.unacked) bits_in

  -- what an entry costs
  pub cost_range : (1 ≤ cost m.batch_size k.acked.unacked) × (cost m.batch_size k.acked.unacked ≤ 256)
  unfolding cost
  cost_range =
      let ws : List ℕ = words k.acked.unacked in
      let n : ℕ = m.batch_size in
      let most : n ≤ 256 = message.batch_range in
      by_test (bits_empty ws)
      (λ t. rw t (omega arith))
      (λ t. rw t
      (let h = below_cardinality n ws bits_in in
      (some_bit (bits_cardinality ws) (λ e. never_both (bits_empty ws) (cardinality_empty ws bits_words e) t), omega arith)))
    where
      some_bit : (c : ℕ) → (c ≡ 0 → ⊥) → 1 ≤ c
      some_bit zero f = absurd (f refl)
      some_bit (suc c) f = omega arith
