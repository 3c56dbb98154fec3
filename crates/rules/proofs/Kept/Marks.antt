-- Marks and ids outside the ledger stay valid: a mark set, acknowledged, raised or added, an id added.
use Prim.Native.Nat.{ℕ, ◌+◌, ◌≤◌, ◌<◌}
use mathlib.Core.Path.{◌≡◌, refl, sym, ◌∙◌, ap, subst}
use mathlib.Core.Bool.{true, false, not, ◌&&◌, and-eq-true_iff}
use mathlib.Core.List.{List, [], ◌∷◌, ◌++◌}
use native.Mathlib.Omega.{arith}
use lib.Dec.{eqb, ltb}
use lib.ListN.{length, get_or, set, length-append, length-set, get_or-append}
use lib.Seq.{get_or-set_same, get_or-set_other, get_or_at}
use borrow.Author.Tests.{eqb-true, eqb-false, ltb-true, ltb-false}
use Rattle.bits.specs.declared.UnackedBits.{UnackedBits}
use Rattle.bits.specs.Bits.{fresh_unacked_bits, and_into, bits_empty, bits_below}
use Rattle.bits.specs.Four.{words, four}
use Rattle.bits.proofs.Sets.{fresh_length, fresh_below, and_into_length, and_into_below}
use Rattle.bits.proofs.Fours.{words_four}
use Rattle.rules.specs.Table.{Every, any, is_empty}
use Rattle.rules.specs.State.{Id, same_id, StoredMessage, Mark, Dispatcher, new_mark}
use Rattle.rules.specs.Ledger.{position_of, holds_id, no_message, message_at, batch_size_of}
use Rattle.rules.specs.Dispatcher.{with_marks, mark_at, is_outside, bits_left, ack_entry, ack_mark, ack_id}
use Rattle.rules.specs.Commands.{raised}
use Rattle.rules.specs.Valid.{ValidId, ValidMark, ValidMarks, AscendingIds, ValidOutside}
use Rattle.rules.proofs.Table.{by_test}
use Rattle.rules.proofs.Ids.{every_insert_id, ascending_insert_id}
use Rattle.rules.proofs.Kept.Every.{fails_on_each}
use Rattle.rules.proofs.Kept.Parts.{valid_no_bits}

-- ---- one mark

-- a raised count stays a 32-bit one
pub valid_raised : (m : StoredMessage) (k : Mark) → ValidMark m k → ValidMark m (raised k)
unfolding raised
valid_raised m k v =
    record { count_range = omega arith; no_bits_below_2 = v.no_bits_below_2; bits_in_batch = v.bits_in_batch }

-- the bits left after an ack are below the batch size
bits_left_below : (batch : ℕ) (incoming : List ℕ) (b : UnackedBits) → bits_below batch (words b) ≡ true
    → bits_below batch (words (four (bits_left batch incoming b))) ≡ true
unfolding bits_left
bits_left_below batch incoming b h =
    by_test (bits_empty (words b))
    (λ t. rw t (kept (fresh_unacked_bits 4 batch) (fresh_length 4 batch) (fresh_below 4 batch)))
    (λ t. rw t (kept (words b) refl h))
  where
    kept : (l : List ℕ) → length l ≡ 4 → bits_below batch l ≡ true → bits_below batch (words (four (and_into l incoming))) ≡ true
    kept l e k = ap (bits_below batch) (words_four (and_into l incoming) (and_into_length l incoming ∙ e)) ∙ and_into_below batch l incoming k

-- an acknowledged mark
pub valid_ack_mark : (m : StoredMessage) (incoming : List ℕ) (k : Mark) → ValidMark m k → ValidMark m (ack_mark m.batch_size incoming k)
unfolding ack_mark ack_entry
valid_ack_mark m incoming k v =
    by_test (ltb 1 m.batch_size && not (is_empty incoming))
    (λ t.
    let more : 1 < m.batch_size = ltb-true 1 m.batch_size ((and-eq-true_iff (ltb 1 m.batch_size) (not (is_empty incoming))).0 t).0 in
    rw t
    (record {
      count_range = v.count_range;
      no_bits_below_2 = λ z. absurd (omega arith);
      bits_in_batch = λ z. bits_left_below m.batch_size incoming k.acked.unacked (v.bits_in_batch z);
    }))
    (λ t. rw t (valid_no_bits m true k.redelivery_count v.count_range))

-- ---- the marks of a ledger

-- one of them set
pub valid_set_mark : (l : List StoredMessage) (marks : List Mark) (k : ℕ) (m : Mark) → ValidMarks l marks
    → (ValidMark (message_at l k) (get_or marks k new_mark) → ValidMark (message_at l k) m) → ValidMarks l (set marks k m)
valid_set_mark l marks k m v f =
    record {
      one_each = length-set marks k m ∙ v.one_each;
      each_mark = λ j h.
          by_test (eqb j k)
          (λ t.
          let e : j ≡ k = eqb-true j k t in
          let g : k < length marks = omega (arith, v.one_each) in
          subst (λ (n : ℕ). ValidMark (message_at l n) (get_or (set marks k m) n new_mark)) (sym e)
          (subst (λ (x : Mark). ValidMark (message_at l k) x) (sym (get_or-set_same marks k m new_mark g)) (f (v.each_mark k (omega arith)))))
          (λ t. subst (λ (x : Mark). ValidMark (message_at l j) x) (sym (get_or-set_other marks k j m new_mark (eqb-false j k t))) (v.each_mark j h));
    }

-- one more, for one more message
pub valid_more_marks : (l : List StoredMessage) (marks : List Mark) (x : StoredMessage) (m : Mark) → ValidMarks l marks → ValidMark x m
    → ValidMarks (l ++ x ∷ []) (marks ++ m ∷ [])
unfolding message_at
valid_more_marks l marks x m v w =
    let a : length (l ++ x ∷ []) ≡ length l + 1 = length-append l (x ∷ []) in
    let b : length (marks ++ m ∷ []) ≡ length marks + 1 = length-append marks (m ∷ []) in
    let e : length marks ≡ length l = v.one_each in
    record {
      one_each = omega arith;
      each_mark = λ j h.
          by_test (ltb j (length l))
          (λ t.
          let g : j < length l = ltb-true j (length l) t in
          let g' : j < length marks = omega arith in
          rw (get_or-append l (x ∷ []) no_message j g, get_or-append marks (m ∷ []) new_mark j g') (v.each_mark j g))
          (λ t.
          let g : length l ≤ j = ltb-false j (length l) t in
          let f : length l ≡ j = omega arith in
          let f' : length marks ≡ j = omega arith in
          rw (get_or_at l x [] no_message j f, get_or_at marks m [] new_mark j f') w);
    }

-- ---- ids outside the ledger, without the bound on their number

pub record Outside (ledger : List StoredMessage) (ids : List Id) : Type 0 where
  pub in_order : AscendingIds ids
  pub each_word : Every ValidId ids
  pub not_within : Every (λ (i : Id). holds_id i ledger ≡ false) ids

-- the ids outside of a valid dispatcher, and back where they are 64 at most
pub outside_of : (ledger : List StoredMessage) (ids : List Id) → ValidOutside ledger ids → Outside ledger ids
outside_of ledger ids v = record { in_order = v.outside_ascending; each_word = v.outside_words; not_within = v.not_in_ledger }

pub of_outside : (ledger : List StoredMessage) (ids : List Id) → length ids ≤ 64 → Outside ledger ids → ValidOutside ledger ids
of_outside ledger ids h v =
    record { outside_count = h; outside_ascending = v.in_order; outside_words = v.each_word; not_in_ledger = v.not_within }

-- ---- an ack of an id

module _ (ledger : List StoredMessage) (d : Dispatcher) (i : Id) (incoming : List ℕ) where
  -- changes marks and ids outside alone
  pub ack_id_rest : (marks : List Mark) (ids : List Id) → with_marks (ack_id ledger d i incoming) marks ids ≡ with_marks d marks ids
  unfolding ack_id with_marks
  ack_id_rest marks ids = by_test (ltb (position_of i ledger) (length ledger)) (λ t. rw t) (λ t. rw t)

  -- keeps the marks valid
  pub ack_id_marks : ValidMarks ledger d.marks → ValidMarks ledger (ack_id ledger d i incoming).marks
  unfolding ack_id with_marks batch_size_of mark_at
  ack_id_marks v =
      let k : ℕ = position_of i ledger in
      by_test (ltb (position_of i ledger) (length ledger))
      (λ t. rw t
      (valid_set_mark ledger d.marks k (ack_mark (message_at ledger k).batch_size incoming (get_or d.marks k new_mark)) v
      (valid_ack_mark (message_at ledger k) incoming (get_or d.marks k new_mark))))
      (λ t. rw t v)

  -- and the ids outside, but for their number
  pub ack_id_outside : ValidId i → Outside ledger d.outside → Outside ledger (ack_id ledger d i incoming).outside
  unfolding ack_id with_marks is_outside holds_id
  ack_id_outside w v =
      by_test (ltb (position_of i ledger) (length ledger))
      (λ t. rw t v)
      (λ t. rw t
      (by_test (any (same_id i) d.outside)
      (λ u. rw u v)
      (λ u. rw u
      (record {
        in_order = ascending_insert_id i d.outside v.in_order (fails_on_each (same_id i) d.outside u);
        each_word = every_insert_id i d.outside w v.each_word;
        not_within = every_insert_id {P = λ (j : Id). holds_id j ledger ≡ false} i d.outside t v.not_within;
      }))))
