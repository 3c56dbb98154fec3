-- The tests of a dispatcher's words are the rules' tests of the dispatcher that they spell: its marks, its outside ids, and
-- the whole of it.
use mathlib.Core.Path.{◌≡◌, refl, sym, ap, ap₂, ◌∙◌, subst}
use mathlib.Core.Bool.{Bool, true, false, not, ◌&&◌, and-true, and_assoc, and-false}
use mathlib.Core.List.{List, map}
use Prim.Native.Nat.{ℕ, ◌+◌, ◌-◌, ◌*◌, ◌^◌, ◌<◌}
use native.Mathlib.Omega.{arith}
use lib.Dec.{eqb, leb, ltb}
use lib.ListN.{length, get_or, length-map, get_or-map}
use borrow.Author.Tests.{le-leb, lt-ltb, eqb-true}
use Rattle.bits.specs.Bits.{AreWords}
use Rattle.rules.specs.Permits.{least_total, most_total, total_in_range}
use Rattle.rules.specs.Table.{all}
use Rattle.rules.specs.State.{Dispatcher, Id, same_id, StoredMessage, new_mark, ledger_of}
use Rattle.rules.specs.Ledger.{holds_id, no_message, after_id}
use Rattle.rules.specs.Valid.{is_byte, is_word, valid_id, valid_mark, valid_marks, valid_ring, valid_places, ascending_ids, valid_outside, valid_dispatcher}
use Rattle.rules.proofs.State.{decides_ids}
use Rattle.rules.proofs.Table.{by_test}
use Rattle.layout.specs.Layout.{decode}
use Rattle.layout.specs.Canon.{CanonStore}
use Rattle.layout.specs.Offsets.{dispatcher_at, marks_in, mark_in}
use Rattle.layout.specs.Fields.{zero_id, dispatcher_nth}
use Rattle.layout.proofs.GetsDispatcher.{read_dispatcher_topic, dispatcher_short, read_outside_count, read_mark_count, read_outside_ledger, read_outside_entry, read_redelivery_count, read_w0, read_w1, read_w2, read_w3}
use Rattle.check_rows.specs.Below.{some_below}
use Rattle.check_rows.specs.Rows.{row, row_second, two_among, pair_above, two_ascends, twos_ascend}
use Rattle.check_state.specs.Marks.{mark_right, mark_suits, marks_right, absent_id, absent, outside_right}
use Rattle.check_state.specs.Dispatchers.{front_right, rest_right}
use Rattle.check_rows.proofs.Below.{each_given, each_same, some_same}
use Rattle.check_rows.proofs.Elements.{marks_each, holds_any, all_each, any_some, ascending_each}
use Rattle.check_rows.proofs.RowLists.{by_place, two_before}
use Rattle.check_topics.specs.Ledgers.{LedgerSpelt}
use Rattle.check_state.proofs.DispatcherWords.{head_reads, ring_reads, places_reads}

-- a test made before four others, or after them
ring_first : (t u v w c x : Bool) → (t && (u && (v && (w && (c && x))))) ≡ (c && (t && (u && (v && (w && x)))))
ring_first t u v w true x = refl
ring_first t u v w false x = simp and-false refl

module _ {e : ℕ} {ws : List ℕ} (h : CanonStore e ws) (d : ℕ) (k : d < length (decode ws).dispatchers) where
  -- the dispatcher
  abbrev the : Dispatcher
  the = dispatcher_nth (decode ws) d

  -- where it stands
  abbrev here : ℕ
  here = dispatcher_at e d

  -- ---- marks and outside ids, by the ledger of its topic

  -- the ledger
  abbrev pub ledger : List StoredMessage
  ledger = ledger_of (decode ws) the.pair.topic

  module _ (ledger_here : ℕ) (spelt : LedgerSpelt ws ledger_here ledger) where
    -- a mark and its entry
    mark_reads : (j : ℕ) → j < length the.marks → j < length ledger
        → mark_suits ws ledger_here (here + mark_in e 0) j ≡ valid_mark (get_or ledger j no_message) (get_or the.marks j new_mark)
    unfolding mark_right valid_mark
    mark_reads j l m =
        let p : here + mark_in e 0 + j * 6 ≡ here + mark_in e j = omega arith in
        rw (
          p,
          read_redelivery_count h d k j l,
          read_w0 h d k j l,
          read_w1 h d k j l,
          read_w2 h d k j l,
          read_w3 h d k j l,
          (spelt j m).2,
        )

    -- the marks' test
    marks_reads : marks_right ws ledger_here (length ledger) (here + mark_in e 0) (get_or ws (here + marks_in e) 0) ≡ valid_marks ledger the.marks
    unfolding marks_right
    marks_reads =
        let n : get_or ws (here + marks_in e) 0 ≡ length the.marks = by_place ws (omega arith) (read_mark_count h d k) in
        rw (n, marks_each ledger the.marks)
        (by_test (eqb (length the.marks) (length ledger))
        (λ t. let s = eqb-true (length the.marks) (length ledger) t in
        ap (λ (b : Bool). eqb (length the.marks) (length ledger) && b)
        (each_same (mark_suits ws ledger_here (here + mark_in e 0)) (λ j. valid_mark (get_or ledger j no_message) (get_or the.marks j new_mark)) (length the.marks)
        (λ j l. mark_reads j l (omega arith))))
        (λ t. rw t))

    -- the outside ids
    id_spell : (j : ℕ) → j < length the.outside
        → (row ws (here + 45) 2 j ≡ (get_or the.outside j zero_id).ledger) × (row_second ws (here + 45) 2 j ≡ (get_or the.outside j zero_id).entry)
    id_spell j l = (by_place ws (omega arith) (read_outside_ledger h d k j l), by_place ws (omega arith) (read_outside_entry h d k j l))

    -- they ascend
    ids_ascend : twos_ascend ws (here + 45) 2 (length the.outside) ≡ ascending_ids the.outside
    unfolding twos_ascend pair_above after_id
    ids_ascend =
        each_same (two_ascends ws (here + 45) 2) (λ j. after_id (get_or the.outside (j + 1) zero_id) (get_or the.outside j zero_id)) (length the.outside - 1)
        (λ j l.
        let s = id_spell j (omega arith) in
        let n = id_spell (j + 1) (omega arith) in
        rw (s.0, s.1, n.0, n.1))
        ∙ sym (ascending_each the.outside zero_id)

    -- the ledger's ids
    entry_spell : (j : ℕ) → j < length (map (λ (m : StoredMessage). m.id) ledger)
        → (row ws ledger_here 4 j ≡ (get_or (map (λ (m : StoredMessage). m.id) ledger) j no_message.id).ledger)
        × (row_second ws ledger_here 4 j ≡ (get_or (map (λ (m : StoredMessage). m.id) ledger) j no_message.id).entry)
    entry_spell j l =
        let m : j < length ledger = rw (length-map ledger (λ (m : StoredMessage). m.id)) at l in
        let s = sym (get_or-map (λ (m : StoredMessage). m.id) ledger j no_message) in
        ((spelt j m).0 ∙ ap (λ (i : Id). i.ledger) s, (spelt j m).1 ∙ ap (λ (i : Id). i.entry) s)

    -- an outside id among them
    held_reads : (i : Id) → two_among ws ledger_here 4 (length ledger) i.ledger i.entry ≡ holds_id i ledger
    unfolding same_id
    held_reads i =
        subst (λ (n : ℕ). two_among ws ledger_here 4 n i.ledger i.entry ≡ some_below
        (λ j. same_id i (get_or (map (λ (m : StoredMessage). m.id) ledger) j no_message.id)) n)
        (length-map ledger (λ (m : StoredMessage). m.id))
        (two_before same_id decides_ids (λ i. i.ledger) (λ i. i.entry) (λ a b. refl) ws ledger_here 4 (map (λ (m : StoredMessage). m.id) ledger)
        no_message.id entry_spell
        (length (map (λ (m : StoredMessage). m.id) ledger)) i (omega arith))
        ∙ some_same (λ j. same_id i (get_or (map (λ (m : StoredMessage). m.id) ledger) j no_message.id)) (λ j. same_id i (get_or ledger j no_message).id) (length ledger)
        (λ j l. ap (same_id i) (get_or-map (λ (m : StoredMessage). m.id) ledger j no_message))
        ∙ sym (any_some (λ (m : StoredMessage). same_id i m.id) ledger no_message)
        ∙ sym (holds_any i ledger)

    -- none is in the ledger
    absent_reads : absent ws (here + 45) (length the.outside) ledger_here (length ledger) ≡ all (λ (i : Id). not (holds_id i ledger)) the.outside
    unfolding absent
    absent_reads =
        each_same (absent_id ws (here + 45) ledger_here (length ledger)) (λ j. not (holds_id (get_or the.outside j zero_id) ledger)) (length the.outside)
        (λ j l. let s = id_spell j l in rw (s.0, s.1) (ap not (held_reads (get_or the.outside j zero_id))))
        ∙ sym (all_each (λ (i : Id). not (holds_id i ledger)) the.outside zero_id)

    module _ (are_words : AreWords ws) where
      -- they are words, since all are
      id_words : all valid_id the.outside ≡ true
      unfolding valid_id is_word
      id_words =
          all_each valid_id the.outside zero_id
          ∙ each_given (λ j. valid_id (get_or the.outside j zero_id)) (length the.outside)
          (λ j l. let s = id_spell j l in
          let f : ltb (get_or the.outside j zero_id).ledger (2 ^ 64) ≡ true = lt-ltb _ (2 ^ 64) (subst (λ (v : ℕ). v < 2 ^ 64) s.0 (are_words (here + 45 + j * 2))) in
          let g : ltb (get_or the.outside j zero_id).entry (2 ^ 64) ≡ true = lt-ltb _ (2 ^ 64)
          (subst (λ (v : ℕ). v < 2 ^ 64) s.1 (are_words (here + 45 + j * 2 + 1))) in
          rw (f, g))

      -- the outside ids' test
      outside_reads : outside_right ws here ledger_here (length ledger) ≡ valid_outside ledger the.outside
      unfolding outside_right valid_outside
      outside_reads =
          let f = le-leb (length the.outside) 64 (dispatcher_short h d k).outside_fits in
          rw (read_outside_count h d k, f, id_words)
          (ap₂ ◌&&◌ (ids_ascend ∙ sym (and-true (ascending_ids the.outside))) absent_reads)

      -- ---- the whole

      -- the tests of its words are the rules' test of it
      pub dispatcher_reads : (front_right ws e here (length ledger) && rest_right ws e here ledger_here (length ledger)) ≡ valid_dispatcher (decode ws) the
      unfolding front_right rest_right valid_dispatcher total_in_range
      dispatcher_reads =
          ap₂ ◌&&◌ (ap₂ ◌&&◌ (head_reads h d k (length ledger)) (ap₂ ◌&&◌ (ring_reads h d k are_words) (places_reads h d k))) (ap₂ ◌&&◌ marks_reads outside_reads)
          ∙ simp and_assoc (ap (λ (x : Bool). is_byte the.pair.topic && (is_byte the.pair.subscription && x)) (ring_first
          (leb least_total the.total_available_permits) (leb the.total_available_permits most_total) (leb the.cursor (length ledger))
          (leb the.mark_delete (length ledger)) (valid_ring the) (valid_places the && (valid_marks ledger the.marks && valid_outside ledger the.outside))))

-- the rest of a dispatcher's test, by the words that are read of it
module _ {e : ℕ} {ws : List ℕ} (h : CanonStore e ws) (d : ℕ) (k : d < length (decode ws).dispatchers) (are_words : AreWords ws)
    {at n : ℕ} (first : ℕ) (place : at ≡ dispatcher_at e d) (entries : n ≡ length (ledger_of (decode ws) (get_or ws at 0)))
    (spelt : LedgerSpelt ws first (ledger_of (decode ws) (get_or ws at 0))) where
  -- the tests of its words are the rules' test of it
  pub words_decide : (front_right ws e at n && rest_right ws e at first n) ≡ valid_dispatcher (decode ws) (dispatcher_nth (decode ws) d)
  words_decide =
      let topic : get_or ws at 0 ≡ (dispatcher_nth (decode ws) d).pair.topic = rw place (read_dispatcher_topic h d k) in
      let l : LedgerSpelt ws first (ledger_of (decode ws) (dispatcher_nth (decode ws) d).pair.topic) =
      subst (λ (t : ℕ). LedgerSpelt ws first (ledger_of (decode ws) t)) topic spelt in
      let m : n ≡ length (ledger_of (decode ws) (dispatcher_nth (decode ws) d).pair.topic) = entries ∙ ap (λ (t : ℕ). length (ledger_of (decode ws) t)) topic in
      rw (place, m) (dispatcher_reads h d k first l are_words)
