-- What each test of `valid` says: it passes exactly where the record beside it holds.
use Prim.Native.Nat.{ℕ, zero, suc, ◌^◌, ◌≤◌, ◌<◌, zero-le, suc-le-suc}
use mathlib.Core.Path.{◌≡◌, refl, ap, subst}
use mathlib.Core.Bool.{Bool, true, false, cond, ◌&&◌, ◌||◌, false≢true}
use mathlib.Core.List.{List, [], ◌∷◌, ◌++◌, map}
use mathlib.Core.Logic.{⊎_elim, inl, inr}
use native.Mathlib.Nat.{le_of_suc-le-suc, not-suc-le-zero}
use native.Mathlib.Omega.{arith}
use lib.Dec.{eqb, ltb}
use lib.ListN.{length, get_or}
use borrow.Author.Tests.{ltb-true, ltb-false}
use Rattle.bits.specs.Bits.{bits_empty, bits_below}
use Rattle.bits.specs.Four.{words}
use Rattle.rules.specs.Permits.{least_permits, most_permits, least_total, most_total, total_in_range}
use Rattle.rules.specs.Table.{is_empty}
use Rattle.rules.specs.State.{Id, same_id, StoredMessage, Topic, same_pair, Kind, by_kind, Consumer, Mark, Held, Dispatcher, State, new_mark, ledger_of, dispatcher}
use Rattle.rules.specs.State.Kind.{plain, shared}
use Rattle.rules.specs.Ledger.{holds_id, no_message, message_at, after_id}
use Rattle.rules.specs.Valid.{is_byte, is_word, valid_id, ValidId, valid_message, ValidMessage, valid_topic, ValidTopic, ascending, Ascending, valid_consumer, ValidConsumer, valid_mark, ValidMark, valid_marks, ValidMarks, valid_ring, ValidRing, valid_places, ValidPlaces, ascending_ids, AscendingIds, valid_outside, ValidOutside, valid_dispatcher, ValidDispatcher, sound, Sound, valid, Valid}
use Rattle.rules.proofs.Says.{Says, says_as, says_leb, says_ltb, says_eqb, says_true, says_not, says_and, says_or, says_all, says_distinct, says_member}

pub says_byte : (n : ℕ) → Says (is_byte n) (n < 256)
unfolding is_byte
says_byte n = says_ltb n 256

pub says_word : (n : ℕ) → Says (is_word n) (n < 2 ^ 64)
unfolding is_word
says_word n = says_ltb n (2 ^ 64)

pub says_id : (i : Id) → Says (valid_id i) (ValidId i)
unfolding valid_id
says_id i =
    says_as (λ k. record { ledger_word = k.0; entry_word = k.1 }) (λ v. (v.ledger_word, v.entry_word))
    (says_and _ _ (says_word i.ledger) (says_word i.entry))

pub says_message : (m : StoredMessage) → Says (valid_message m) (ValidMessage m)
unfolding valid_message
says_message m =
    says_as (λ k. record { id_words = k.0.0; handle_word = k.0.1; batch_range = k.1 })
    (λ v. ((v.id_words, v.handle_word), v.batch_range))
    (says_and _ _ (says_and _ _ (says_id m.id) (says_word m.handle)) (says_leb m.batch_size 256))

pub says_topic : (e : ℕ) (t : Topic) → Says (valid_topic e t) (ValidTopic e t)
unfolding valid_topic
says_topic e t =
    says_as
    (λ k.
    record {
      number_byte = k.0.0.0.0;
      some_entry = k.0.0.0.1;
      at_most_E = k.0.0.1;
      each_message = k.0.1;
      ids_distinct = k.1;
    })
    (λ v. ((((v.number_byte, v.some_entry), v.at_most_E), v.each_message), v.ids_distinct))
    (says_and _ _
    (says_and _ _
    (says_and _ _ (says_and _ _ (says_byte t.number) (says_leb 1 (length t.messages)))
    (says_leb (length t.messages) e))
    (says_all says_message t.messages))
    (says_distinct same_id (map (λ (m : StoredMessage). m.id) t.messages)))

pub says_ascending : (l : List Consumer) → Says (ascending l) (Ascending l)
unfolding ascending Ascending
says_ascending [] = record { gives = λ e. tt; given = λ h. refl }
says_ascending (c ∷ l) =
    says_and _ _ (says_all (λ (d : Consumer). says_ltb c.id d.id) l) (says_ascending l)

-- a test for shared consumers alone
says_shared : {P : Type 0} (k : Kind) (t : Bool) → Says t P → Says (by_kind k true t) (k ≡ shared → P)
unfolding by_kind
says_shared plain t s =
    record { gives = λ e q. absurd (plain_not_shared q); given = λ f. refl }
  where
    is_plain : Kind → Type 0
    is_plain plain = Unit {0}
    is_plain shared = ⊥

    plain_not_shared : plain ≡ shared → ⊥
    plain_not_shared q = subst is_plain q tt
says_shared shared t s = record { gives = λ e q. s.gives e; given = λ f. s.given (f refl) }

pub says_consumer : (s : State) (c : Consumer) → Says (valid_consumer s c) (ValidConsumer s c)
unfolding valid_consumer
says_consumer s c =
    says_as
    (λ k.
    record {
      id_word = k.0.0.0.0.0.0.0.0;
      topic_byte = k.0.0.0.0.0.0.0.1;
      subscription_byte = k.0.0.0.0.0.0.1;
      permits_from = k.0.0.0.0.0.1;
      permits_to = k.0.0.0.0.1;
      cursor_in_ledger = k.0.0.0.1;
      nacked_count = k.0.0.1;
      nacked_in_ledger = k.0.1;
      shared_in_ring = k.1;
    })
    (λ v.
    ((((((((v.id_word, v.topic_byte), v.subscription_byte), v.permits_from), v.permits_to), v.cursor_in_ledger), v.nacked_count), v.nacked_in_ledger), v.shared_in_ring))
    (says_and _ _
    (says_and _ _
    (says_and _ _
    (says_and _ _
    (says_and _ _
    (says_and _ _
    (says_and _ _ (says_and _ _ (says_word c.id) (says_byte c.pair.topic)) (says_byte c.pair.subscription))
    (says_leb least_permits c.permits))
    (says_leb c.permits most_permits))
    (says_leb c.cursor (length (ledger_of s c.pair.topic))))
    (says_leb (length c.nacked) 64))
    (says_all (λ (k : ℕ). says_ltb k (length (ledger_of s c.pair.topic))) c.nacked))
    (says_shared c.kind _ (says_member c.id (dispatcher s c.pair).attached)))

-- one of two tests, by a number above 1 or not
says_batch : (n : ℕ) (t u : Bool) → Says (cond (ltb 1 n) t u) ((n ≤ 1 → u ≡ true) × (1 < n → t ≡ true))
says_batch n t u = go (ltb 1 n) refl
  where
    go : (b : Bool) → ltb 1 n ≡ b → Says (cond b t u) ((n ≤ 1 → u ≡ true) × (1 < n → t ≡ true))
    go true e =
        record {
          gives = λ h. (λ l. let g : 1 < n = ltb-true 1 n e in absurd (omega arith), λ l. h);
          given = λ k. k.1 (ltb-true 1 n e);
        }
    go false e =
        record {
          gives = λ h. (λ l. h, λ l. let g : n ≤ 1 = ltb-false 1 n e in absurd (omega arith));
          given = λ k. k.0 (ltb-false 1 n e);
        }

pub says_mark : (m : StoredMessage) (k : Mark) → Says (valid_mark m k) (ValidMark m k)
unfolding valid_mark
says_mark m k =
    says_as (λ h. record { count_range = h.0; no_bits_below_2 = h.1.0; bits_in_batch = h.1.1 })
    (λ v. (v.count_range, (v.no_bits_below_2, v.bits_in_batch)))
    (says_and _ _ (says_ltb k.redelivery_count (2 ^ 32))
    (says_batch m.batch_size (bits_below m.batch_size (words k.acked.unacked)) (bits_empty (words k.acked.unacked))))

pub says_marks : (ledger : List StoredMessage) (marks : List Mark) → Says (valid_marks ledger marks) (ValidMarks ledger marks)
unfolding valid_marks message_at
says_marks [] [] =
    record { gives = λ e. record { one_each = refl; each_mark = λ k h. absurd (not-suc-le-zero h) }; given = λ v. refl }
says_marks [] (k ∷ ks) =
    record { gives = λ e. absurd (false≢true e); given = λ v. let z : suc (length ks) ≡ 0 = v.one_each in absurd (omega arith) }
says_marks (m ∷ ms) [] =
    record { gives = λ e. absurd (false≢true e); given = λ v. let z : 0 ≡ suc (length ms) = v.one_each in absurd (omega arith) }
says_marks (m ∷ ms) (k ∷ ks) =
    says_as
    (λ h. record { one_each = ap suc h.1.one_each; each_mark = each h })
    (λ v. (
      v.each_mark 0 (suc-le-suc zero-le),
      record {
        one_each = let z : suc (length ks) ≡ suc (length ms) = v.one_each in omega arith;
        each_mark = λ j l. v.each_mark (suc j) (suc-le-suc l);
      },
    ))
    (says_and _ _ (says_mark m k) (says_marks ms ks))
  where
    each : ValidMark m k × ValidMarks ms ks → (j : ℕ) → j < suc (length ms) → ValidMark (get_or (m ∷ ms) j no_message) (get_or (k ∷ ks) j new_mark)
    each h zero l = h.0
    each h (suc j) l = h.1.each_mark j (le_of_suc-le-suc l)

-- next in a ring: below its length, or 0 where it is empty
says_next : (ring : List ℕ) (n : ℕ) → Says (ltb n (length ring) || (is_empty ring && eqb n 0)) ((0 < length ring → n < length ring) × (length ring ≡ 0 → n ≡ 0))
unfolding is_empty
says_next [] n =
    says_as (⊎_elim (λ l. absurd (not-suc-le-zero l)) (λ k. (λ l. absurd (not-suc-le-zero l), λ e. k.1)))
    (λ k. inr (refl, k.1 refl))
    (says_or _ _ (says_ltb n 0) (says_and true (eqb n 0) (says_true true) (says_eqb n 0)))
says_next (i ∷ ring) n =
    says_as
    (⊎_elim (λ l. (λ z. l, λ (e : suc (length ring) ≡ 0). absurd (omega arith))) (λ k. absurd (false≢true k.0)))
    (λ k. inl (k.0 (suc-le-suc zero-le)))
    (says_or _ _ (says_ltb n (suc (length ring))) (says_and false (eqb n 0) (says_true false) (says_eqb n 0)))

pub says_ring : (d : Dispatcher) → Says (valid_ring d) (ValidRing d)
unfolding valid_ring
says_ring d =
    says_as
    (λ k.
    record {
      ring_count = k.0.0.0;
      ring_distinct = k.0.0.1;
      ring_words = k.0.1;
      next_in_range = k.1.0;
      next_if_empty = k.1.1;
    })
    (λ v. (((v.ring_count, v.ring_distinct), v.ring_words), (v.next_in_range, v.next_if_empty)))
    (says_and _ _
    (says_and _ _ (says_and _ _ (says_leb (length d.attached) 32) (says_distinct eqb d.attached))
    (says_all says_word d.attached))
    (says_next d.attached d.next))

pub says_places : (d : Dispatcher) → Says (valid_places d) (ValidPlaces d)
unfolding valid_places
says_places d =
    says_as
    (λ k. record { holders_in_ring = k.0.0; places_distinct = k.0.1; places_below_cursor = k.1 })
    (λ v. ((v.holders_in_ring, v.places_distinct), v.places_below_cursor))
    (says_and _ _
    (says_and _ _ (says_all (λ (h : Held). says_member h.holder d.attached) d.in_flight)
    (says_distinct eqb (map (λ (h : Held). h.position) d.in_flight ++ d.redelivery)))
    (says_all (λ (k : ℕ). says_ltb k d.cursor) (map (λ (h : Held). h.position) d.in_flight ++ d.redelivery)))

pub says_ascending_ids : (l : List Id) → Says (ascending_ids l) (AscendingIds l)
unfolding ascending_ids AscendingIds
says_ascending_ids [] = record { gives = λ e. tt; given = λ h. refl }
says_ascending_ids (i ∷ l) =
    says_and _ _ (says_all (λ (j : Id). says_true (after_id j i)) l) (says_ascending_ids l)

pub says_outside : (ledger : List StoredMessage) (ids : List Id) → Says (valid_outside ledger ids) (ValidOutside ledger ids)
unfolding valid_outside
says_outside ledger ids =
    says_as
    (λ k.
    record { outside_count = k.0.0.0; outside_ascending = k.0.0.1; outside_words = k.0.1; not_in_ledger = k.1 })
    (λ v. (((v.outside_count, v.outside_ascending), v.outside_words), v.not_in_ledger))
    (says_and _ _
    (says_and _ _ (says_and _ _ (says_leb (length ids) 64) (says_ascending_ids ids)) (says_all says_id ids))
    (says_all (λ (i : Id). says_not (holds_id i ledger)) ids))

pub says_dispatcher : (s : State) (d : Dispatcher) → Says (valid_dispatcher s d) (ValidDispatcher s d)
unfolding valid_dispatcher total_in_range
says_dispatcher s d =
    says_as
    (λ k.
    record {
      pair_topic_byte = k.0.0.0.0.0.0.0.0;
      pair_subscription_byte = k.0.0.0.0.0.0.0.1;
      ring = k.0.0.0.0.0.0.1;
      total_from = k.0.0.0.0.0.1.0;
      total_to = k.0.0.0.0.0.1.1;
      cursor_in_ledger = k.0.0.0.0.1;
      mark_delete_in_ledger = k.0.0.0.1;
      places = k.0.0.1;
      entry_marks = k.0.1;
      outside_ids = k.1;
    })
    (λ v.
    ((((((((v.pair_topic_byte, v.pair_subscription_byte), v.ring), (v.total_from, v.total_to)), v.cursor_in_ledger), v.mark_delete_in_ledger), v.places), v.entry_marks), v.outside_ids))
    (says_and _ _
    (says_and _ _
    (says_and _ _
    (says_and _ _
    (says_and _ _
    (says_and _ _
    (says_and _ _ (says_and _ _ (says_byte d.pair.topic) (says_byte d.pair.subscription)) (says_ring d))
    (says_and _ _ (says_leb least_total d.total_available_permits) (says_leb d.total_available_permits most_total)))
    (says_leb d.cursor (length (ledger_of s d.pair.topic))))
    (says_leb d.mark_delete (length (ledger_of s d.pair.topic))))
    (says_places d))
    (says_marks (ledger_of s d.pair.topic) d.marks))
    (says_outside (ledger_of s d.pair.topic) d.outside))

-- the reading of `sound`
pub says_sound : (s : State) → Says (sound s) (Sound s)
unfolding sound
says_sound s =
    says_as
    (λ k.
    record {
      topic_count = k.0.0.0.0.0.0.0.0;
      topics_distinct = k.0.0.0.0.0.0.0.1;
      each_topic = k.0.0.0.0.0.0.1;
      consumer_count = k.0.0.0.0.0.1;
      consumers_ascending = k.0.0.0.0.1;
      each_consumer = k.0.0.0.1;
      dispatcher_count = k.0.0.1;
      pairs_distinct = k.0.1;
      each_dispatcher = k.1;
    })
    (λ v.
    ((((((((v.topic_count, v.topics_distinct), v.each_topic), v.consumer_count), v.consumers_ascending), v.each_consumer), v.dispatcher_count), v.pairs_distinct), v.each_dispatcher))
    (says_and _ _
    (says_and _ _
    (says_and _ _
    (says_and _ _
    (says_and _ _
    (says_and _ _
    (says_and _ _
    (says_and _ _ (says_leb (length s.topics) 8) (says_distinct eqb (map (λ (t : Topic). t.number) s.topics)))
    (says_all (says_topic s.entries) s.topics))
    (says_leb (length s.consumers) 32))
    (says_ascending s.consumers))
    (says_all (says_consumer s) s.consumers))
    (says_leb (length s.dispatchers) 8))
    (says_distinct same_pair (map (λ (d : Dispatcher). d.pair) s.dispatchers)))
    (says_all (says_dispatcher s) s.dispatchers))

-- the reading of `valid`
pub says_valid : (s : State) → Says (valid s) (Valid s)
unfolding valid
says_valid s =
    says_as
    (λ k. record { E_from = k.0.0; E_to = k.0.1; tables = k.1 })
    (λ v. ((v.E_from, v.E_to), v.tables))
    (says_and _ _ (says_and _ _ (says_leb 1 s.entries) (says_leb s.entries 4096)) (says_sound s))
