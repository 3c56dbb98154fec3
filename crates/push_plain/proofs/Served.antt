-- All consumers served one after the other: what holds before consumer i is served, what its service needs, and what holds
-- after it.
use mathlib.Core.Path.{◌≡◌, refl, sym, ap, ap₂, ◌∙◌, subst}
use mathlib.Core.List.{List, [], ◌++◌, map}
use Prim.Native.Nat.{ℕ, ◌+◌, ◌*◌, ◌≤◌, ◌<◌}
use native.Mathlib.Numerals.{add-one}
use native.Mathlib.Omega.{arith}
use Rattle.std.proofs.lemmas.List.{take_rest}
use lib.ListN.{length, get_or, set, take, drop, length-drop, length-map, get_or-map, drop_of_length-le}
use Rattle.rules.specs.State.{StoredMessage, Consumer, State, ledger_of, topic_of, with_consumers}
use Rattle.rules.specs.Commands.{with_permits}
use Rattle.rules.specs.Outcome.{Dispatch}
use Rattle.layout.specs.Layout.{decode, put}
use Rattle.layout.specs.Whole.{Shaped, ShapedConsumer}
use Rattle.layout.specs.Canon.{CanonStore}
use Rattle.layout.specs.Fields.{zero_consumer, consumer_nth, set_consumer}
use Rattle.layout.specs.Placed.{ConsumerIn}
use Rattle.layout.proofs.Store.{canon_entries, put_decode, length_put}
use Rattle.layout.proofs.Gets.{nacked_short}
use Rattle.layout.proofs.Placed.{consumer_in, shaped_set_consumer, shaped_permits}
use Rattle.operation_laws.proofs.Frame.{every_nth, then_write, canon_after, decode_after}
use Rattle.push_laws.specs.Applied.{with_each}
use Rattle.push_laws.specs.Plain.{plain_due, plain_records, ledger_for, plain_served, all_plain_records}
use Rattle.push_laws.proofs.Each.{length_each, nth_each}
use Rattle.record.specs.Flat.{filled}
use Rattle.record.proofs.Filled.{filled_append, filled_length, filled_rest, handed_back, rest as behind}
use Rattle.push_plain.specs.Reading.{ReadableConsumer, ReadableIn, Readable, all_served, served_until, entries_taken}
use Rattle.push_plain.proofs.Entries.{served_is, length_records}
use Rattle.push_plain.proofs.Over.{over_set, over_nth, over_length, over_all}
use Rattle.push_plain.proofs.Same.{readable_by}
use Rattle.push_plain.proofs.Parts.{due_of, due_turn, records_turn}

-- before consumer i: those before it are served, and the list with what is left is the list with all
pub record Going (ws₀ ps list₀ ws list : List ℕ) (at i : ℕ) : Type 0 where
  pub shaped : Shaped (served_until (decode ws₀) ps i)
  pub words : ws ≡ put ws₀ (served_until (decode ws₀) ps i)
  pub records : filled list at (all_plain_records (decode ws₀) (drop i (with_each (decode ws₀).consumers ps)))
      ≡ filled list₀ 0 (all_plain_records (decode ws₀) (with_each (decode ws₀).consumers ps))
  pub count : at + length (all_plain_records (decode ws₀) (drop i (with_each (decode ws₀).consumers ps)))
      ≡ length (all_plain_records (decode ws₀) (with_each (decode ws₀).consumers ps))
  pub long : length list ≡ length list₀

-- ---- a state with some consumers served

module _ (s : State) (ps : List ℕ) where
  length_served : length (all_served s ps) ≡ length s.consumers
  unfolding all_served
  length_served = length-map (with_each s.consumers ps) (plain_served s) ∙ length_each s.consumers ps

  -- none
  until_none : served_until s ps 0 ≡ s
  unfolding served_until with_consumers
  until_none = refl

  -- it keeps ledgers, and so what each consumer is due
  until_ledger : (i : ℕ) (c : Consumer) → ledger_for (served_until s ps i) c ≡ ledger_for s c
  unfolding served_until with_consumers ledger_of topic_of
  until_ledger i c = refl

  until_served : (i : ℕ) (c : Consumer) → plain_served (served_until s ps i) c ≡ plain_served s c
  unfolding plain_served served_until with_consumers ledger_of topic_of
  until_served i c = refl

  until_entries : (i : ℕ) → (served_until s ps i).entries ≡ s.entries
  unfolding served_until with_consumers
  until_entries i = refl

  -- it has as many consumers
  until_length : (i : ℕ) → length (served_until s ps i).consumers ≡ length s.consumers
  unfolding served_until with_consumers
  until_length i = over_length (all_served s ps) s.consumers i length_served

  module _ (i : ℕ) (h : i < length s.consumers) where
    -- consumer i is as it was
    until_nth : consumer_nth (served_until s ps i) i ≡ consumer_nth s i
    unfolding served_until with_consumers
    until_nth = over_nth (all_served s ps) s.consumers i zero_consumer length_served h

    -- consumer i after its part
    served_nth : plain_served s (with_permits (consumer_nth s i) (get_or ps i 0)) ≡ get_or (all_served s ps) i (plain_served s zero_consumer)
    unfolding all_served
    served_nth =
        ap (plain_served s) (sym (nth_each s.consumers ps i zero_consumer h))
        ∙ sym (get_or-map (plain_served s) (with_each s.consumers ps) i zero_consumer)

    -- one more
    until_set : set_consumer (served_until s ps i) i (plain_served s (with_permits (consumer_nth s i) (get_or ps i 0))) ≡ served_until s ps (i + 1)
    unfolding served_until with_consumers set_consumer
    until_set =
        ap (with_consumers s)
        (ap (set (take i (all_served s ps) ++ drop i s.consumers) i) served_nth
        ∙ over_set (all_served s ps) s.consumers i (plain_served s zero_consumer) length_served h)
        ∙ ap (λ (k : ℕ). with_consumers s (take k (all_served s ps) ++ drop k s.consumers)) (sym (add-one i))

  -- all
  until_all : (i : ℕ) → length s.consumers ≤ i → served_until s ps i ≡ with_consumers s (map (plain_served s) (with_each s.consumers ps))
  unfolding served_until all_served
  until_all i h = ap (with_consumers s) (over_all (all_served s ps) s.consumers i length_served h)

-- the nacked positions of a consumer after its part are no more
served_shaped : (s : State) (c : Consumer) → ShapedConsumer c → ShapedConsumer (plain_served s c)
unfolding entries_taken
served_shaped s c h =
    subst (λ (x : Consumer). length x.nacked ≤ 64) (sym (served_is s c))
    (rw (length-drop (plain_due (ledger_for s c) c) c.nacked) (omega arith))

-- in numbers: room for one consumer's records, and what is counted after them
room_left : (at d y : ℕ) {x n k : ℕ} → at + x ≡ n → x ≡ d + y → n * 13 ≤ k → (at + d) * 13 ≤ k
room_left at d y a b c = omega arith

count_on : (at d y : ℕ) {x n r : ℕ} → r ≡ at + d → x ≡ d + y → at + x ≡ n → r + y ≡ n
count_on at d y a b c = omega arith

-- ---- before the first

pub going_first : {e : ℕ} {ws : List ℕ} → CanonStore e ws → (ps list : List ℕ) → Going ws ps list ws list 0 0
going_first {ws = ws} h ps list =
    record {
      shaped = rw (until_none (decode ws) ps) h.shaped;
      words = rw (until_none (decode ws) ps) (sym (put_decode h));
      records = refl;
      count = omega arith;
      long = refl;
    }

-- ---- before consumer i

module _ {e : ℕ} {ws₀ ps list₀ ws list : List ℕ} {at i : ℕ} (h : CanonStore e ws₀) (g : Going ws₀ ps list₀ ws list at i) where
  now_is : decode ws ≡ served_until (decode ws₀) ps i
  now_is = decode_after ws₀ (served_until (decode ws₀) ps i) g.shaped g.words

  -- as long as it was
  pub going_long : length ws ≡ length ws₀
  going_long =
      ap (λ (l : List ℕ). length l) g.words
      ∙ length_put ws₀ (served_until (decode ws₀) ps i) (rw (until_entries (decode ws₀) ps i, canon_entries h) h.long_needed)

  module _ (l : i < length (decode ws₀).consumers) where
    -- consumer i is there, and is as it was
    there : ConsumerIn e ws i
    there =
        consumer_in (canon_after ws₀ (served_until (decode ws₀) ps i) g.shaped (until_entries (decode ws₀) ps i ∙ canon_entries h) g.words) i
        (rw (now_is, until_length (decode ws₀) ps i) l)

    nth_now : consumer_nth (decode ws) i ≡ consumer_nth (decode ws₀) i
    nth_now = ap (λ (x : State). consumer_nth x i) now_is ∙ until_nth (decode ws₀) ps i l

    ledger_now : (c : Consumer) → ledger_for (decode ws) c ≡ ledger_for (decode ws₀) c
    ledger_now c = ap (λ (x : State). ledger_for x c) now_is ∙ until_ledger (decode ws₀) ps i c

    -- what it reads is in its ledger
    pub going_in : Readable (decode ws₀) → ReadableIn e ws i
    going_in r =
        record {
          here = there;
          readable = subst (λ (c : Consumer). ReadableConsumer (decode ws) c) (sym nth_now)
              (readable_by (decode ws₀) (decode ws) (consumer_nth (decode ws₀) i) (ledger_now (consumer_nth (decode ws₀) i))
              (every_nth {P = ReadableConsumer (decode ws₀)} (decode ws₀).consumers i zero_consumer r.each l));
        }

    -- what it is due
    due_now : plain_due (ledger_for (decode ws) (consumer_nth (decode ws) i)) (with_permits (consumer_nth (decode ws) i) (get_or ps i 0))
        ≡ due_of (decode ws₀) ps i
    due_now =
        ap (λ (c : Consumer). plain_due (ledger_for (decode ws) c) (with_permits c (get_or ps i 0))) nth_now
        ∙ ap (λ (k : List StoredMessage). plain_due k (with_permits (consumer_nth (decode ws₀) i) (get_or ps i 0))) (ledger_now (consumer_nth (decode ws₀) i))

    -- the list has room for the records up to its own
    pub going_whole : length (all_plain_records (decode ws₀) (with_each (decode ws₀).consumers ps)) * 13 ≤ length list₀
        → (at + plain_due (ledger_for (decode ws) (consumer_nth (decode ws) i)) (with_permits (consumer_nth (decode ws) i) (get_or ps i 0))) * 13 ≤ length list
    going_whole r =
        rw (due_now, g.long)
        (room_left at (due_of (decode ws₀) ps i)
        (length (all_plain_records (decode ws₀) (drop (i + 1) (with_each (decode ws₀).consumers ps)))) g.count (due_turn (decode ws₀) ps i l) r)

    -- so the rest behind those before it has room for its own
    pub going_room : length (all_plain_records (decode ws₀) (with_each (decode ws₀).consumers ps)) * 13 ≤ length list₀
        → plain_due (ledger_for (decode ws) (consumer_nth (decode ws) i)) (with_permits (consumer_nth (decode ws) i) (get_or ps i 0)) * 13 ≤ length
        (behind (at * 13) list)
    going_room r = let a = going_whole r in rw (take_rest list (at * 13), length-drop (at * 13) list) (omega arith)

    -- ---- after consumer i

    -- the state with it served
    until_on : set_consumer (served_until (decode ws₀) ps i) i
        (plain_served (served_until (decode ws₀) ps i) (with_permits (consumer_nth (served_until (decode ws₀) ps i) i) (get_or ps i 0)))
        ≡ served_until (decode ws₀) ps (i + 1)
    until_on =
        ap (λ (c : Consumer). set_consumer (served_until (decode ws₀) ps i) i
        (plain_served (served_until (decode ws₀) ps i) (with_permits c (get_or ps i 0)))) (until_nth (decode ws₀) ps i l)
        ∙ ap (λ (c : Consumer). set_consumer (served_until (decode ws₀) ps i) i c)
        (until_served (decode ws₀) ps i (with_permits (consumer_nth (decode ws₀) i) (get_or ps i 0)))
        ∙ until_set (decode ws₀) ps i l

    shaped_on : Shaped (served_until (decode ws₀) ps (i + 1))
    shaped_on =
        subst Shaped (until_set (decode ws₀) ps i l)
        (shaped_set_consumer (served_until (decode ws₀) ps i) g.shaped i
        (plain_served (decode ws₀) (with_permits (consumer_nth (decode ws₀) i) (get_or ps i 0)))
        (served_shaped (decode ws₀) (with_permits (consumer_nth (decode ws₀) i) (get_or ps i 0))
        (shaped_permits (consumer_nth (decode ws₀) i) (get_or ps i 0) (nacked_short h i l))))

    words_on : {vs : List ℕ} → vs ≡ put ws (set_consumer (decode ws) i (plain_served (decode ws) (with_permits (consumer_nth (decode ws) i) (get_or ps i 0))))
        → vs ≡ put ws₀ (served_until (decode ws₀) ps (i + 1))
    unfolding set_consumer with_consumers
    words_on w =
        then_write ws₀ (served_until (decode ws₀) ps i)
        (λ (x : State). set_consumer x i (plain_served x (with_permits (consumer_nth x i) (get_or ps i 0)))) g.shaped refl g.words w
        ∙ ap (put ws₀) until_on

    -- its records
    abbrev here : List Dispatch
    here = plain_records (ledger_for (decode ws₀) (consumer_nth (decode ws₀) i)) (with_permits (consumer_nth (decode ws₀) i) (get_or ps i 0))
        (due_of (decode ws₀) ps i)

    -- those of the consumers after it
    abbrev rest : List Dispatch
    rest = all_plain_records (decode ws₀) (drop (i + 1) (with_each (decode ws₀).consumers ps))

    records_here : plain_records (ledger_for (decode ws) (consumer_nth (decode ws) i)) (with_permits (consumer_nth (decode ws) i) (get_or ps i 0))
        (plain_due (ledger_for (decode ws) (consumer_nth (decode ws) i)) (with_permits (consumer_nth (decode ws) i) (get_or ps i 0))) ≡ here
    records_here =
        ap (λ (c : Consumer). plain_records (ledger_for (decode ws) c) (with_permits c (get_or ps i 0))
        (plain_due (ledger_for (decode ws) c) (with_permits c (get_or ps i 0)))) nth_now
        ∙ ap (λ (k : List StoredMessage). plain_records k (with_permits (consumer_nth (decode ws₀) i) (get_or ps i 0))
        (plain_due k (with_permits (consumer_nth (decode ws₀) i) (get_or ps i 0)))) (ledger_now (consumer_nth (decode ws₀) i))

    records_on : {us : List ℕ} {r : ℕ} → r ≡ at + due_of (decode ws₀) ps i → us ≡ filled list at here
        → filled us r rest ≡ filled list₀ 0 (all_plain_records (decode ws₀) (with_each (decode ws₀).consumers ps))
    records_on a b =
        let n : at + due_of (decode ws₀) ps i ≡ at + length here =
        ap (λ (k : ℕ). at + k) (sym (length_records (ledger_for (decode ws₀) (consumer_nth (decode ws₀) i))
        (with_permits (consumer_nth (decode ws₀) i) (get_or ps i 0)) (due_of (decode ws₀) ps i))) in
        ap₂ (λ (k : List ℕ) (j : ℕ). filled k j rest) b (a ∙ n)
        ∙ sym (filled_append list at here rest)
        ∙ ap (filled list at) (sym (records_turn (decode ws₀) ps i l))
        ∙ g.records

    pub going_on : {vs us : List ℕ} {r : ℕ} → length (all_plain_records (decode ws₀) (with_each (decode ws₀).consumers ps)) * 13 ≤ length list₀
        → r ≡ plain_due (ledger_for (decode ws) (consumer_nth (decode ws) i)) (with_permits (consumer_nth (decode ws) i) (get_or ps i 0))
        → vs ≡ put ws (set_consumer (decode ws) i (plain_served (decode ws) (with_permits (consumer_nth (decode ws) i) (get_or ps i 0))))
        → us ≡ filled (behind (at * 13) list) 0
        (plain_records (ledger_for (decode ws) (consumer_nth (decode ws) i)) (with_permits (consumer_nth (decode ws) i) (get_or ps i 0))
        (plain_due (ledger_for (decode ws) (consumer_nth (decode ws) i)) (with_permits (consumer_nth (decode ws) i) (get_or ps i 0))))
        → Going ws₀ ps list₀ vs (handed_back (at * 13) list us) (at + r) (i + 1)
    going_on {us = us} {r = r} room a b d =
        let a' : at + r ≡ at + due_of (decode ws₀) ps i = ap (λ (k : ℕ). at + k) (a ∙ due_now) in
        let d' : handed_back (at * 13) list us ≡ filled list at here =
        filled_rest at list here (let a = going_whole room in omega arith) (d ∙ ap (filled (behind (at * 13) list) 0) records_here) in
        record {
          shaped = shaped_on;
          words = words_on b;
          records = records_on a' d';
          count = count_on at (due_of (decode ws₀) ps i) (length rest) a' (due_turn (decode ws₀) ps i l) g.count;
          long = ap (λ (k : List ℕ). length k) d' ∙ filled_length list at here ∙ g.long;
        }

module _ {ws₀ ps list₀ ws list : List ℕ} {at i : ℕ} (g : Going ws₀ ps list₀ ws list at i) (l : length (decode ws₀).consumers ≤ i) where
  -- all are served
  pub going_words : ws ≡ put ws₀ (with_consumers (decode ws₀) (map (plain_served (decode ws₀)) (with_each (decode ws₀).consumers ps)))
  going_words = g.words ∙ ap (put ws₀) (until_all (decode ws₀) ps i l)

  -- none is left
  none_left : drop i (with_each (decode ws₀).consumers ps) ≡ []
  none_left = drop_of_length-le (with_each (decode ws₀).consumers ps) {i = i} (rw (length_each (decode ws₀).consumers ps) l)

  -- all are counted
  pub going_count : at ≡ length (all_plain_records (decode ws₀) (with_each (decode ws₀).consumers ps))
  unfolding all_plain_records
  going_count =
      let none : length (all_plain_records (decode ws₀) (drop i (with_each (decode ws₀).consumers ps))) ≡ 0 =
      ap (λ (k : List Consumer). length (all_plain_records (decode ws₀) k)) none_left in
      let all = g.count in
      omega arith

  -- and written
  pub going_records : list ≡ filled list₀ 0 (all_plain_records (decode ws₀) (with_each (decode ws₀).consumers ps))
  unfolding filled all_plain_records
  going_records = ap (λ (k : List Consumer). filled list at (all_plain_records (decode ws₀) k)) (sym none_left) ∙ g.records
