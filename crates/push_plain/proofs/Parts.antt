-- All consumers' parts, one after the other, by the permits given: how many entries, which records, which words.
use mathlib.Core.Path.{◌≡◌, refl, ap, ◌∙◌}
use mathlib.Core.List.{List, ◌++◌}
use Prim.Native.Nat.{ℕ, zero, suc, ◌+◌, ◌≤◌, ◌<◌}
use native.Mathlib.Omega.{arith}
use lib.ListN.{length, get_or, drop, drop_of_length-le}
use Rattle.rules.specs.State.{StoredMessage, Consumer, State}
use Rattle.rules.specs.Commands.{with_permits}
use Rattle.layout.specs.Layout.{decode}
use Rattle.layout.specs.Canon.{CanonStore}
use Rattle.layout.specs.Fields.{zero_consumer, consumer_nth}
use Rattle.layout.proofs.Gets.{nacked_short}
use Rattle.topic.proofs.LedgerWords.{ledger_fits}
use Rattle.push_laws.specs.Applied.{with_each}
use Rattle.push_laws.specs.Plain.{plain_due, plain_records, ledger_for, all_plain_records}
use Rattle.push_laws.proofs.Each.{length_each, nth_each}
use Rattle.push_plain.specs.Sum.{AddedUp}
use Rattle.push_plain.proofs.Entries.{all_turn, all_turn_length, charged_waiting}

-- the ledger does not change with the permits
same_ledger : (s : State) (c : Consumer) (p : ℕ) → ledger_for s (with_permits c p) ≡ ledger_for s c
unfolding with_permits
same_ledger s c p = refl

module _ (s : State) (ps : List ℕ) where
  -- the consumers with the permits given
  abbrev pub full : List Consumer
  full = with_each s.consumers ps

  -- how many entries consumer i is due
  abbrev pub due_of : ℕ → ℕ
  due_of i = plain_due (ledger_for s (consumer_nth s i)) (with_permits (consumer_nth s i) (get_or ps i 0))

  module _ (i : ℕ) (h : i < length s.consumers) where
    nth : get_or full i zero_consumer ≡ with_permits (consumer_nth s i) (get_or ps i 0)
    nth = nth_each s.consumers ps i zero_consumer h

    in_full : i < length full
    in_full = rw (length_each s.consumers ps) h

    due_nth : plain_due (ledger_for s (get_or full i zero_consumer)) (get_or full i zero_consumer) ≡ due_of i
    due_nth =
        ap (λ (c : Consumer). plain_due (ledger_for s c) c) nth
        ∙ ap (λ (g : List StoredMessage). plain_due g (with_permits (consumer_nth s i) (get_or ps i 0))) (same_ledger s (consumer_nth s i) (get_or ps i 0))

    -- those of consumer i and those left after it
    pub due_turn : length (all_plain_records s (drop i full)) ≡ due_of i + length (all_plain_records s (drop (i + 1) full))
    due_turn =
        all_turn_length s full i zero_consumer in_full
        ∙ ap (λ (n : ℕ). n + length (all_plain_records s (drop (i + 1) full))) due_nth

    -- the records of consumer i and those left after it
    pub records_turn : all_plain_records s (drop i full)
        ≡ plain_records (ledger_for s (consumer_nth s i)) (with_permits (consumer_nth s i) (get_or ps i 0)) (due_of i) ++ all_plain_records s
        (drop (i + 1) full)
    records_turn =
        all_turn s full i zero_consumer in_full
        ∙ ap (λ (c : Consumer). plain_records (ledger_for s c) c (plain_due (ledger_for s c) c) ++ all_plain_records s (drop (i + 1) full)) nth
        ∙ ap (λ (g : List StoredMessage). plain_records g (with_permits (consumer_nth s i) (get_or ps i 0))
        (plain_due g (with_permits (consumer_nth s i) (get_or ps i 0))) ++ all_plain_records s (drop (i + 1) full))
        (same_ledger s (consumer_nth s i) (get_or ps i 0))

  -- none is left
  due_rest : (i : ℕ) → length s.consumers ≤ i → length (all_plain_records s (drop i full)) ≡ 0
  unfolding all_plain_records
  due_rest i h = rw (drop_of_length-le full {i = i} (rw (length_each s.consumers ps) h))

  -- the numbers due, added up for the first n consumers, and what is left after these
  added_due : {P : ℕ → ℕ → Type 0} → ((i r : ℕ) → i < length s.consumers → P i r → r ≡ due_of i) → (n t : ℕ) → n ≤ length s.consumers → AddedUp P n t
      → t + length (all_plain_records s (drop n full)) ≡ length (all_plain_records s full)
  unfolding AddedUp
  added_due told zero t h e = omega arith
  added_due told (suc n) t h a =
      let more = added_due told n a.0 (omega arith) a.2 in
      let one = told n a.1 h a.3 in
      let turn = due_turn n h in
      let on : suc n ≡ n + 1 = omega arith in
      let sum = a.4 in
      rw on (omega arith)

  -- those of all consumers
  pub added_all_due : {P : ℕ → ℕ → Type 0} → ((i r : ℕ) → i < length s.consumers → P i r → r ≡ due_of i) → (n t : ℕ) → n ≡ length s.consumers
      → AddedUp P n t → t ≡ length (all_plain_records s full)
  added_all_due told n t e a =
      let f = added_due told n t (omega arith) a in let none = due_rest n (omega arith) in omega arith

-- a consumer is due at most 64 and E entries
pub due_few : {e : ℕ} {ws : List ℕ} (h : CanonStore e ws) (i p : ℕ) → i < length (decode ws).consumers
    → plain_due (ledger_for (decode ws) (consumer_nth (decode ws) i)) (with_permits (consumer_nth (decode ws) i) p) ≤ 4160
due_few {ws = ws} h i p l =
    let c = consumer_nth (decode ws) i in
    let a = charged_waiting (ledger_for (decode ws) c) c p in
    let b = nacked_short h i l in
    let d = ledger_fits h c.pair.topic in
    let m = h.E_to in
    omega arith
