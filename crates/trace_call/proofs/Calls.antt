-- What is made of a kind and its words on the words of a store: nothing of no call, else the call; and only a push changes the
-- list.
use Prim.Native.Nat.{ℕ}
use mathlib.Core.Path.{◌≡◌, refl, ap}
use mathlib.Core.Bool.{true, false}
use mathlib.Core.List.{List}
use mathlib.Core.Option.{Option, none, some}
use Rattle.rules.specs.Outcome.{Outcome}
use Rattle.rules.specs.Outcome.Outcome.{refused, short, done}
use Rattle.rules.specs.Push.{flat_records}
use Rattle.rules.specs.Calls.{Call, rule}
use Rattle.rules.proofs.Answers.{WithoutRecords, is_push, without_records}
use Rattle.layout.specs.Layout.{decode, spells}
use Rattle.layout.specs.Calls.{outcome, answer, after, with_records, made_words, list_after}
use Rattle.layout.proofs.Calls.{outcome_is}
use Rattle.std.proofs.Common as code
use Rattle.std.proofs.Common.{None, Some}
use Rattle.trace_call.specs.Made.{made, answer_of, answered, words_made, list_made}

-- ---- what is made

module _ (ws list : List ℕ) {o : Option Call} where
  -- no call: no answer, and every word stays
  pub not_made : none ≡ o → record { answer : None ≡ made ws o; words : ws ≡ words_made ws o; records : list ≡ list_made ws list o }
  unfolding made words_made list_made
  not_made e = rw (← e) (record { answer = refl; words = refl; records = refl })

  -- a call: its answer, and what it leaves
  pub is_made : {x : Call} {r : ℕ} {us ls : List ℕ} → some x ≡ o
      → record { answer : r ≡ answer ws x; words : us ≡ after ws x; records : ls ≡ list_after list (outcome ws x) }
      → record { answer : Some r ≡ made ws o; words : us ≡ words_made ws o; records : ls ≡ list_made ws list o }
  unfolding made words_made list_made
  is_made e h = rw (← e) (record { answer = rw h.answer refl; words = h.words; records = h.records })

-- and the number of either
pub numbered : (ws list : List ℕ) (o : Option Call) {r : code.Option ℕ} {us ls : List ℕ}
    → record { answer : r ≡ made ws o; words : us ≡ words_made ws o; records : ls ≡ list_made ws list o }
    → record { answer : r ≡ made ws o; number : answer_of r ≡ answered ws o; words : us ≡ words_made ws o; records : ls ≡ list_made ws list o }
unfolding answered
numbered ws list o h = record { answer = h.answer; number = ap answer_of h.answer; words = h.words; records = h.records }

-- ---- only a push changes the list

-- what makes no records leaves the list
none_listed : (list : List ℕ) (o : Outcome) → WithoutRecords o → list ≡ list_after list o
unfolding WithoutRecords made_words list_after with_records flat_records
none_listed list (refused n) h = refl
none_listed list (short n) h = refl
none_listed list (done v t) h = rw h

-- so does a call of another kind
pub list_kept : (ws list : List ℕ) (x : Call) {r : ℕ} {us : List ℕ} → spells ws ≡ true → is_push x ≡ false
    → record { answer : r ≡ answer ws x; words : us ≡ after ws x }
    → record { answer : r ≡ answer ws x; words : us ≡ after ws x; records : list ≡ list_after list (outcome ws x) }
list_kept ws list x h p e =
    record {
      answer = e.answer;
      words = e.words;
      records = rw (outcome_is ws x h) (none_listed list (rule (decode ws) x) (without_records (decode ws) x p));
    }
