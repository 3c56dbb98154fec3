-- What a push answers, and what it leaves in store and list: by whether the list has room for the records.
use mathlib.Core.Path.{◌≡◌, refl, sym, ap, ◌∙◌}
use mathlib.Core.Bool.{true, cond}
use mathlib.Core.List.{List}
use Prim.Native.Nat.{ℕ, ◌+◌, ◌*◌, ◌%◌, ◌^◌, ◌≤◌, ◌<◌}
use native.Mathlib.Omega.{arith}
use lib.Dec.{leb}
use lib.ListN.{length}
use borrow.Author.Tests.{le-leb, lt-leb}
use Rattle.rules.specs.Outcome.Outcome.{short, done}
use Rattle.rules.specs.Outcome.Value.{dispatches}
use Rattle.rules.specs.Push.{Pushed, push}
use Rattle.rules.specs.Book.{records_of}
use Rattle.rules.specs.Calls.{rule, value_number, answer_word}
use Rattle.rules.specs.Calls.Call.{Push}
use Rattle.layout.specs.Layout.{decode, put, spells}
use Rattle.layout.specs.Calls.{outcome, words_after, answer, after, with_records, made_words, list_after}
use Rattle.operation_laws.proofs.Frame.{valid_now}
use Rattle.push_laws.specs.Whole.{local_push}
use Rattle.push_laws.proofs.Whole.{push_same}
use Rattle.record.specs.Flat.{filled}
use Rattle.record.proofs.Filled.{filled_records}

module _ (ws : List ℕ) (spelt : spells ws ≡ true) (room : ℕ) where
  abbrev all : Pushed
  all = local_push (decode ws)

  -- the outcome, by plain numbers
  outcome_is : outcome ws (Push room) ≡ cond (leb (length all.dispatched) room) (done (dispatches all.dispatched) all.state) (short (length all.dispatched))
  unfolding outcome rule push
  outcome_is =
      rw spelt
      (ap (λ (r : Pushed). cond (leb (length r.dispatched) room) (done (dispatches r.dispatched) r.state) (short (length r.dispatched)))
      (push_same (decode ws) (valid_now ws spelt)))

  module _ (n r : ℕ) (counted : n ≡ length all.dispatched) (answered : r ≡ n % 2 ^ 56 * 256) where
    -- more is due than the list holds
    pub answers_short : (list : List ℕ) → room < n
        → (r + 15 ≡ answer ws (Push room)) × (ws ≡ after ws (Push room)) × (list ≡ list_after list (outcome ws (Push room)))
    unfolding answer after answer_word words_after made_words with_records list_after
    answers_short list h =
        let o : outcome ws (Push room) ≡ short (length all.dispatched) =
        outcome_is ∙ rw (lt-leb (length all.dispatched) room (rw (← counted) h)) in
        let q : r ≡ length all.dispatched % 2 ^ 56 * 256 = answered ∙ ap (λ (k : ℕ). k % 2 ^ 56 * 256) counted in
        rw o (ap (λ (k : ℕ). k + 15) q, refl, refl)

    -- the list has room
    pub answers_done : {vs ns : List ℕ} (list : List ℕ) → n ≤ room → n * 13 ≤ length list → vs ≡ put ws all.state → ns ≡ filled list 0 all.dispatched
        → (r ≡ answer ws (Push room)) × (vs ≡ after ws (Push room)) × (ns ≡ list_after list (outcome ws (Push room)))
    unfolding answer after answer_word words_after made_words list_after value_number records_of
    answers_done list h l v w =
        let o : outcome ws (Push room) ≡ done (dispatches all.dispatched) all.state =
        outcome_is ∙ rw (le-leb (length all.dispatched) room (rw (← counted) h)) in
        let q : r ≡ length all.dispatched % 2 ^ 56 * 256 = answered ∙ ap (λ (k : ℕ). k % 2 ^ 56 * 256) counted in
        rw o (q, v, w ∙ sym (filled_records list all.dispatched (omega (arith, counted, l))))
