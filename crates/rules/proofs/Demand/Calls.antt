-- Calls, one after the other: the invariant holds of a store just opened with the empty book, and every call keeps it that replaces no live
-- id.
use Prim.Native.Nat.{ℕ}
use mathlib.Core.Path.{◌≡◌, refl, sym}
use mathlib.Core.Bool.{Bool, true, false, not, and-eq-true_iff, true≢false}
use mathlib.Core.List.{List, [], ◌∷◌}
use native.Mathlib.Omega.{arith}
use borrow.Author.Tests.{not-true}
use Rattle.rules.specs.Table.{find, all, any, count, or_else}
use Rattle.rules.specs.State.{topic_of, consumer_of, dispatcher_of, ledger_of, dispatcher, new_dispatcher}
use Rattle.rules.specs.Ledger.{position_of, message_at}
use Rattle.rules.specs.Calls.{Call, rule, opened}
use Rattle.rules.specs.Calls.Call.{Append, Subscribe, Flow, Ack, Seek, Redeliver, Close, Push}
use Rattle.rules.specs.Book.{empty_book}
use Rattle.rules.specs.Demand.{Reached, at_opening, after_call, after_calls, is_live, subscribes_live, replaces, never_replaces, sum_over}
use Rattle.rules.proofs.Table.{Once}
use Rattle.rules.proofs.Demand.Invariant.{acked_by, Invariant}
use Rattle.rules.proofs.Demand.Outcomes.{Keeps, keeps_after}
use Rattle.rules.proofs.Demand.Append.{append_keeps}
use Rattle.rules.proofs.Demand.Subscribe.{subscribe_keeps}
use Rattle.rules.proofs.Demand.Flow.{flow_keeps}
use Rattle.rules.proofs.Demand.Ack.{ack_keeps}
use Rattle.rules.proofs.Demand.Seek.{seek_keeps}
use Rattle.rules.proofs.Demand.Redeliver.{redeliver_keeps}
use Rattle.rules.proofs.Demand.Close.{close_keeps}
use Rattle.rules.proofs.Demand.Push.{push_keeps}

-- the invariant of a state with its book
abbrev pub Good : Reached → Type 0
Good r = Invariant r.state r.book

-- a store just opened has nothing, and so has the empty book
pub at_start : (e : ℕ) (noop : Bool) → Good (at_opening e false noop)
unfolding at_opening opened empty_book Once ledger_of topic_of find or_else consumer_of dispatcher dispatcher_of new_dispatcher count sum_over all acked_by any message_at position_of
at_start e noop = record {
  leak_off = refl;
  pairs = refl;
  pairs_once = tt;
  lists = λ n. refl;
  ids_once = λ n k g. absurd (omega arith);
  batches = λ n k. omega arith;
  live = λ i. tt;
  attached_once = λ p i. refl;
  fits = λ p. record {
    ringed = record { pair_is = refl; ring_is = refl; ring_size = omega arith; balanced = omega arith };
    marks_agree = record { size = refl; agree = λ i. refl; in_list = omega arith; below = λ k g. absurd (omega arith) };
    placed = record {
      cursor_in_list = omega arith;
      handed_below = λ i f. absurd (true≢false (sym f));
      once = λ k g c. absurd (omega arith);
      never = λ k g. refl;
      holders = refl;
    };
  };
}

-- each call's outcome keeps it
outcome_keeps : (r : Reached) (x : Call) → Good r → replaces r x ≡ false → Keeps r.state r.book x (rule r.state x)
unfolding rule replaces subscribes_live is_live
outcome_keeps r (Append topic m) h e = append_keeps r.state r.book h topic m
outcome_keeps r (Subscribe i kind p) h e = subscribe_keeps r.state r.book h i kind p e
outcome_keeps r (Flow i grant) h e = flow_keeps r.state r.book h i grant
outcome_keeps r (Ack i list) h e = ack_keeps r.state r.book h i list
outcome_keeps r (Seek i target) h e = seek_keeps r.state r.book h i target
outcome_keeps r (Redeliver i list) h e = redeliver_keeps r.state r.book h i list
outcome_keeps r (Close i) h e = close_keeps r.state r.book h i
outcome_keeps r (Push room) h e = push_keeps r.state r.book h room

-- so each call does
pub call_keeps : (r : Reached) (x : Call) → Good r → replaces r x ≡ false → Good (after_call r x)
unfolding after_call
call_keeps r x h e = keeps_after r.state r.book x (rule r.state x) (outcome_keeps r x h e)

-- and every list of calls
pub calls_keep : (calls : List Call) (r : Reached) → Good r → never_replaces r calls ≡ true → Good (after_calls r calls)
unfolding after_calls never_replaces
calls_keep [] r h e = h
calls_keep (x ∷ calls) r h e =
    let t = (and-eq-true_iff (not (replaces r x)) (never_replaces (after_call r x) calls)).0 e in
    calls_keep calls (after_call r x) (call_keeps r x h (not-true (replaces r x) t.0)) t.1

-- after every list that demand 3 speaks of the invariant holds
pub history_keeps : (e : ℕ) (noop : Bool) (calls : List Call) → never_replaces (at_opening e false noop) calls ≡ true
    → Good (after_calls (at_opening e false noop) calls)
history_keeps e noop calls = calls_keep calls (at_opening e false noop) (at_start e noop)
