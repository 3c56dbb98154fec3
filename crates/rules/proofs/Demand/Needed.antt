-- Both exclusions of demand 3 are needed: with the leak switch on, and where a live id is subscribed again, there are short
-- histories after which a dispatcher's total is not the grants less the costs of its ring.
use mathlib.Core.Path.{◌≡◌, refl, sym}
use mathlib.Core.Bool.{true, false}
use mathlib.Core.List.{List, [], ◌∷◌}
use mathlib.Core.List.Memᴰ
use Prim.Native.Nat.{ℕ}
use native.Mathlib.Omega.{arith}
use lib.IntN.{pos-ne-negsuc}
use lib.IntN.ℤ.{pos, negsuc}
use Rattle.rules.specs.State.{Pair}
use Rattle.rules.specs.State.Kind.{shared}
use Rattle.rules.specs.Calls.{Call}
use Rattle.rules.specs.Calls.Call.{Subscribe, Flow, Close}
use Rattle.rules.specs.Book.{empty_book, updated, with_who, with_attached_ids, with_pair, enter_subscribe, enter_flow, enter_close, enter_done, records_of, told, enter}
use Rattle.rules.specs.Demand.{at_opening, after_call, after_calls, is_live, is_done, subscribes_live, replaces, never_replaces, sum_over, grants_of, costs_of, Accounted}
use Rattle.rules.proofs.Computes.{computes}

-- a subscription
abbrev one_pair : Pair
one_pair = record { topic = 1; subscription = 2 }

-- a consumer is granted 4 permits and closes
abbrev pub granted_and_closed : List Call
granted_and_closed = Subscribe 7 shared one_pair ∷ Flow 7 4 ∷ Close 7 ∷ []

-- the same, with the id subscribed again before it closes
abbrev pub granted_and_replaced : List Call
granted_and_replaced = Subscribe 7 shared one_pair ∷ Flow 7 4 ∷ Subscribe 7 shared one_pair ∷ Close 7 ∷ []

-- what the two histories come to
pub record Needed : Type 0 where
  -- with the leak switch on, no live id is replaced
  pub replaces_none : never_replaces (at_opening 1 true false) granted_and_closed ≡ true
  -- and the total is -4 with nobody attached
  pub leaks : Accounted (after_calls (at_opening 1 true false) granted_and_closed) → ⊥
  -- with the leak switch off and a live id replaced, the total is 4 with nobody attached
  pub strays : Accounted (after_calls (at_opening 1 false false) granted_and_replaced) → ⊥

-- by computation
pub both_exclusions_needed : Needed
unfolding computes
    empty_book updated with_who with_attached_ids with_pair enter_subscribe enter_flow enter_close enter_done records_of told enter
    at_opening after_call after_calls is_live is_done subscribes_live replaces never_replaces sum_over grants_of costs_of
both_exclusions_needed = record {
  replaces_none = refl;
  leaks = λ h. let e : negsuc 3 ≡ pos 0 = (h.dispatchers _ (Memᴰ.head refl)).balance_reading in pos-ne-negsuc 0 3 (sym e);
  strays = λ h. let e : pos 4 ≡ pos 0 = (h.dispatchers _ (Memᴰ.head refl)).balance_reading in let f : ◌≡◌ {A = ℕ} 4 0 = cc in omega arith;
}
