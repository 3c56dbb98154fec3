-- The rule of redeliver for a plain consumer, by its slot: refusal 11, or the found positions join nacked.
use mathlib.Core.Path.{◌≡◌, sym, ap, ◌∙◌}
use mathlib.Core.List.{List, ◌++◌}
use mathlib.Core.Option.{some}
use Prim.Native.Nat.{ℕ, ◌≤◌, ◌<◌}
use lib.ListN.{length}
use borrow.Author.Tests.{lt-ltb, le-ltb}
use Rattle.rules.specs.State.{State, by_id, ledger_of}
use Rattle.rules.specs.State.Kind.{plain}
use Rattle.rules.specs.Outcome.Outcome.{refused, done}
use Rattle.rules.specs.Outcome.Value.{nothing}
use Rattle.rules.specs.Groups.{Group, groups}
use Rattle.rules.specs.Commands.{with_groups, redeliver, redeliver_plain, with_reading, found_positions}
use Rattle.rules.specs.Calls.{rule}
use Rattle.rules.specs.Calls.Call.{Redeliver}
use Rattle.rules.specs.Valid.{Valid}
use Rattle.layout.specs.Fields.{consumer_nth, set_consumer}
use Rattle.store.specs.Find.{slot}
use Rattle.operation_laws.proofs.Frame.{guard_stop, guard_pass, kind_plain, live_found, set_consumer_put}

module _ (s : State) (i id : ℕ) (list : List ℕ) (e : i ≡ slot by_id id s.consumers) (q : (consumer_nth s i).id ≡ id) (v : Valid s) (h : i < length s.consumers)
    (gs : List Group) (w : groups list ≡ some gs) (k : (consumer_nth s i).kind ≡ plain) where
  -- the rule with the consumer at hand
  at_hand : rule s (Redeliver id list) ≡ redeliver_plain s (consumer_nth s i) gs
  unfolding rule redeliver with_groups
  at_hand = live_found s i id e _ h ∙ rw w (kind_plain _ _ _ k)

  -- nacked would pass 64
  pub plain_over : 64 < length ((consumer_nth s i).nacked ++ found_positions (ledger_of s (consumer_nth s i).pair.topic) gs) → rule s (Redeliver id list) ≡ refused 11
  unfolding redeliver_plain
  plain_over o = at_hand ∙ guard_stop _ _ _ (lt-ltb 64 _ o)

  -- the found positions join
  pub plain_joins : length ((consumer_nth s i).nacked ++ found_positions (ledger_of s (consumer_nth s i).pair.topic) gs) ≤ 64
      → rule s (Redeliver id list) ≡ done nothing (set_consumer s i (with_reading (consumer_nth s i) (consumer_nth s i).cursor ((consumer_nth s i).nacked ++ found_positions (ledger_of s (consumer_nth s i).pair.topic) gs)))
  unfolding redeliver_plain with_reading
  plain_joins o = at_hand ∙ guard_pass _ _ _ (le-ltb 64 _ o) ∙ ap (done nothing) (sym (set_consumer_put s i id e _ v h q))
