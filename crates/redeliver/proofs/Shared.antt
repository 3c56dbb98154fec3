-- The rule of redeliver for a shared consumer, by its slot and its dispatcher's: each id that it holds is handed back.
use mathlib.Core.Path.{◌≡◌, sym, ap, ◌∙◌}
use mathlib.Core.List.{List}
use mathlib.Core.Option.{some}
use Prim.Native.Nat.{ℕ, ◌<◌}
use lib.ListN.{length}
use Rattle.rules.specs.State.{State, by_id, by_pair, ledger_of, put_dispatcher}
use Rattle.rules.specs.State.Kind.{shared}
use Rattle.rules.specs.Outcome.Outcome.{done}
use Rattle.rules.specs.Outcome.Value.{nothing}
use Rattle.rules.specs.Groups.{Group, groups}
use Rattle.rules.specs.Commands.{with_groups, redeliver, redeliver_groups}
use Rattle.rules.specs.Calls.{rule}
use Rattle.rules.specs.Calls.Call.{Redeliver}
use Rattle.rules.specs.Valid.{Valid}
use Rattle.rules.proofs.Kept.Redeliver.{redeliver_groups_valid}
use Rattle.layout.specs.Fields.{consumer_nth, dispatcher_nth, set_dispatcher}
use Rattle.store.specs.Find.{slot}
use Rattle.operation_laws.proofs.Frame.{kind_shared, live_found, dispatcher_found, dispatcher_found_pair, dispatcher_found_valid, set_dispatcher_put}

module _ (s : State) (i id : ℕ) (list : List ℕ) (e : i ≡ slot by_id id s.consumers) (v : Valid s) (h : i < length s.consumers)
    (gs : List Group) (w : groups list ≡ some gs) (k : (consumer_nth s i).kind ≡ shared)
    (d : ℕ) (f : d ≡ slot by_pair (consumer_nth s i).pair s.dispatchers) (g : d < length s.dispatchers) where
  -- the rule with the consumer and its dispatcher at hand
  at_hand : rule s (Redeliver id list)
      ≡ done nothing (put_dispatcher s (redeliver_groups (ledger_of s (consumer_nth s i).pair.topic) id (dispatcher_nth s d) gs))
  unfolding rule redeliver with_groups
  at_hand = live_found s i id e _ h ∙ rw (w, dispatcher_found s d (consumer_nth s i).pair f g) (kind_shared _ _ _ k)

  -- what it holds of the list is handed back
  pub shared_hands : rule s (Redeliver id list)
      ≡ done nothing (set_dispatcher s d (redeliver_groups (ledger_of s (consumer_nth s i).pair.topic) id (dispatcher_nth s d) gs))
  shared_hands =
      let p = (consumer_nth s i).pair in
      let l = ledger_of s p.topic in
      let r = redeliver_groups_valid s l id (dispatcher_nth s d) gs (dispatcher_found_valid s d p f v g) in
      at_hand ∙ ap (done nothing) (sym (set_dispatcher_put s d p f (redeliver_groups l id (dispatcher_nth s d) gs) g (r.same_pair ∙ dispatcher_found_pair s d p f g)))
