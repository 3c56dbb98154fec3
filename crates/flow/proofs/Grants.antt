-- The rule of flow by the consumer's slot: its ways out, one for each return of the code.
use mathlib.Core.Path.{◌≡◌, refl, sym, ap, ◌∙◌}
use Prim.Native.Nat.{ℕ, ◌+◌, ◌≤◌, ◌<◌}
use native.Mathlib.Omega.{arith}
use lib.Dec.{ltb}
use lib.ListN.{length}
use borrow.Author.Tests.{lt-ltb, le-ltb}
use Rattle.rules.specs.Permits.{most_permits, most_total}
use Rattle.rules.specs.State.{by_kind, State, by_id, by_pair, dispatcher, put_consumer, put_dispatcher}
use Rattle.rules.specs.State.Kind.{plain, shared}
use Rattle.rules.specs.Outcome.{guard}
use Rattle.rules.specs.Outcome.Outcome.{refused, done}
use Rattle.rules.specs.Outcome.Value.{permits_after}
use Rattle.rules.specs.Dispatcher.{with_total}
use Rattle.rules.specs.Commands.{flow, with_permits}
use Rattle.rules.specs.Calls.{rule}
use Rattle.rules.specs.Calls.Call.{Flow}
use Rattle.rules.specs.Valid.{Valid}
use Rattle.layout.specs.Fields.{consumer_nth, dispatcher_nth, set_consumer, set_dispatcher}
use Rattle.store.specs.Find.{slot}
use Rattle.operation_laws.proofs.Frame.{guard_stop, guard_pass, kind_plain, kind_shared, live_found, live_missing, dispatcher_found, dispatcher_found_pair, set_consumer_put, set_both}

-- an id that is not live
pub flow_missing : (s : State) (id grant : ℕ) → length s.consumers ≤ slot by_id id s.consumers → rule s (Flow id grant) ≡ refused 4
unfolding rule flow
flow_missing s id grant h = live_missing s (slot by_id id s.consumers) id refl _ h

module _ (s : State) (i id grant : ℕ) (e : i ≡ slot by_id id s.consumers) (q : (consumer_nth s i).id ≡ id) (v : Valid s) (h : i < length s.consumers) where
  -- the rule with the consumer at hand
  at_hand : rule s (Flow id grant) ≡
      guard (ltb most_permits ((consumer_nth s i).permits + grant)) 9
      (by_kind (consumer_nth s i).kind
      (done (permits_after ((consumer_nth s i).permits + grant)) (put_consumer s (with_permits (consumer_nth s i) ((consumer_nth s i).permits + grant))))
      (guard (ltb most_total ((dispatcher s (consumer_nth s i).pair).total_available_permits + grant)) 9
      (done (permits_after ((consumer_nth s i).permits + grant))
      (put_dispatcher (put_consumer s (with_permits (consumer_nth s i) ((consumer_nth s i).permits + grant)))
      (with_total (dispatcher s (consumer_nth s i).pair) ((dispatcher s (consumer_nth s i).pair).total_available_permits + grant))))))
  unfolding rule flow
  at_hand = live_found s i id e _ h

  -- the consumer would pass its most
  pub flow_over : most_permits < (consumer_nth s i).permits + grant → rule s (Flow id grant) ≡ refused 9
  flow_over o = at_hand ∙ guard_stop _ _ _ (lt-ltb most_permits ((consumer_nth s i).permits + grant) o)

  module _ (n : ℕ) (p : n ≡ (consumer_nth s i).permits + grant) (le : n ≤ most_permits) where
    -- the rule past the first refusal
    within : rule s (Flow id grant) ≡
        by_kind (consumer_nth s i).kind
        (done (permits_after n) (put_consumer s (with_permits (consumer_nth s i) n)))
        (guard (ltb most_total ((dispatcher s (consumer_nth s i).pair).total_available_permits + grant)) 9
        (done (permits_after n)
        (put_dispatcher (put_consumer s (with_permits (consumer_nth s i) n))
        (with_total (dispatcher s (consumer_nth s i).pair) ((dispatcher s (consumer_nth s i).pair).total_available_permits + grant)))))
    within = rw p (at_hand ∙ guard_pass _ _ _ (le-ltb most_permits ((consumer_nth s i).permits + grant) (omega arith)))

    -- the consumer keeps its id
    same_id : (with_permits (consumer_nth s i) n).id ≡ id
    unfolding with_permits
    same_id = q

    -- a plain consumer
    pub flow_plain : (consumer_nth s i).kind ≡ plain → rule s (Flow id grant) ≡ done (permits_after n) (set_consumer s i (with_permits (consumer_nth s i) n))
    flow_plain k =
        within ∙ kind_plain _ _ _ k
        ∙ ap (done (permits_after n)) (sym (set_consumer_put s i id e (with_permits (consumer_nth s i) n) v h same_id))

    module _ (k : (consumer_nth s i).kind ≡ shared) (d total : ℕ) (f : d ≡ slot by_pair (consumer_nth s i).pair s.dispatchers) (g : d < length s.dispatchers)
        (t : total ≡ (dispatcher_nth s d).total_available_permits + grant) where
      -- the rule with the dispatcher at hand
      with_dispatcher : rule s (Flow id grant) ≡
          guard (ltb most_total total) 9
          (done (permits_after n) (put_dispatcher (put_consumer s (with_permits (consumer_nth s i) n)) (with_total (dispatcher_nth s d) total)))
      with_dispatcher = within ∙ kind_shared _ _ _ k ∙ rw (dispatcher_found s d (consumer_nth s i).pair f g, ← t)

      -- the dispatcher would pass its most
      pub flow_total_over : most_total < total → rule s (Flow id grant) ≡ refused 9
      flow_total_over o = with_dispatcher ∙ guard_stop _ _ _ (lt-ltb most_total total o)

      -- the dispatcher keeps its pair
      same_pair : (with_total (dispatcher_nth s d) total).pair ≡ (consumer_nth s i).pair
      unfolding with_total
      same_pair = dispatcher_found_pair s d (consumer_nth s i).pair f g

      -- a shared consumer
      pub flow_shared : total ≤ most_total → rule s (Flow id grant) ≡ done (permits_after n)
          (set_dispatcher (set_consumer s i (with_permits (consumer_nth s i) n)) d (with_total (dispatcher_nth s d) total))
      flow_shared o =
          with_dispatcher ∙ guard_pass _ _ _ (le-ltb most_total total o)
          ∙ ap (done (permits_after n))
          (sym (set_both s i id d (consumer_nth s i).pair (with_permits (consumer_nth s i) n) (with_total (dispatcher_nth s d) total) v e h same_id f g same_pair))
