-- What every call keeps: a property of states that is closed under each change that a call makes of a state.
use Prim.Native.Nat.{ℕ}
use mathlib.Core.Bool.{false, not, ◌&&◌, ◌||◌}
use mathlib.Core.List.{List, [], ◌∷◌}
use mathlib.Core.Option.{Option, none, some}
use lib.Dec.{ltb}
use lib.ListN.{length}
use Rattle.rules.specs.Table.{is_some, is_empty}
use Rattle.rules.specs.State.{StoredMessage, Pair, by_kind, Consumer, Dispatcher, State, consumer_of, ledger_of, dispatcher, put_consumer, put_dispatcher}
use Rattle.rules.specs.Permits.{above_zero}
use Rattle.rules.specs.Dispatcher.{dispatch_gate_open, with_next}
use Rattle.rules.specs.Outcome.{Dispatch}
use Rattle.rules.specs.Commands.{append, subscribe, flow, ack_shared, ack, seek, redeliver_plain, redeliver, without_consumer, close_consumer, close_found, close}
use Rattle.rules.specs.Push.{Turn, Choice, choose, slot_after, hand_out, hand_out_next, serve_choice, shared_turn, send_plain, send_plain_next, plain_turn_of, plain_turn}
use Rattle.rules.specs.Calls.{Call, rule}
use Rattle.rules.specs.Calls.Call.{Append, Subscribe, Flow, Ack, Seek, Redeliver, Close, Push}
use Rattle.rules.proofs.Table.{by_test}
use Rattle.rules.proofs.Kept.Outcomes.{Keeps, keeps_guard, keeps_live, keeps_groups, keeps_kind}
use Rattle.rules.proofs.Kept.Turns.{Turned, push_keeps_both}
use Rattle.rules.proofs.Appended.{entry_added}

-- closed under a consumer put or left out, a dispatcher put, an entry added
pub record Closed (P : State → Type 0) : Type 0 where
  pub consumer_put : (t : State) (c : Consumer) → P t → P (put_consumer t c)
  pub consumer_left : (t : State) (i : ℕ) → P t → P (without_consumer t i)
  pub dispatcher_put : (t : State) (d : Dispatcher) → P t → P (put_dispatcher t d)
  pub entry_put : (t : State) (topic : ℕ) (m : StoredMessage) → P t → P (entry_added t topic m)

module _ (P : State → Type 0) (closed : Closed P) where
  -- a consumer and a dispatcher put
  both_put : (t : State) (c : Consumer) (d : Dispatcher) → P t → P (put_dispatcher (put_consumer t c) d)
  both_put t c d h = closed.dispatcher_put (put_consumer t c) d (closed.consumer_put t c h)

  -- ---- turns

  -- what a turn keeps of it
  abbrev Still : Turn → Type 0
  Still x = Turned P (λ (x : Dispatch). Unit {0}) x

  -- an entry handed out, or none
  hand_out_next_closed : (t : State) (c : Consumer) (d : Dispatcher) (queue : List ℕ) → P t → Still (hand_out_next t c d queue)
  unfolding hand_out_next hand_out
  hand_out_next_closed t c d [] h =
      by_test (ltb d.cursor (length (ledger_of t d.pair.topic))) (λ e. rw e (tt, both_put t _ _ h)) (λ e. rw e (closed.dispatcher_put t d h))
  hand_out_next_closed t c d (k ∷ queue) h = (tt, both_put t _ _ h)

  -- a choice served
  serve_choice_closed : (t : State) (d : Dispatcher) (o : Option Choice) → P t → Still (serve_choice t d o)
  unfolding serve_choice
  serve_choice_closed t d none h = h
  serve_choice_closed t d (some choice) h =
      hand_out_next_closed t choice.consumer (with_next d (slot_after choice.slot d.attached)) d.redelivery h

  -- one turn of a dispatcher
  pub shared_turn_closed : (p : Pair) (t : State) → P t → Still (shared_turn p t)
  unfolding shared_turn
  shared_turn_closed p t h =
      let d : Dispatcher = dispatcher t p in
      by_test (is_empty d.attached || not (dispatch_gate_open d)) (λ e. rw e h) (λ e. rw e (serve_choice_closed t d (choose t d) h))

  -- an entry sent to a plain consumer, or none
  send_plain_next_closed : (t : State) (c : Consumer) (nacked : List ℕ) → P t → Still (send_plain_next t c nacked)
  unfolding send_plain_next send_plain
  send_plain_next_closed t c [] h =
      by_test (ltb c.cursor (length (ledger_of t c.pair.topic))) (λ e. rw e (tt, closed.consumer_put t _ h)) (λ e. rw e h)
  send_plain_next_closed t c (k ∷ nacked) h = (tt, closed.consumer_put t _ h)

  -- one turn of a plain consumer
  pub plain_turn_closed : (i : ℕ) (t : State) → P t → Still (plain_turn i t)
  unfolding plain_turn plain_turn_of
  plain_turn_closed i t h = go (consumer_of t i)
    where
      go : (o : Option Consumer) → Still (plain_turn_of t o)
      go none = h
      go (some c) =
          by_test (by_kind c.kind (above_zero c.permits) false) (λ e. rw e (send_plain_next_closed t c c.nacked h)) (λ e. rw e h)

  -- ---- calls

  module _ (s : State) (own : P s) where
    -- a close
    close_found_closed : (o : Option Consumer) → Keeps P s (close_found s o)
    unfolding close_found close_consumer
    close_found_closed none = own
    close_found_closed (some c) =
        keeps_kind P s own c.kind _ _ (λ k. closed.consumer_left s c.id own)
        (λ k. keeps_guard P s own _ 9 _ (λ t. closed.dispatcher_put (without_consumer s c.id) _ (closed.consumer_left s c.id own)))

    -- any call
    pub closed_keeps : (x : Call) → Keeps P s (rule s x)
    unfolding rule append subscribe flow ack ack_shared seek redeliver redeliver_plain close
    closed_keeps (Append topic m) =
        keeps_guard P s own _ 8 _ (λ a. keeps_guard P s own _ 7 _ (λ b.
        keeps_guard P s own _ 5 _ (λ c. keeps_guard P s own _ 6 _ (λ d. closed.entry_put s topic m own))))
    closed_keeps (Subscribe i kind p) =
        by_test (is_some (consumer_of s i) && s.live_id_subscribe_is_noop)
        (λ e. rw e own)
        (λ e. rw e
        (keeps_guard P s own _ 12 _ (λ a.
        keeps_kind P s own kind _ _ (λ k. closed.consumer_put s _ own)
        (λ k. keeps_guard P s own _ 13 _ (λ b. keeps_guard P s own _ 14 _ (λ c. both_put s _ _ own))))))
    closed_keeps (Flow i grant) =
        keeps_live P s own i _ (λ c e.
        keeps_guard P s own _ 9 _ (λ a.
        keeps_kind P s own c.kind _ _ (λ k. closed.consumer_put s _ own)
        (λ k. keeps_guard P s own _ 9 _ (λ b. both_put s _ _ own))))
    closed_keeps (Ack i list) =
        keeps_live P s own i _ (λ c e.
        keeps_groups P s own list _ (λ gs g.
        keeps_kind P s own c.kind _ _ (λ k. own) (λ k. keeps_guard P s own _ 11 _ (λ a. closed.dispatcher_put s _ own))))
    closed_keeps (Seek i target) = keeps_live P s own i _ (λ c e. closed.consumer_put s _ own)
    closed_keeps (Redeliver i list) =
        keeps_live P s own i _ (λ c e.
        keeps_groups P s own list _ (λ gs g.
        keeps_kind P s own c.kind _ _
        (λ k. keeps_guard P s own _ 11 _ (λ a. closed.consumer_put s _ own)) (λ k. closed.dispatcher_put s _ own)))
    closed_keeps (Close i) = close_found_closed (consumer_of s i)
    closed_keeps (Push room) = push_keeps_both P (λ (x : Dispatch). Unit {0}) shared_turn_closed plain_turn_closed s room own
