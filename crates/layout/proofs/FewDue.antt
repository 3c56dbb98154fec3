-- A push of a valid state makes few dispatches, far fewer than an answer can say: a dispatcher's turns take an entry of its
-- queue or of its ledger each, a plain consumer's one that it handed back or one of its ledger.
use Prim.Native.Nat.{ℕ, zero, suc, ◌+◌, ◌-◌, ◌*◌, ◌≤◌}
use mathlib.Core.Path.{◌≡◌, refl}
use mathlib.Core.List.{List, [], ◌∷◌, map}
use mathlib.Core.Option.{Option, none, some}
use native.Mathlib.Omega.{arith}
use lib.ListN.{length, length-append, length-map}
use Rattle.rules.specs.State.{Pair, Consumer, Dispatcher, State, new_dispatcher, consumer_of, ledger_of, dispatcher}
use Rattle.rules.specs.Push.{Turn, Pushed, shared_turn, plain_turn, after_turn, turns, serve_dispatcher, plain_backlog, serve_plain, serve_each, push_pending_shared, push_pending}
use Rattle.rules.specs.Push.Turn.{halt, sent}
use Rattle.rules.specs.Valid.{Valid, ValidTopic}
use Rattle.rules.proofs.Kept.Frame.{consumer_valid, dispatcher_cases, found_valid}
use Rattle.rules.proofs.Kept.Turns.{turns_keep}
use Rattle.rules.proofs.Kept.{shared_turn_valid, plain_turn_valid}
use Rattle.layout.specs.Whole.{ShapedTopic}
use Rattle.layout.proofs.Valid.{all_valid, ledger_fits, dispatcher_shaped}

-- ---- turns after turns

-- at most as many records as turns
turns_few : (n : ℕ) (turn : State → Turn) (s : State) → length (turns n turn s).dispatched ≤ n
unfolding turns after_turn
turns_few zero turn s = omega arith
turns_few (suc n) turn s = go (turn s) (λ t. turns_few n turn t)
  where
    go : (x : Turn) → ((t : State) → length (turns n turn t).dispatched ≤ n)
        → length (after_turn x (λ (t : State). turns n turn t)).dispatched ≤ suc n
    go (halt t) more = omega arith
    go (sent x t) more = let h = more t in omega arith

-- each of some served makes at most 8,193, wherever something holds that serving keeps
each_few : {K : Type 0} (P : State → Type 0) (serve : State → K → Pushed) → ((t : State) (k : K) → P t → P (serve t k).state)
    → ((t : State) (k : K) → P t → length (serve t k).dispatched ≤ 8193)
    → (ks : List K) (s : State) → P s → length (serve_each serve ks s).dispatched ≤ length ks * 8193
unfolding serve_each
each_few P serve kept few [] s h = omega arith
each_few P serve kept few (k ∷ ks) s h =
    let a = few s k h in
    let b = each_few P serve kept few ks (serve s k).state (kept s k h) in
    omega (arith, length-append (serve s k).dispatched (serve_each serve ks (serve s k).state).dispatched)

-- ---- of a valid state

module _ (s : State) (v : Valid s) where
  -- every ledger fits E
  short_ledger : (n : ℕ) → length (ledger_of s n) ≤ s.entries
  short_ledger n = ledger_fits s n (all_valid {P = ValidTopic s.entries} (λ a h. h.at_most_E) s.topics v.tables.each_topic)

  -- and so does every queue
  short_queue : (p : Pair) → length (dispatcher s p).redelivery ≤ s.entries
  unfolding new_dispatcher
  short_queue p =
      dispatcher_cases (λ (d : Dispatcher). length d.redelivery ≤ s.entries) s p (λ e. omega arith)
      (λ d e. (dispatcher_shaped s (all_valid {P = ValidTopic s.entries} {Q = ShapedTopic s.entries} (λ a h. h.at_most_E) s.topics v.tables.each_topic) d (found_valid s p d v.tables e)).queue_fits)

  -- a dispatcher served
  few_shared : (p : Pair) → length (serve_dispatcher s p).dispatched ≤ 8193
  unfolding serve_dispatcher
  few_shared p =
      let n : ℕ = suc (length (dispatcher s p).redelivery + (length (ledger_of s p.topic) - (dispatcher s p).cursor)) in
      omega (arith, turns_few n (shared_turn p) s, short_queue p, short_ledger p.topic, v.E_to)

  -- what a plain consumer could be sent
  few_backlog : (i : ℕ) (o : Option Consumer) → consumer_of s i ≡ o → plain_backlog s o ≤ 4160
  unfolding plain_backlog
  few_backlog i none e = omega arith
  few_backlog i (some c) e = omega (arith, (consumer_valid s i c v.tables e).nacked_count, short_ledger c.pair.topic, v.E_to)

  -- a plain consumer served
  few_plain : (i : ℕ) → length (serve_plain s i).dispatched ≤ 8193
  unfolding serve_plain
  few_plain i =
      omega (arith, turns_few (suc (plain_backlog s (consumer_of s i))) (plain_turn i) s, few_backlog i (consumer_of s i) refl)

-- serving a dispatcher keeps a state valid
shared_kept : (t : State) (p : Pair) → Valid t → Valid (serve_dispatcher t p).state
unfolding serve_dispatcher
shared_kept t p v = (turns_keep _ (shared_turn p) t (shared_turn_valid p) v).state_keeps

-- and so does serving a plain consumer
plain_kept : (t : State) (i : ℕ) → Valid t → Valid (serve_plain t i).state
unfolding serve_plain
plain_kept t i v = (turns_keep _ (plain_turn i) t (plain_turn_valid i) v).state_keeps

-- some served, each keeping a state valid
each_kept : {K : Type 0} (serve : State → K → Pushed) → ((t : State) (k : K) → Valid t → Valid (serve t k).state) → (ks : List K) (s : State)
    → Valid s → Valid (serve_each serve ks s).state
unfolding serve_each
each_kept serve kept [] s v = v
each_kept serve kept (k ∷ ks) s v = each_kept serve kept ks (serve s k).state (kept s k v)

-- a push makes at most 8,193 dispatches for each of 8 dispatchers and 32 consumers
pub few_due : (s : State) → Valid s → length (push_pending s).dispatched ≤ 327720
unfolding push_pending push_pending_shared
few_due s v =
    let pairs : List Pair = map (λ (d : Dispatcher). d.pair) s.dispatchers in
    let ids : List ℕ = map (λ (c : Consumer). c.id) s.consumers in
    let first : Pushed = serve_each serve_dispatcher pairs s in
    let rest : Pushed = serve_each serve_plain ids first.state in
    let a = each_few Valid serve_dispatcher shared_kept (λ t p h. few_shared t h p) pairs s v in
    let b = each_few Valid serve_plain plain_kept (λ t i h. few_plain t h i) ids first.state (each_kept serve_dispatcher shared_kept pairs s v) in
    omega (arith, length-append first.dispatched rest.dispatched, length-map s.dispatchers (λ (d : Dispatcher). d.pair), length-map s.consumers (λ (c : Consumer). c.id), v.tables.dispatcher_count, v.tables.consumer_count)
