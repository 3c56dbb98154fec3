-- One turn of a dispatcher: an entry of the queue or of the ledger goes to a ring consumer with permits, and its cost leaves
-- the consumer's and the dispatcher's permits as it joins the consumer's costs in the book.
use Prim.Native.Nat.{ℕ, suc, ◌+◌, ◌-◌, ◌<◌, ◌≤◌}
use mathlib.Core.Path.{◌≡◌, refl, sym, ap, ap₂, ◌∙◌, subst}
use mathlib.Core.Bool.{Bool, true, false, cond, not, ◌||◌}
use mathlib.Core.List.{List, [], ◌∷◌}
use mathlib.Core.Option.{Option, none, some, some-injective}
use native.Mathlib.Omega.{arith}
use lib.Dec.{ltb}
use lib.ListN.{length, get_or}
use borrow.Author.Tests.{ltb-true, not-false}
use Rattle.rules.specs.Permits.{above_zero}
use Rattle.rules.specs.Table.{count, is_empty}
use Rattle.rules.specs.State.{Id, same_id, StoredMessage, Pair, same_pair, Consumer, Acked, Held, Dispatcher, State, new_mark, topic_of, consumer_of, ledger_of, dispatcher, with_consumers, with_dispatchers, put_consumer, put_dispatcher}
use Rattle.rules.specs.State.Kind.{shared}
use Rattle.rules.specs.Ledger.{position_of, message_at, batch_size_of}
use Rattle.rules.specs.Dispatcher.{with_next, with_cursor, with_total, with_places, mark_at, dispatch_gate_open, cost}
use Rattle.rules.specs.Commands.{with_permits}
use Rattle.rules.specs.Push.{Turn, Choice, choose, slot_after, dispatch_of, hand_out, hand_out_next, serve_choice, shared_turn}
use Rattle.rules.specs.Push.Turn.{halt, sent}
use Rattle.rules.specs.Book.{Book, Who, updated, with_who, with_handed_out, enter_record}
use Rattle.rules.proofs.Permits.{above_zero_lt}
use Rattle.rules.proofs.Table.{by_test, never_both}
use Rattle.rules.proofs.State.{decides_pairs, updated_here, updated_elsewhere, consumer_id, dispatcher_pair, dispatcher_here, put_twice}
use Rattle.rules.proofs.Kept.Choice.{chosen_all}
use Rattle.rules.proofs.Demand.Invariant.{Placed, FitsAt, Invariant}
use Rattle.rules.proofs.Demand.Marks.{acked_inside}
use Rattle.rules.proofs.Demand.Handed.{cost_le, held_now, from_queue, from_ledger}
use Rattle.rules.proofs.Demand.Known.{account, Known, known, ring_live, has_dispatcher}
use Rattle.rules.proofs.Demand.Changes.{replaced, charged}

-- the invariant holds after a turn, with what it sent entered
abbrev pub Turned : Turn → Book → Type 0
Turned (halt s) b = Invariant s b
Turned (sent x s) b = Invariant s (enter_record b x (b.who x.consumer))

-- ---- the entry goes to the consumer

-- a dispatcher with another next slot, cursor, queue, total and other entries in flight
abbrev served : Dispatcher → ℕ → ℕ → ℕ → List ℕ → List Held → Dispatcher
served d next cursor total queue held =
    record {
      pair = d.pair;
      attached = d.attached;
      next = next;
      cursor = cursor;
      mark_delete = d.mark_delete;
      total_available_permits = total;
      redelivery = queue;
      in_flight = held;
      marks = d.marks;
      outside = d.outside;
    }

module _ (s : State) (b : Book) (h : Invariant s b) (c : Consumer) (e : consumer_of s c.id ≡ some c) (kind : c.kind ≡ shared)
    (ready : above_zero c.permits ≡ true) (gate : above_zero (dispatcher s c.pair).total_available_permits ≡ true) where
  -- the consumer's pair, that pair's dispatcher and ledger, and what the book knows of the consumer
  abbrev p : Pair
  p = c.pair

  abbrev d : Dispatcher
  d = dispatcher s p

  abbrev l : List StoredMessage
  l = ledger_of s p.topic

  abbrev a : Known b c.id c
  a = known s b h c.id c e kind

  module _ (k : ℕ) (inside : k < length l) where
    -- the message that is handed out
    abbrev m : StoredMessage
    m = message_at l k

    -- the cost, by the state
    abbrev price : ℕ
    price = cost m.batch_size (get_or d.marks k new_mark).acked.unacked

    -- the cost by the book is the same
    book_price : cost (batch_size_of m.id (b.topics p.topic)) (b.acked p m.id).unacked ≡ price
    unfolding batch_size_of
    book_price =
        let o : position_of m.id l ≡ k = h.ids_once p.topic k inside in
        let g : position_of m.id l < length l = omega arith in
        ap₂ cost
        (ap (batch_size_of m.id) (h.lists p.topic) ∙ ap (λ (n : ℕ). (message_at l n).batch_size) o)
        (ap (λ (x : Acked). x.unacked)
        ((h.fits p).marks_agree.agree m.id ∙ acked_inside l d.marks d.outside m.id g
        ∙ ap (λ (n : ℕ). (get_or d.marks n new_mark).acked) o))

    -- after permits have moved: the consumers, the dispatcher, the state and the book
    abbrev s₀ : State
    s₀ = put_consumer s (with_permits c (c.permits - price))

    abbrev d₁ : Dispatcher
    d₁ = with_total d (d.total_available_permits - price)

    abbrev s₁ : State
    s₁ = put_dispatcher s₀ d₁

    abbrev b₁ : Book
    b₁ = with_who b c.id (account p a.grants (a.costs + price))

    -- permits first
    price_charged : Invariant s₁ b₁
    price_charged =
        let small : price ≤ 256 = cost_le m.batch_size (get_or d.marks k new_mark).acked.unacked (h.batches p.topic k) in
        let x = above_zero_lt c.permits ready in
        let y = above_zero_lt d.total_available_permits gate in
        charged s b h c.id c e kind a (c.permits - price) (d.total_available_permits - price) a.grants (a.costs + price)
        (omega (arith, a.balanced)) (omega arith) (omega arith)

    -- what was handed out for the pair, with this entry
    abbrev handed : Id → Bool
    handed = updated same_id (b.handed_out p) m.id true

    module _ (next cursor : ℕ) (queue : List ℕ)
        (z : Placed l (b.attached p) handed cursor queue (held_now c.id k d.in_flight) d.marks) where
      -- the dispatcher and the state after it
      abbrev d₂ : Dispatcher
      d₂ = served d next cursor (d.total_available_permits - price) queue (held_now c.id k d.in_flight)

      abbrev s₂ : State
      s₂ = put_dispatcher s₀ d₂

      -- then the entry
      handed_over : Invariant s₂ (with_handed_out b₁ p m.id)
      unfolding with_handed_out with_who with_total put_dispatcher with_dispatchers put_consumer with_consumers ledger_of topic_of
      handed_over =
          let y : FitsAt s₁ b₁ p d₁ = subst (λ (x : Dispatcher). FitsAt s₁ b₁ p x) (dispatcher_here s₀ d₁ p (dispatcher_pair s p)) (price_charged.fits p) in
          subst (λ (x : State). Invariant x (with_handed_out b₁ p m.id)) (put_twice s₀ d₁ d₂ refl)
          (replaced s₁ b₁ price_charged p d₂ (has_dispatcher s₁ b₁ price_charged p c.id (omega (arith, a.in_ring)))
          (updated same_pair b.handed_out p handed) (λ q t. updated_elsewhere decides_pairs b.handed_out p handed q t) b.acked (λ q t. refl)
          (record {
            ringed = y.ringed;
            marks_agree = y.marks_agree;
            placed = rw (updated_here decides_pairs b.handed_out p handed) z;
          }))

      -- as the turn and the book have it
      handed_turn : Turned (hand_out s c (served d next cursor d.total_available_permits queue d.in_flight) k) b
      unfolding hand_out dispatch_of enter_record with_total with_places mark_at
      handed_turn =
          let mark = get_or d.marks k new_mark in
          let cost_of : StoredMessage → ℕ = λ (x : StoredMessage). cost x.batch_size mark.acked.unacked in
          subst (λ (x : StoredMessage). Invariant
          (put_dispatcher (put_consumer s (with_permits c (c.permits - cost_of x)))
          (served d next cursor (d.total_available_permits - cost_of x) queue (held_now c.id k d.in_flight)))
          (enter_record b (dispatch_of c x mark (cost_of x)) (b.who c.id)))
          (ap (λ (q : Pair). message_at (ledger_of s q.topic) k) (sym (dispatcher_pair s p)))
          (subst (λ (w : Who). Invariant s₂ (enter_record b (dispatch_of c m mark price) w)) (sym a.who_is)
          (subst (λ (n : ℕ). Invariant s₂ (with_handed_out (with_who b c.id (account p a.grants (a.costs + n))) p m.id))
          (sym book_price) handed_over))

  -- queue first, then ledger, else next alone moves
  next_turn : (next : ℕ) → Turned (hand_out_next s c (with_next d next) d.redelivery) b
  unfolding hand_out_next with_next with_cursor with_places
  next_turn next = go d.redelivery refl
    where
      -- the consumer is in the ring
      ring_has : 0 < count c.id (b.attached p)
      ring_has = omega (arith, a.in_ring)

      go : (queue : List ℕ) → d.redelivery ≡ queue → Turned (hand_out_next s c (with_next d next) queue) b
      go [] x =
          subst (λ (n : ℕ). Turned (cond (ltb d.cursor n)
          (hand_out s c (with_cursor (with_next d next) (suc d.cursor)) d.cursor) (halt (put_dispatcher s (with_next d next)))) b)
          (ap (λ (q : Pair). length (ledger_of s q.topic)) (sym (dispatcher_pair s p)))
          (by_test (ltb d.cursor (length l))
          (λ t. rw t
          (let inside = ltb-true d.cursor (length l) t in
          handed_turn d.cursor inside next (suc d.cursor) d.redelivery
          (from_ledger c.id ring_has (h.ids_once p.topic) inside (h.fits p).placed)))
          (λ t. rw t
          (replaced s b h p (with_next d next) (has_dispatcher s b h p c.id ring_has) b.handed_out (λ q u. refl) b.acked (λ q u. refl)
          (let f = h.fits p in
          record {
            ringed = f.ringed;
            marks_agree = f.marks_agree;
            placed = f.placed;
          }))))
      go (k ∷ queue) x =
          let y = from_queue c.id ring_has (h.ids_once p.topic) k queue
          (subst (λ (r : List ℕ). Placed l (b.attached p) (b.handed_out p) d.cursor r d.in_flight d.marks) x (h.fits p).placed) in
          handed_turn k y.0 next d.cursor queue y.1

-- ---- the consumer that is chosen

-- the turn that serves a consumer chosen at a slot of a pair's ring
abbrev serves : State → Pair → Choice → Turn
serves s q x =
    hand_out_next s x.consumer (with_next (dispatcher s q) (slot_after x.slot (dispatcher s q).attached)) (dispatcher s q).redelivery

module _ (s : State) (b : Book) (h : Invariant s b) (q : Pair) where
  -- a ready consumer of the ring is served
  served_ready : above_zero (dispatcher s q).total_available_permits ≡ true → (i n : ℕ) (c : Consumer) → 0 < count i (dispatcher s q).attached
      → consumer_of s i ≡ some c → above_zero c.permits ≡ true → Turned (serves s q (record { slot = n; consumer = c })) b
  served_ready gate i n c g e ready =
      let y = ring_live s b h q i (subst (λ (l : List ℕ). 0 < count i l) (h.fits q).ringed.ring_is g) in
      let z : y.0 ≡ c = some-injective y.0 c (sym y.1 ∙ e) in
      let live : consumer_of s c.id ≡ some c = subst (λ (j : ℕ). consumer_of s j ≡ some c) (consumer_id s i c e) e in
      let kind : c.kind ≡ shared = subst (λ (x : Consumer). x.kind ≡ shared) z y.2 in
      let pair : c.pair ≡ q = subst (λ (x : Consumer). x.pair ≡ q) z y.3 in
      subst (λ (p : Pair). above_zero (dispatcher s p).total_available_permits ≡ true → Turned (serves s p (record { slot = n; consumer = c })) b)
      pair (λ u. next_turn s b h c live kind ready u (slot_after n (dispatcher s c.pair).attached)) gate

  -- a turn of a dispatcher keeps the invariant
  pub shared_turn_keeps : Turned (shared_turn q s) b
  unfolding shared_turn serve_choice dispatch_gate_open
  shared_turn_keeps =
      let none_left = is_empty (dispatcher s q).attached in
      let gate = above_zero (dispatcher s q).total_available_permits in
      by_test (none_left || not gate) (λ t. rw t h) (λ t. rw t (go (choose s (dispatcher s q)) refl (gate_open none_left gate t)))
    where
      -- where neither test of the turn halts it the gate is open
      gate_open : (x y : Bool) → (x || not y) ≡ false → y ≡ true
      gate_open true y e = never_both true refl e
      gate_open false y e = not-false y e

      go : (o : Option Choice) → choose s (dispatcher s q) ≡ o → above_zero (dispatcher s q).total_available_permits ≡ true
          → Turned (serve_choice s (dispatcher s q) o) b
      go none x y = h
      go (some z) x y = chosen_all (λ (c : Choice). Turned (serves s q c) b) s (dispatcher s q) (served_ready y) z x
