-- A turn of a dispatcher keeps a state sound. It happens only with the chosen consumer's permits and the dispatcher's
-- total above zero, and an entry costs 256 at most, so that neither leaves its range.
use Prim.Native.Nat.{ℕ, zero, suc, ◌+◌, ◌-◌, ◌≤◌, ◌<◌}
use mathlib.Core.Path.{◌≡◌, refl, ◌∙◌}
use mathlib.Core.Bool.{Bool, true, false, not, ◌||◌, true≢false}
use mathlib.Core.List.{List, [], ◌∷◌, ◌++◌, map-append, Memᴰ}
use mathlib.Core.Option.{Option, none, some}
use native.Mathlib.Omega.{arith}
use lib.Dec.{eqb, ltb}
use lib.ListN.{length}
use borrow.Author.Tests.{ltb-true, eqb-true, eq-eqb, not-false}
use Rattle.bits.specs.Bits.{bits_empty, word_count}
use Rattle.bits.specs.Four.{words}
use Rattle.rules.specs.Permits.{zero_permits, above_zero, least_permits, most_permits}
use Rattle.rules.specs.Table.{count, is_empty}
use Rattle.rules.specs.State.{StoredMessage, Pair, Consumer, Held, Dispatcher, State, consumer_of, ledger_of, dispatcher}
use Rattle.rules.specs.Ledger.{message_at}
use Rattle.rules.specs.Dispatcher.{with_next, with_cursor, with_total, with_places, mark_at, dispatch_gate_open, cost}
use Rattle.rules.specs.Push.{Choice, choose, slot_after, dispatch_of, hand_out, hand_out_next, serve_choice, shared_turn}
use Rattle.rules.specs.Valid.{ValidMessage, ValidConsumer, ValidMark, ValidDispatcher, Sound}
use Rattle.rules.proofs.Table.{by_test, count_append, count_other}
use Rattle.rules.proofs.State.{dispatcher_pair}
use Rattle.rules.proofs.Kept.Every.{every_snoc}
use Rattle.rules.proofs.Kept.Counts.{count_one}
use Rattle.rules.proofs.Kept.Frame.{ring_valid, consumer_valid, sound_replace_dispatcher}
use Rattle.rules.proofs.Kept.Parts.{ring_of, next_most, positions, Places, places_of, fewer_places, valid_with_next, valid_with_cursor, valid_with_places, valid_with_total}
use Rattle.rules.proofs.Kept.Consumers.{valid_charge}
use Rattle.rules.proofs.Kept.Turns.{Turned}
use Rattle.rules.proofs.Kept.Records.{Ranged, message_valid_at, bits_words, cost_range}
use Rattle.rules.proofs.Kept.Choice.{IfChosen, choose_chosen, slot_after_below}

-- a number that is not above 0
zero_if : (n : ℕ) → (0 < n → ⊥) → n ≡ 0
zero_if zero f = refl
zero_if (suc n) f = absurd (f (omega arith))

-- a position that is nowhere joins what is in flight
places_more : (ring : List ℕ) (cursor : ℕ) (held : List Held) (queue : List ℕ) (i k : ℕ) → Places ring cursor held queue → Memᴰ i ring → k < cursor
    → count k (positions held) + count k queue ≡ 0 → Places ring cursor (held ++ record { holder = i; position = k } ∷ []) queue
places_more ring cursor held queue i k p m h e =
    record {
      holders = every_snoc {P = λ (x : Held). Memᴰ x.holder ring} held (record { holder = i; position = k }) p.holders m;
      once = λ n.
          let l = longer n in
          by_test (eqb n k)
          (λ t. let s = count_one n k t in let z : count n (positions held) + count n queue ≡ 0 = rw (eqb-true n k t) e in omega arith)
          (λ t. let s = count_other n k t in let o = p.once n in omega arith);
      below = λ n c.
          let l = longer n in
          by_test (eqb n k)
          (λ t. let g = eqb-true n k t in omega arith)
          (λ t. let s = count_other n k t in p.below n (omega arith));
    }
  where
    -- the count of what is in flight then
    longer : (n : ℕ) → count n (positions (held ++ record { holder = i; position = k } ∷ [])) ≡ count n (positions held) + count n (k ∷ [])
    longer n = rw (map-append (λ (x : Held). x.position) held (record { holder = i; position = k } ∷ [])) (count_append n (positions held) (k ∷ []))

-- what a turn of a dispatcher needs: the consumer chosen, and a dispatcher of the pair, whose ring is as it was
record Serving (s : State) (p : Pair) (c : Consumer) (d : Dispatcher) : Type 0 where
  pub sound_state : Sound s
  pub live : consumer_of s c.id ≡ some c
  pub ready : zero_permits < c.permits
  pub its_pair : d.pair ≡ p
  pub its_ring : d.attached ≡ (dispatcher s p).attached
  pub in_ring : Memᴰ c.id d.attached
  pub gate : zero_permits < d.total_available_permits
  pub valid : ValidDispatcher s d

-- with a dispatcher changed in its next, its cursor or its places
serving_changed : (s : State) (p : Pair) (c : Consumer) (d new : Dispatcher) → Serving s p c d → new.pair ≡ d.pair → new.attached ≡ d.attached
    → new.total_available_permits ≡ d.total_available_permits → ValidDispatcher s new → Serving s p c new
serving_changed s p c d new v pair ring total x =
    record {
      sound_state = v.sound_state;
      live = v.live;
      ready = v.ready;
      its_pair = pair ∙ v.its_pair;
      its_ring = ring ∙ v.its_ring;
      in_ring = rw ring v.in_ring;
      gate = rw total v.gate;
      valid = x;
    }

-- an entry that is nowhere below the cursor goes to the consumer
hand_out_keeps : (s : State) (p : Pair) (c : Consumer) (d : Dispatcher) (k : ℕ) → Serving s p c d → k < d.cursor
    → count k (positions d.in_flight) + count k d.redelivery ≡ 0 → Turned Sound Ranged (hand_out s c d k)
unfolding hand_out dispatch_of mark_at with_places with_total word_count
hand_out_keeps s p c d k v h e =
    let l : List StoredMessage = ledger_of s d.pair.topic in
    let m : StoredMessage = message_at l k in
    let price : ℕ = cost m.batch_size (mark_at d k).acked.unacked in
    let x : ValidDispatcher s d = v.valid in
    let w : ValidConsumer s c = consumer_valid s c.id c v.sound_state v.live in
    let in_ledger : k < length l = omega (arith, x.cursor_in_ledger) in
    let message : ValidMessage m = message_valid_at s d.pair.topic k v.sound_state in_ledger in
    let mark : ValidMark m (mark_at d k) = x.entry_marks.each_mark k in_ledger in
    let range = cost_range m (mark_at d k) message mark in
    let ready : zero_permits < c.permits = v.ready in
    let gate : zero_permits < d.total_available_permits = v.gate in
    let from : least_permits ≤ c.permits - price = charged c.permits price ready range.1 in
    let to : c.permits - price ≤ most_permits = omega (arith, w.permits_to) in
    let held : List Held = d.in_flight ++ record { holder = c.id; position = k } ∷ [] in
    let d₁ : Dispatcher = with_places d d.redelivery held in
    let d₂ : Dispatcher = with_total d₁ (d.total_available_permits - price) in (
      record {
        consumer_word = w.id_word;
        message_valid = message;
        words_most = by_test (bits_empty (words (mark_at d k).acked.unacked)) (λ t. rw t (omega arith)) (λ t. rw t (omega (arith, message.batch_range)));
        set_words = bits_words m (mark_at d k) message mark;
        count_range = mark.count_range;
        cost_from = range.0;
        cost_to = range.1;
        permits_from = from;
        permits_to = to;
      },
      valid_charge s c.id c (c.permits - price) d₂
          (sound_replace_dispatcher s p d₂ c.id v.sound_state v.its_pair (rw (← v.its_ring) v.in_ring) v.its_ring
          (valid_with_total s d₁
          (valid_with_places s d x d.redelivery held (places_more d.attached d.cursor d.in_flight d.redelivery c.id k (places_of d x.places) v.in_ring h e))
          (d.total_available_permits - price)
          (let g = charged d.total_available_permits price gate range.1 in omega arith) (omega (arith, x.total_to))))
          v.live from to,
    )
  where
    -- above zero, a cost of 256 at most leaves a number in its range
    charged : (n price : ℕ) → zero_permits < n → price ≤ 256 → least_permits ≤ n - price
    charged n price a b = omega arith

-- the next entry, of the queue or of the ledger
hand_out_next_keeps : (s : State) (p : Pair) (c : Consumer) (d : Dispatcher) (queue : List ℕ) → Serving s p c d → d.redelivery ≡ queue
    → Turned Sound Ranged (hand_out_next s c d queue)
unfolding hand_out_next with_cursor with_places count
hand_out_next_keeps s p c d [] v e =
    let n : ℕ = d.cursor in
    let x : ValidDispatcher s d = v.valid in
    by_test (ltb n (length (ledger_of s d.pair.topic)))
    (λ t. rw t
    (hand_out_keeps s p c (with_cursor d (suc n)) n
    (serving_changed s p c d (with_cursor d (suc n)) v refl refl refl
    (valid_with_cursor s d x (suc n) (omega arith) (ltb-true n (length (ledger_of s d.pair.topic)) t)))
    (omega arith)
    (none_at (places_of d x.places))))
    (λ t. rw t (sound_replace_dispatcher s p d c.id v.sound_state v.its_pair (rw (← v.its_ring) v.in_ring) v.its_ring x))
  where
    -- nothing stands at the cursor
    none_at : Places d.attached d.cursor d.in_flight d.redelivery → count d.cursor (positions d.in_flight) + count d.cursor d.redelivery ≡ 0
    none_at p = zero_if (count d.cursor (positions d.in_flight) + count d.cursor d.redelivery) (λ h. let g = p.below d.cursor h in omega arith)
hand_out_next_keeps s p c d (k ∷ queue) v e =
    let x : ValidDispatcher s d = v.valid in
    let q : Places d.attached d.cursor d.in_flight (k ∷ queue) = rw e at (places_of d x.places) in
    let once : count k (positions d.in_flight) + suc (count k queue) ≤ 1 = rw (eq-eqb k k refl) at (q.once k) in
    hand_out_keeps s p c (with_places d queue d.in_flight) k
    (serving_changed s p c d (with_places d queue d.in_flight) v refl refl refl
    (valid_with_places s d x queue d.in_flight
    (fewer_places d.attached d.cursor d.in_flight (k ∷ queue) d.in_flight queue q q.holders
    (λ n. by_test (eqb n k) (λ t. rw t (omega arith)) (λ t. rw t (omega arith))))))
    (q.below k (rw (eq-eqb k k refl) (omega arith)))
    (omega arith)

-- a choice served
serve_choice_keeps : (s : State) (p : Pair) (o : Option Choice) → Sound s → ValidDispatcher s (dispatcher s p) → zero_permits < (dispatcher s p).total_available_permits
    → IfChosen s (dispatcher s p).attached o → Turned Sound Ranged (serve_choice s (dispatcher s p) o)
unfolding serve_choice with_next
serve_choice_keeps s p none v x gate h = v
serve_choice_keeps s p (some choice) v x gate h =
    let d : Dispatcher = dispatcher s p in
    let n : ℕ = slot_after choice.slot d.attached in
    hand_out_next_keeps s p choice.consumer (with_next d n) d.redelivery
    (record {
      sound_state = v;
      live = h.live;
      ready = h.ready;
      its_pair = dispatcher_pair s p;
      its_ring = refl;
      in_ring = h.in_ring;
      gate = gate;
      valid = valid_with_next s d x n (slot_after_below choice.slot d.attached h.slot_below);
    })
    refl

-- a ring that is not empty has somebody in it
somebody : (ring : List ℕ) → is_empty ring ≡ false → (i : ℕ) × Memᴰ i ring
unfolding is_empty
somebody [] e = absurd (true≢false e)
somebody (i ∷ ring) e = (i, Memᴰ.head refl)

-- where a turn goes on, the first test fails and the second passes
neither : (a b : Bool) → (a || not b) ≡ false → (a ≡ false) × (b ≡ true)
neither true b e = absurd (true≢false e)
neither false b e = (refl, not-false b e)

-- one turn of a dispatcher
pub shared_turn_keeps : (p : Pair) (s : State) → Sound s → Turned Sound Ranged (shared_turn p s)
unfolding shared_turn dispatch_gate_open above_zero
shared_turn_keeps p s v =
    let d : Dispatcher = dispatcher s p in
    by_test (is_empty d.attached || not (ltb zero_permits d.total_available_permits))
    (λ t. rw t v)
    (λ t.
    let going = neither (is_empty d.attached) (ltb zero_permits d.total_available_permits) t in
    let one = somebody d.attached going.0 in
    let x : ValidDispatcher s d = ring_valid s p one.0 v one.1 in
    rw t
    (serve_choice_keeps s p (choose s d) v x (ltb-true zero_permits d.total_available_permits going.1)
    (choose_chosen s d (next_most d.attached d.next (ring_of d x.ring)))))
