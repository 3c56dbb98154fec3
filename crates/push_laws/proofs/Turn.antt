-- One turn of the rules on a state with a service applied so far is one turn on the numbers, applied.
use mathlib.Core.Path.{◌≡◌, refl, sym, ap, ap₂, ◌∙◌, subst}
use mathlib.Core.Bool.{true, false, not, ◌||◌, true≢false}
use mathlib.Core.List.{List, [], ◌∷◌, ◌++◌, map, append_assoc}
use mathlib.Core.Option
use mathlib.Core.Option.{Option, none, some}
use Prim.Native.Nat.{ℕ, zero, suc, ◌-◌, ◌≤◌, ◌<◌}
use native.Mathlib.Omega.{arith}
use lib.Dec.{ltb}
use lib.ListN.{length, get_or, set, take, drop, length-map, get_or-eq_default, drop_of_length-le}
use lib.Seq.{drop-cons}
use borrow.Author.Tests.{ltb-true, ltb-false}
use Rattle.rules.specs.Permits.{above_zero}
use Rattle.rules.specs.Table.{is_empty}
use Rattle.rules.specs.State.{Consumer, Held, Dispatcher, State, by_id, by_pair, topic_of, consumer_of, ledger_of, dispatcher, insert, with_consumers}
use Rattle.rules.specs.State.{with_dispatchers, put_consumer, put_dispatcher}
use Rattle.rules.specs.Valid.{Ascending}
use Rattle.rules.specs.Dispatcher.{of_parts, with_next, with_cursor, with_total, with_places, mark_at, dispatch_gate_open}
use Rattle.rules.specs.Commands.{with_permits}
use Rattle.rules.specs.Push.{Turn, Choice, choose_ready, first_ready, choose, slot_after, dispatch_of, hand_out, hand_out_next, serve_choice, shared_turn}
use Rattle.rules.specs.Push.Turn.{halt, sent}
use Rattle.rules.proofs.Table.{by_test, put_put}
use Rattle.rules.proofs.State.{decides_pairs, dispatcher_put}
use Rattle.layout.specs.Fields.{zero_consumer, consumer_nth}
use Rattle.store.specs.Find.{slot}
use Rattle.store.proofs.Finding.{slot_found, slot_none}
use Rattle.push_laws.specs.Local.{Local, Step, Place, LocalTurn, first_with_permits, choose_place, price_of, hand_over, take_entry, serve_place}
use Rattle.push_laws.specs.Local.{local_turn, fixed_of}
use Rattle.push_laws.specs.Local.LocalTurn.{stop, move}
use Rattle.push_laws.specs.Applied.{with_each, record_to, record_of, held_of, applied_dispatcher, applied}
use Rattle.operation_laws.proofs.Frame.{insert_found}
use Rattle.push_laws.proofs.Each.{length_each, slot_each, nth_each, set_each, ascending_each, slot_own}

-- a turn on the numbers, applied to a state
unfoldable pub lifted : State → Dispatcher → List Held → LocalTurn → Turn
lifted s d added (stop l) = halt (applied s d l added)
lifted s d added (move x l) = sent (record_of s (fixed_of s d) x) (applied s d l (added ++ held_of s x ∷ []))

drop_map : {A B : Type 0} (f : A → B) (n : ℕ) (l : List A) → drop n (map f l) ≡ map f (drop n l)
drop_map f zero l = refl
drop_map f (suc n) [] = refl
drop_map f (suc n) (a ∷ l) = drop_map f n l

take_map : {A B : Type 0} (f : A → B) (n : ℕ) (l : List A) → take n (map f l) ≡ map f (take n l)
take_map f zero l = refl
take_map f (suc n) [] = refl
take_map {B = B} f (suc n) (a ∷ l) = ap (λ (r : List B). f a ∷ r) (take_map f n l)

empty_map : {A B : Type 0} (f : A → B) (l : List A) → is_empty (map f l) ≡ is_empty l
unfolding is_empty
empty_map f [] = refl
empty_map f (a ∷ l) = refl

module _ (s : State) (d : Dispatcher) (l : Local) (added : List Held) where
  abbrev S : State
  S = applied s d l added

  abbrev D : Dispatcher
  D = applied_dispatcher d l added

  abbrev C : List Consumer
  C = s.consumers

  abbrev P : List ℕ
  P = l.permits

  -- the consumer in a slot, with its permits now
  abbrev now_in : ℕ → Consumer
  now_in c = with_permits (consumer_nth s c) (get_or P c 0)

  -- its dispatcher
  disp : dispatcher S d.pair ≡ D
  unfolding applied applied_dispatcher
  disp = dispatcher_put (with_consumers s (with_each C P)) D d.pair ∙ rw (decides_pairs.self d.pair)

  -- a live consumer
  live_now : (i : ℕ) → slot by_id i C < length C → consumer_of S i ≡ some (now_in (slot by_id i C))
  unfolding consumer_of applied put_dispatcher with_dispatchers with_consumers
  live_now i h =
      let k : slot by_id i (with_each C P) < length (with_each C P) = rw (slot_each i C P, length_each C P) h in
      slot_found by_id i (with_each C P) zero_consumer k
      ∙ ap (λ (j : ℕ). some (get_or (with_each C P) j zero_consumer)) (slot_each i C P)
      ∙ ap (λ (c : Consumer). some c) (nth_each C P (slot by_id i C) zero_consumer h)

  -- one that is not
  gone_now : (i : ℕ) → length C ≤ slot by_id i C → consumer_of S i ≡ none
  unfolding consumer_of applied put_dispatcher with_dispatchers with_consumers
  gone_now i h = slot_none by_id i (with_each C P) (rw (slot_each i C P, length_each C P) h)

  -- where the consumer of a ring id stands
  abbrev slots : ℕ → ℕ
  slots i = slot by_id i C

  -- a choice on the numbers, applied
  abbrev chosen : Place → Choice
  chosen r = record { slot = r.place; consumer = now_in r.consumer }

  module _ (sized : length P ≡ length C) where
    -- nobody in the slot past the last has permits
    none_past : (c : ℕ) → length C ≤ c → above_zero (get_or P c 0) ≡ false
    unfolding above_zero
    none_past c h = rw (get_or-eq_default P 0 {n = c} (omega arith))

    -- the consumers of some ring ids, looked at in turn
    first_same : (k : ℕ) (ids : List ℕ) (more : Option Place)
        → first_ready S k ids (Option.map chosen more) ≡ Option.map chosen (first_with_permits P k (map (λ (i : ℕ). slot by_id i C) ids) more)
    unfolding first_ready first_with_permits choose_ready with_permits
    first_same k [] more = refl
    first_same k (i ∷ ids) more =
        let rest = first_same (suc k) ids more in
        by_test (ltb (slot by_id i C) (length C))
        (λ t.
        rw (live_now i (ltb-true (slot by_id i C) (length C) t), rest)
        (by_test (above_zero (get_or P (slot by_id i C) 0)) (λ u. rw u) (λ u. rw u)))
        (λ t.
        let h : length C ≤ slot by_id i C = ltb-false (slot by_id i C) (length C) t in
        rw (gone_now i h, none_past (slot by_id i C) h) rest)

    -- the choice
    choice_same : choose S D ≡ Option.map chosen (choose_place (fixed_of s d) l)
    unfolding choose choose_place fixed_of applied_dispatcher
    choice_same =
        ap (λ (m : Option Choice). first_ready S l.next (drop l.next d.attached) m)
        (first_same 0 (take l.next d.attached) none)
        ∙ first_same l.next (drop l.next d.attached) (first_with_permits P 0 (map slots (take l.next d.attached)) none)
        ∙ ap₂ {A = List ℕ} {B = List ℕ} (λ a b. Option.map chosen (first_with_permits P l.next a (first_with_permits P 0 b none)))
        (sym (drop_map slots l.next d.attached)) (sym (take_map slots l.next d.attached))

    -- ---- the entry goes to a consumer

    -- a consumer's record with other permits, put among the others
    inserted : (c v : ℕ) → Ascending C → c < length C → insert (with_permits (now_in c) v) (with_each C P) ≡ with_each C (set P c v)
    unfolding with_permits
    inserted c v a h =
        let own : slot by_id (consumer_nth s c).id (with_each C P) ≡ c = slot_each (consumer_nth s c).id C P ∙ slot_own C c zero_consumer a h in
        let k : slot by_id (consumer_nth s c).id (with_each C P) < length (with_each C P) = rw (own, length_each C P) h in
        insert_found (with_permits (now_in c) v) (with_each C P) (ascending_each C P a) k
        ∙ ap (λ (j : ℕ). set (with_each C P) j (with_permits (consumer_nth s c) v)) own
        ∙ set_each C P c v zero_consumer h sized

    -- and in the state
    charged : (c v : ℕ) → Ascending C → c < length C
        → put_consumer S (with_permits (now_in c) v) ≡ put_dispatcher (with_consumers s (with_each C (set P c v))) D
    unfolding put_consumer put_dispatcher with_consumers with_dispatchers applied
    charged c v a h = ap (λ (m : List Consumer). put_dispatcher (with_consumers s m) D) (inserted c v a h)

    -- a dispatcher of the pair put over another
    over : (x : State) (b : Dispatcher) → b.pair ≡ d.pair → put_dispatcher (put_dispatcher x D) b ≡ put_dispatcher x b
    unfolding put_dispatcher with_dispatchers applied_dispatcher
    over x b e = ap (λ (m : List Dispatcher). with_dispatchers x m) (put_put by_pair decides_pairs b D x.dispatchers e)

    -- the dispatcher during a turn: next, cursor and queue moved on
    abbrev during : ℕ → ℕ → ℕ → Dispatcher
    during next cursor taken =
        of_parts d.pair d.attached next cursor d.mark_delete l.total (drop taken d.redelivery) (d.in_flight ++ added) d.marks d.outside

    -- the entry at a position goes to the consumer in a slot
    hand_same : (next cursor taken c k : ℕ) → Ascending C → c < length C
        → hand_out S (now_in c) (during next cursor taken) k ≡ lifted s d added (hand_over (fixed_of s d) P next cursor l.total taken c k)
    unfolding hand_out hand_over lifted dispatch_of record_to record_of held_of fixed_of price_of mark_at with_permits with_total with_places
        applied applied_dispatcher ledger_of topic_of put_dispatcher with_dispatchers with_consumers
    hand_same next cursor taken c k a h =
        let price : ℕ = price_of (fixed_of s d) k in
        let left : ℕ = get_or P c 0 - price in
        let x : Step = record { consumer = c; position = k; price = price; permits = left } in
        let base : State = with_consumers s (with_each C (set P c left)) in
        let put_held : List Held → Dispatcher =
        λ m. of_parts d.pair d.attached next cursor d.mark_delete (l.total - price) (drop taken d.redelivery) m d.marks d.outside in
        ap (λ (t : State). sent (record_of s (fixed_of s d) x) t)
        (ap (λ (t : State). put_dispatcher t (put_held (d.in_flight ++ added ++ held_of s x ∷ []))) (charged c left a h)
        ∙ over base (put_held (d.in_flight ++ added ++ held_of s x ∷ [])) refl
        ∙ ap (λ (m : List Held). put_dispatcher base (put_held m)) (append_assoc d.in_flight added (held_of s x ∷ [])))

    -- ---- the next entry: off the queue, else of the ledger, else none

    module _ (next c : ℕ) (a : Ascending C) (h : c < length C) where
      -- what is done with a queue
      abbrev after_queue : List ℕ → Turn
      after_queue queue = hand_out_next S (now_in c) (with_next D next) queue

      queued : ltb l.taken (length d.redelivery) ≡ true → after_queue (drop l.taken d.redelivery) ≡ lifted s d added (take_entry (fixed_of s d) l next c)
      unfolding hand_out_next with_next with_places applied_dispatcher take_entry fixed_of
      queued t =
          ap after_queue (drop-cons d.redelivery l.taken 0 (ltb-true l.taken (length d.redelivery) t))
          ∙ hand_same next l.cursor (suc l.taken) c (get_or d.redelivery l.taken 0) a h
          ∙ rw t

      no_queue : ltb l.taken (length d.redelivery) ≡ false → drop l.taken d.redelivery ≡ []
      no_queue t = drop_of_length-le d.redelivery (ltb-false l.taken (length d.redelivery) t)

      stored : ltb l.taken (length d.redelivery) ≡ false → ltb l.cursor (length (ledger_of s d.pair.topic)) ≡ true
          → after_queue (drop l.taken d.redelivery) ≡ lifted s d added (take_entry (fixed_of s d) l next c)
      unfolding hand_out_next with_next with_cursor applied_dispatcher take_entry fixed_of ledger_of topic_of applied put_dispatcher
          with_dispatchers with_consumers
      stored t u =
          ap after_queue (no_queue t)
          ∙ rw (t, u) (hand_same next (suc l.cursor) l.taken c l.cursor a h)

      idle : ltb l.taken (length d.redelivery) ≡ false → ltb l.cursor (length (ledger_of s d.pair.topic)) ≡ false
          → after_queue (drop l.taken d.redelivery) ≡ lifted s d added (take_entry (fixed_of s d) l next c)
      unfolding hand_out_next with_next applied_dispatcher take_entry fixed_of lifted ledger_of topic_of applied put_dispatcher with_dispatchers with_consumers
      idle t u =
          ap after_queue (no_queue t)
          ∙ rw (t, u) (ap halt (over (with_consumers s (with_each C P)) (with_next D next) refl))

      take_same : after_queue (drop l.taken d.redelivery) ≡ lifted s d added (take_entry (fixed_of s d) l next c)
      take_same =
          by_test (ltb l.taken (length d.redelivery)) (λ t. queued t)
          (λ t. by_test (ltb l.cursor (length (ledger_of s d.pair.topic))) (λ u. stored t u) (λ u. idle t u))

    -- ---- a chosen consumer is live

    permits_in : (c : ℕ) → above_zero (get_or P c 0) ≡ true → c < length C
    permits_in c e =
        by_test (ltb c (length C)) (λ t. ltb-true c (length C) t)
        (λ t. absurd (true≢false (sym e ∙ none_past c (ltb-false c (length C) t))))

    first_in : (r : Place) (k : ℕ) (ring : List ℕ) (more : Option Place) → (more ≡ some r → r.consumer < length C)
        → first_with_permits P k ring more ≡ some r → r.consumer < length C
    unfolding first_with_permits
    first_in r k [] more m e = m e
    first_in r k (c ∷ ring) more m e =
        by_test (above_zero (get_or P c 0))
        (λ t.
        let q : some (record { place = k; consumer = c }) ≡ some r = rw t at e in
        let same : ◌≡◌ {A = ℕ} c r.consumer = ap (λ (o : Option Place). slot_in o) q in
        subst (λ (n : ℕ). n < length C) same (permits_in c t))
        (λ t. first_in r (suc k) ring more m (rw t at e))
      where
        slot_in : Option Place → ℕ
        slot_in none = 0
        slot_in (some x) = x.consumer

    chosen_in : (r : Place) → choose_place (fixed_of s d) l ≡ some r → r.consumer < length C
    unfolding choose_place
    chosen_in r e =
        first_in r l.next _ _ (first_in r 0 _ none (λ q. absurd (let z : ◌≡◌ {A = ℕ} 0 1 = cc in omega arith))) e

    -- ---- the turn

    -- just after a place, of ids or of slots
    slot_after_same : (k : ℕ) → slot_after k (fixed_of s d).ring ≡ slot_after k d.attached
    unfolding slot_after fixed_of
    slot_after_same k = rw (length-map d.attached slots)

    after_taken : Ascending C → (r : Place) → choose_place (fixed_of s d) l ≡ some r
        → hand_out_next S (now_in r.consumer) (with_next D (slot_after r.place D.attached)) D.redelivery
        ≡ lifted s d added (take_entry (fixed_of s d) l (slot_after r.place d.attached) r.consumer)
    unfolding applied_dispatcher
    after_taken a r e = take_same (slot_after r.place d.attached) r.consumer a (chosen_in r e)

    after_choice : Ascending C → (o : Option Place) → choose_place (fixed_of s d) l ≡ o
        → serve_choice S D (Option.map chosen o) ≡ lifted s d added (serve_place (fixed_of s d) l o)
    unfolding serve_choice serve_place lifted
    after_choice a none e = refl
    after_choice a (some r) e =
        let n : slot_after r.place (fixed_of s d).ring ≡ slot_after r.place d.attached = slot_after_same r.place in
        rw n (after_taken a r e)

    gate : (is_empty D.attached || not (dispatch_gate_open D)) ≡ (is_empty (fixed_of s d).ring || not (above_zero l.total))
    unfolding applied_dispatcher dispatch_gate_open fixed_of
    gate = rw (empty_map slots d.attached)

    stopped : halt S ≡ lifted s d added (stop l)
    unfolding lifted
    stopped = refl

    pub turn_same : Ascending C → shared_turn d.pair S ≡ lifted s d added (local_turn (fixed_of s d) l)
    unfolding shared_turn local_turn
    turn_same a =
        rw disp
        (rw (gate, choice_same)
        (by_test (is_empty (fixed_of s d).ring || not (above_zero l.total))
        (λ t. rw t stopped)
        (λ t. rw t (after_choice a (choose_place (fixed_of s d) l) refl))))
