-- A state with one thing changed is sound where the new thing is: a consumer put or left out, a dispatcher put.
-- What else the rules say of a state follows from the old one, since consumers look only at how long their ledger is
-- and at their dispatcher's ring, and dispatchers only at their ledger.
use Prim.Native.Nat.{ℕ, ◌≤◌, ◌<◌}
use mathlib.Core.Path.{◌≡◌, refl, sym, ◌∙◌, ap, subst}
use mathlib.Core.Bool.{Bool, true, false, not, true≢false}
use mathlib.Core.List.Memᴰ
use mathlib.Core.List.{List, Memᴰ}
use mathlib.Core.Option.{Option, none, some}
use native.Mathlib.Nat.{le_trans, lt_of_lt_of_le}
use native.Mathlib.Omega.{arith}
use lib.Dec.{eqb}
use lib.ListN.{length}
use Rattle.rules.specs.Table.{keep, Every, is_some, or_else}
use Rattle.rules.specs.State.{Pair, same_pair, Consumer, Dispatcher, State, new_dispatcher, by_id, by_pair, topic_of, consumer_of, dispatcher_of, ledger_of, dispatcher, insert, with_consumers, with_dispatchers, put_consumer, put_dispatcher}
use Rattle.rules.specs.State.Kind.{shared}
use Rattle.rules.specs.Commands.{without_consumer}
use Rattle.rules.specs.Valid.{Ascending, ValidConsumer, ValidDispatcher, Sound}
use Rattle.rules.proofs.Table.{by_test, length_keep}
use Rattle.rules.proofs.State.{decides_pairs, dispatcher_put, consumer_id}
use Rattle.rules.proofs.Kept.Every.{kept_was, found_in, every_put, length_put, distinct_put, every_insert, ascending_insert, ascending_keep, length_insert}

-- ---- consumers and dispatchers in another state

-- a consumer in a state where its ledger is no shorter, and where it is in its ring if it was
pub move_consumer : (s t : State) (c : Consumer) → length (ledger_of s c.pair.topic) ≤ length (ledger_of t c.pair.topic)
    → (Memᴰ c.id (dispatcher s c.pair).attached → Memᴰ c.id (dispatcher t c.pair).attached)
    → ValidConsumer s c → ValidConsumer t c
move_consumer s t c h r v =
    record {
      id_word = v.id_word;
      topic_byte = v.topic_byte;
      subscription_byte = v.subscription_byte;
      permits_from = v.permits_from;
      permits_to = v.permits_to;
      cursor_in_ledger = le_trans v.cursor_in_ledger h;
      nacked_count = v.nacked_count;
      nacked_in_ledger = λ k m. lt_of_lt_of_le (v.nacked_in_ledger k m) h;
      shared_in_ring = λ e. r (v.shared_in_ring e);
    }

-- a dispatcher in a state with the same ledger
pub move_dispatcher : (s t : State) (d : Dispatcher) → ledger_of t d.pair.topic ≡ ledger_of s d.pair.topic → ValidDispatcher s d → ValidDispatcher t d
move_dispatcher s t d e v =
    record {
      pair_topic_byte = v.pair_topic_byte;
      pair_subscription_byte = v.pair_subscription_byte;
      ring = v.ring;
      total_from = v.total_from;
      total_to = v.total_to;
      cursor_in_ledger = rw e v.cursor_in_ledger;
      mark_delete_in_ledger = rw e v.mark_delete_in_ledger;
      places = v.places;
      entry_marks = rw e v.entry_marks;
      outside_ids = rw e v.outside_ids;
    }

-- ---- what was found is valid

-- a live consumer
pub consumer_valid : (s : State) (i : ℕ) (c : Consumer) → Sound s → consumer_of s i ≡ some c → ValidConsumer s c
unfolding consumer_of
consumer_valid s i c v e = v.each_consumer c (found_in by_id i s.consumers c e)

-- ---- one thing changed

-- other consumers, each valid
sound_with_consumers : (s : State) (l : List Consumer) → Sound s → length l ≤ 32 → Ascending l → Every (ValidConsumer s) l → Sound (with_consumers s l)
unfolding with_consumers ledger_of topic_of dispatcher dispatcher_of
sound_with_consumers s l v count ascending each =
    record {
      topic_count = v.topic_count;
      topics_distinct = v.topics_distinct;
      each_topic = v.each_topic;
      consumer_count = count;
      consumers_ascending = ascending;
      each_consumer = λ c m. move_consumer s (with_consumers s l) c (omega arith) (λ r. r) (each c m);
      dispatcher_count = v.dispatcher_count;
      pairs_distinct = v.pairs_distinct;
      each_dispatcher = λ d m. move_dispatcher s (with_consumers s l) d refl (v.each_dispatcher d m);
    }

-- a consumer put in place, or added where there is room
pub sound_put_consumer : (s : State) (c : Consumer) → Sound s → (is_some (consumer_of s c.id) ≡ false → length s.consumers < 32)
    → ValidConsumer s c → Sound (put_consumer s c)
unfolding consumer_of put_consumer
sound_put_consumer s c v room w =
    sound_with_consumers s (insert c s.consumers) v
    (length_insert c s.consumers 32 v.consumers_ascending v.consumer_count room)
    (ascending_insert c s.consumers v.consumers_ascending)
    (every_insert c s.consumers w v.each_consumer)

-- a live consumer's record replaced
pub sound_replace_consumer : (s : State) (i : ℕ) (c new : Consumer) → Sound s → consumer_of s i ≡ some c → new.id ≡ c.id
    → ValidConsumer s new → Sound (put_consumer s new)
unfolding is_some
sound_replace_consumer s i c new v e n w =
    sound_put_consumer s new v
    (λ f. let g : consumer_of s new.id ≡ some c = ap (consumer_of s) (n ∙ sym (consumer_id s i c e)) ∙ e in absurd (true≢false (rw g at f)))
    w

-- a consumer left out
pub sound_without_consumer : (s : State) (i : ℕ) → Sound s → Sound (without_consumer s i)
unfolding without_consumer
sound_without_consumer s i v =
    let other : Consumer → Bool = λ (c : Consumer). not (eqb i c.id) in
    sound_with_consumers s (keep other s.consumers) v
    (le_trans (length_keep other s.consumers) v.consumer_count)
    (ascending_keep other s.consumers v.consumers_ascending)
    (λ c m. v.each_consumer c (kept_was other s.consumers c m))

-- a dispatcher put in place, or added where there is room, that keeps in its ring whoever is live there
pub sound_put_dispatcher : (s : State) (d : Dispatcher) → Sound s → (is_some (dispatcher_of s d.pair) ≡ false → length s.dispatchers < 8)
    → ((c : Consumer) → Memᴰ c s.consumers → Memᴰ c.id (dispatcher s d.pair).attached → Memᴰ c.id d.attached)
    → ValidDispatcher s d → Sound (put_dispatcher s d)
unfolding dispatcher_of put_dispatcher with_dispatchers ledger_of topic_of
sound_put_dispatcher s d v room stays w =
    record {
      topic_count = v.topic_count;
      topics_distinct = v.topics_distinct;
      each_topic = v.each_topic;
      consumer_count = v.consumer_count;
      consumers_ascending = v.consumers_ascending;
      each_consumer = λ x m. move_consumer s (put_dispatcher s d) x (omega arith) (ring x m) (v.each_consumer x m);
      dispatcher_count = length_put by_pair d s.dispatchers 8 v.dispatcher_count room;
      pairs_distinct = distinct_put by_pair decides_pairs d s.dispatchers v.pairs_distinct;
      each_dispatcher = every_put by_pair d s.dispatchers (moved d w) (λ x m. moved x (v.each_dispatcher x m));
    }
  where
    moved : (x : Dispatcher) → ValidDispatcher s x → ValidDispatcher (put_dispatcher s d) x
    moved x = move_dispatcher s (put_dispatcher s d) x refl

    ring : (x : Consumer) → Memᴰ x s.consumers → Memᴰ x.id (dispatcher s x.pair).attached
        → Memᴰ x.id (dispatcher (put_dispatcher s d) x.pair).attached
    ring x m r =
        subst (λ (y : Dispatcher). Memᴰ x.id y.attached) (sym (dispatcher_put s d x.pair))
        (by_test (same_pair x.pair d.pair)
        (λ t. rw t (stays x m (subst (λ (p : Pair). Memᴰ x.id (dispatcher s p).attached) (decides_pairs.equal x.pair d.pair t) r)))
        (λ t. rw t r))

-- what holds of the dispatcher of a pair: of one that is found, and of the new one where none is
pub dispatcher_cases : (P : Dispatcher → Type 0) (s : State) (p : Pair) → (dispatcher_of s p ≡ none → P (new_dispatcher p (length (ledger_of s p.topic))))
    → ((d : Dispatcher) → dispatcher_of s p ≡ some d → P d) → P (dispatcher s p)
unfolding dispatcher or_else
dispatcher_cases P s p new found = go (dispatcher_of s p) refl
  where
    go : (o : Option Dispatcher) → dispatcher_of s p ≡ o → P (or_else o (new_dispatcher p (length (ledger_of s p.topic))))
    go none e = new e
    go (some d) e = found d e

-- a dispatcher that is found is valid
pub found_valid : (s : State) (p : Pair) (d : Dispatcher) → Sound s → dispatcher_of s p ≡ some d → ValidDispatcher s d
unfolding dispatcher_of
found_valid s p d v e = v.each_dispatcher d (found_in by_pair p s.dispatchers d e)

-- a ring with somebody in it is the ring of a dispatcher that exists
pub ring_exists : (s : State) (p : Pair) (i : ℕ) → Memᴰ i (dispatcher s p).attached → is_some (dispatcher_of s p) ≡ true
unfolding is_some new_dispatcher
ring_exists s p i =
    dispatcher_cases (λ (d : Dispatcher). Memᴰ i d.attached → is_some (dispatcher_of s p) ≡ true) s p
    (λ e m. absurd (Memᴰ.not-nil m)) (λ d e m. rw e)

-- and so it is valid
pub ring_valid : (s : State) (p : Pair) (i : ℕ) → Sound s → Memᴰ i (dispatcher s p).attached → ValidDispatcher s (dispatcher s p)
unfolding new_dispatcher
ring_valid s p i v =
    dispatcher_cases (λ (d : Dispatcher). Memᴰ i d.attached → ValidDispatcher s d) s p
    (λ e m. absurd (Memᴰ.not-nil m)) (λ d e m. found_valid s p d v e)

-- an existing dispatcher's record replaced, its ring kept
pub sound_replace_dispatcher : (s : State) (p : Pair) (d : Dispatcher) (i : ℕ) → Sound s → d.pair ≡ p → Memᴰ i (dispatcher s p).attached
    → d.attached ≡ (dispatcher s p).attached → ValidDispatcher s d → Sound (put_dispatcher s d)
sound_replace_dispatcher s p d i v e m r w =
    sound_put_dispatcher s d v
    (λ f. absurd (true≢false (sym (ring_exists s p i m) ∙ (ap (λ (q : Pair). is_some (dispatcher_of s q)) (sym e) ∙ f))))
    (λ c k n. subst (λ (l : List ℕ). Memᴰ c.id l) (ap (λ (q : Pair). (dispatcher s q).attached) e ∙ sym r) n)
    w

-- the record of a live shared consumer's dispatcher replaced, its ring kept
pub sound_own_dispatcher : (s : State) (c : Consumer) (d : Dispatcher) → Sound s → ValidConsumer s c → c.kind ≡ shared
    → d.pair ≡ c.pair → d.attached ≡ (dispatcher s c.pair).attached → ValidDispatcher s d → Sound (put_dispatcher s d)
sound_own_dispatcher s c d v w k e r x = sound_replace_dispatcher s c.pair d c.id v e (w.shared_in_ring k) r x
