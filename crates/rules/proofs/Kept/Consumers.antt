-- Flow, seek and subscribe keep a state sound, and so does what a plain redeliver changes.
use Prim.Native.Nat.{ℕ, ◌+◌, ◌^◌, ◌≤◌, ◌<◌}
use mathlib.Core.Path.{◌≡◌, refl, sym, ◌∙◌, subst}
use mathlib.Core.Bool.{true, false, ◌&&◌}
use mathlib.Core.List.Memᴰ
use mathlib.Core.List.{List, [], ◌∷◌, ◌++◌, Memᴰ}
use mathlib.Core.Option.{some}
use native.Mathlib.Omega.{arith}
use lib.Dec.{eqb}
use lib.ListN.{length, length-append}
use borrow.Author.Tests.{ltb-false}
use Rattle.rules.specs.Permits.{least_permits, most_permits, most_total}
use Rattle.rules.specs.Table.{Every, member, is_some}
use Rattle.rules.specs.State.{StoredMessage, Pair, Kind, Consumer, Dispatcher, State, consumer_of, dispatcher_of, ledger_of, dispatcher, with_consumers, with_dispatchers, put_consumer, put_dispatcher}
use Rattle.rules.specs.State.Kind.{shared}
use Rattle.rules.specs.Dispatcher.{with_attached, with_total}
use Rattle.rules.specs.Commands.{new_consumer, joined, subscribe, with_permits, flow, Target, target_position, with_reading, seek}
use Rattle.rules.specs.Commands.Target.{start, to_id}
use Rattle.rules.specs.Calls.{fits}
use Rattle.rules.specs.Calls.Call.{Subscribe}
use Rattle.rules.specs.Valid.{ValidConsumer, ValidDispatcher, Sound}
use Rattle.rules.proofs.Says.{says_and, says_member}
use Rattle.rules.proofs.Valid.{says_byte, says_word}
use Rattle.rules.proofs.Table.{by_test, decides_numbers}
use Rattle.rules.proofs.State.{decides_pairs, dispatcher_pair, dispatcher_put}
use Rattle.rules.proofs.Ledger.{seek_position_le}
use Rattle.rules.proofs.Kept.Every.{every_snoc, distinct_snoc, fails_on_each}
use Rattle.rules.proofs.Kept.Frame.{consumer_valid, sound_put_consumer, sound_replace_consumer, sound_put_dispatcher, sound_own_dispatcher}
use Rattle.rules.proofs.Kept.Parts.{Ring, ring_of, next_most, valid_with_total, valid_with_attached, dispatcher_valid}
use Rattle.rules.proofs.Kept.Outcomes.{Keeps, keeps_guard, keeps_live, keeps_kind, plain_not_shared, room_left}

-- ---- a consumer with other permits, or with another cursor and other nacked entries

module _ (s : State) (c : Consumer) (v : ValidConsumer s c) where
  -- other permits in their range
  pub valid_with_permits : (n : ℕ) → least_permits ≤ n → n ≤ most_permits → ValidConsumer s (with_permits c n)
  unfolding with_permits
  valid_with_permits n h k =
      record {
        id_word = v.id_word;
        topic_byte = v.topic_byte;
        subscription_byte = v.subscription_byte;
        permits_from = h;
        permits_to = k;
        cursor_in_ledger = v.cursor_in_ledger;
        nacked_count = v.nacked_count;
        nacked_in_ledger = v.nacked_in_ledger;
        shared_in_ring = v.shared_in_ring;
      }

  -- another cursor and other nacked entries of the ledger
  pub valid_with_reading : (n : ℕ) (nacked : List ℕ) → n ≤ length (ledger_of s c.pair.topic) → length nacked ≤ 64
      → Every (λ (k : ℕ). k < length (ledger_of s c.pair.topic)) nacked → ValidConsumer s (with_reading c n nacked)
  unfolding with_reading
  valid_with_reading n nacked h k g =
      record {
        id_word = v.id_word;
        topic_byte = v.topic_byte;
        subscription_byte = v.subscription_byte;
        permits_from = v.permits_from;
        permits_to = v.permits_to;
        cursor_in_ledger = h;
        nacked_count = k;
        nacked_in_ledger = g;
        shared_in_ring = v.shared_in_ring;
      }

-- a consumer put after a dispatcher is the same as before it
pub put_either_way : (s : State) (c : Consumer) (d : Dispatcher) → put_consumer (put_dispatcher s d) c ≡ put_dispatcher (put_consumer s c) d
unfolding put_consumer put_dispatcher with_consumers with_dispatchers
put_either_way s c d = refl

-- a live consumer's permits changed, and with them a dispatcher
pub valid_charge : (s : State) (i : ℕ) (c : Consumer) (n : ℕ) (d : Dispatcher) → Sound (put_dispatcher s d) → consumer_of s i ≡ some c
    → least_permits ≤ n → n ≤ most_permits → Sound (put_dispatcher (put_consumer s (with_permits c n)) d)
unfolding consumer_of put_dispatcher with_dispatchers with_permits
valid_charge s i c n d v e h k =
    subst Sound (put_either_way s (with_permits c n) d)
    (sound_replace_consumer (put_dispatcher s d) i c (with_permits c n) v e refl
    (valid_with_permits (put_dispatcher s d) c (consumer_valid (put_dispatcher s d) i c v e) n h k))

-- ---- flow

-- any flow
pub flow_keeps : (s : State) (i grant : ℕ) → Sound s → Keeps Sound s (flow s i grant)
unfolding flow with_permits with_total
flow_keeps s i grant v =
    keeps_live Sound s v i _ (λ c e.
    let w : ValidConsumer s c = consumer_valid s i c v e in
    let d : Dispatcher = dispatcher s c.pair in
    keeps_guard Sound s v _ 9 _ (λ t.
    let most : c.permits + grant ≤ most_permits = ltb-false most_permits (c.permits + grant) t in
    let least : least_permits ≤ c.permits + grant = omega (arith, w.permits_from) in
    keeps_kind Sound s v c.kind _ _
    (λ k. sound_replace_consumer s i c (with_permits c (c.permits + grant)) v e refl (valid_with_permits s c w (c.permits + grant) least most))
    (λ k. keeps_guard Sound s v _ 9 _ (λ u.
    let x : ValidDispatcher s d = dispatcher_valid s c.pair v w.topic_byte w.subscription_byte in
    let d' : Dispatcher = with_total d (d.total_available_permits + grant) in
    valid_charge s i c (c.permits + grant) d'
    (sound_own_dispatcher s c d' v w k (dispatcher_pair s c.pair) refl
    (valid_with_total s d x (d.total_available_permits + grant) (omega (arith, x.total_from)) (ltb-false most_total (d.total_available_permits + grant) u)))
    e least most))))

-- ---- seek

-- a target's position is the ledger's length at most
target_in_ledger : (l : List StoredMessage) (target : Target) → target_position l target ≤ length l
unfolding target_position
target_in_ledger l start = omega arith
target_in_ledger l (to_id i) = seek_position_le i l

-- any seek
pub seek_keeps : (s : State) (i : ℕ) (target : Target) → Sound s → Keeps Sound s (seek s i target)
unfolding seek with_reading
seek_keeps s i target v =
    keeps_live Sound s v i _ (λ c e.
    let k : ℕ = target_position (ledger_of s c.pair.topic) target in
    sound_replace_consumer s i c (with_reading c k []) v e refl
    (valid_with_reading s c (consumer_valid s i c v e) k [] (target_in_ledger (ledger_of s c.pair.topic) target) (omega arith)
    (λ a m. absurd (Memᴰ.not-nil m))))

-- ---- subscribe

-- a ring that a new id joins
ring_joined : (i : ℕ) (ring : List ℕ) (next : ℕ) → i < 2 ^ 64 → member i ring ≡ false → length ring < 32 → Ring ring next → Ring (ring ++ i ∷ []) next
unfolding member
ring_joined i ring next h f n r =
    let e : length (ring ++ i ∷ []) ≡ length ring + 1 = length-append ring (i ∷ []) in
    record {
      small = omega arith;
      different = distinct_snoc decides_numbers ring i r.different (fails_on_each (eqb i) ring f);
      each_word = every_snoc {P = λ (j : ℕ). j < 2 ^ 64} ring i r.each_word h;
      next_below = λ z. let g = next_most ring next r in omega arith;
      next_zero = λ z. absurd (omega arith);
    }

module _ (s : State) (i : ℕ) (d : Dispatcher) where
  -- the pair stays
  pub joined_pair : (joined i d).pair ≡ d.pair
  unfolding joined with_attached
  joined_pair = by_test (member i d.attached) (λ t. rw t) (λ t. rw t)

  -- who was in the ring still is
  pub joined_others : (j : ℕ) → Memᴰ j d.attached → Memᴰ j (joined i d).attached
  unfolding joined with_attached
  joined_others j m = by_test (member i d.attached) (λ t. rw t m) (λ t. rw t (Memᴰ.append_left (i ∷ []) m))

  -- and so is the new one
  pub joined_self : Memᴰ i (joined i d).attached
  unfolding joined with_attached
  joined_self =
      by_test (member i d.attached)
      (λ t. rw t ((says_member i d.attached).gives t))
      (λ t. rw t (Memᴰ.append_right d.attached (Memᴰ.head refl)))

  -- a dispatcher that is joined is valid where there is room in its ring
  pub joined_valid : i < 2 ^ 64 → (member i d.attached ≡ false → length d.attached < 32) → ValidDispatcher s d → ValidDispatcher s (joined i d)
  unfolding joined
  joined_valid h room v =
      by_test (member i d.attached)
      (λ t. rw t v)
      (λ t. rw t (valid_with_attached s d v (d.attached ++ i ∷ []) (ring_joined i d.attached d.next h t (room t) (ring_of d v.ring))
      (λ j m. Memᴰ.append_left (i ∷ []) m)))

-- a new consumer, in the ring if it is shared
new_consumer_valid : (s : State) (i : ℕ) (kind : Kind) (p : Pair) → i < 2 ^ 64 → p.topic < 256 → p.subscription < 256
    → (kind ≡ shared → Memᴰ i (dispatcher s p).attached) → ValidConsumer s (new_consumer i kind p)
unfolding new_consumer
new_consumer_valid s i kind p h k g r =
    record {
      id_word = h;
      topic_byte = k;
      subscription_byte = g;
      permits_from = omega arith;
      permits_to = omega arith;
      cursor_in_ledger = omega arith;
      nacked_count = omega arith;
      nacked_in_ledger = λ a m. absurd (Memᴰ.not-nil m);
      shared_in_ring = r;
    }

module _ (s : State) (i : ℕ) (p : Pair) (v : Sound s) (word : i < 2 ^ 64) (topic : p.topic < 256) (subscription : p.subscription < 256)
    (pairs : is_some (dispatcher_of s p) ≡ false → length s.dispatchers < 8)
    (ring : member i (dispatcher s p).attached ≡ false → length (dispatcher s p).attached < 32) where
  -- the pair of the dispatcher that is joined
  its_pair : (joined i (dispatcher s p)).pair ≡ p
  its_pair = joined_pair s i (dispatcher s p) ∙ dispatcher_pair s p

  -- a dispatcher that is joined
  pub joined_keeps : Sound (put_dispatcher s (joined i (dispatcher s p)))
  joined_keeps =
      sound_put_dispatcher s (joined i (dispatcher s p)) v
      (λ f. pairs (rw its_pair at f))
      (λ c m r. joined_others s i (dispatcher s p) c.id (subst (λ (q : Pair). Memᴰ c.id (dispatcher s q).attached) its_pair r))
      (joined_valid s i (dispatcher s p) word ring (dispatcher_valid s p v topic subscription))

  -- the new one is in its ring
  its_ring : Memᴰ i (dispatcher (put_dispatcher s (joined i (dispatcher s p))) p).attached
  its_ring =
      subst (λ (x : Dispatcher). Memᴰ i x.attached) (sym (dispatcher_put s (joined i (dispatcher s p)) p))
      (rw (its_pair, decides_pairs.self p) (joined_self s i (dispatcher s p)))

  -- a new shared consumer with it
  pub new_shared_keeps : (is_some (consumer_of s i) ≡ false → length s.consumers < 32)
      → Sound (put_dispatcher (put_consumer s (new_consumer i shared p)) (joined i (dispatcher s p)))
  unfolding consumer_of put_dispatcher with_dispatchers new_consumer
  new_shared_keeps room =
      subst Sound (put_either_way s (new_consumer i shared p) (joined i (dispatcher s p)))
      (sound_put_consumer (put_dispatcher s (joined i (dispatcher s p))) (new_consumer i shared p) joined_keeps room
      (new_consumer_valid (put_dispatcher s (joined i (dispatcher s p))) i shared p word topic subscription (λ z. its_ring)))

-- any subscribe
pub subscribe_keeps : (s : State) (i : ℕ) (kind : Kind) (p : Pair) → Sound s → fits (Subscribe i kind p) ≡ true → Keeps Sound s (subscribe s i kind p)
unfolding fits subscribe new_consumer
subscribe_keeps s i kind p v f =
    let width = (says_and _ _ (says_and _ _ (says_word i) (says_byte p.topic)) (says_byte p.subscription)).gives f in
    by_test (is_some (consumer_of s i) && s.live_id_subscribe_is_noop)
    (λ x. rw x v)
    (λ x. rw x
    (keeps_guard Sound s v _ 12 _ (λ t.
    let room = room_left (is_some (consumer_of s i)) 32 (length s.consumers) t in
    keeps_kind Sound s v kind _ _
    (λ k.
    sound_put_consumer s (new_consumer i kind p) v room
    (new_consumer_valid s i kind p width.0.0 width.0.1 width.1 (λ z. absurd (plain_not_shared (sym k ∙ z)))))
    (λ k. keeps_guard Sound s v _ 13 _ (λ u. keeps_guard Sound s v _ 14 _ (λ w.
    rw k
    (new_shared_keeps s i p v width.0.0 width.0.1 width.1
    (room_left (is_some (dispatcher_of s p)) 8 (length s.dispatchers) u)
    (room_left (member i (dispatcher s p).attached) 32 (length (dispatcher s p).attached) w) room)))))))
