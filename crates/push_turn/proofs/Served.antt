-- A dispatcher of a store that spells a state can be served; its service is all its turns from the numbers in the store.
use mathlib.Core.Path.{◌≡◌, refl, sym, ap}
use mathlib.Core.Bool.{true}
use mathlib.Core.List.Memᴰ
use mathlib.Core.List.{List, map}
use Prim.Native.Nat.{ℕ, suc, ◌+◌, ◌-◌, ◌≤◌, ◌<◌}
use native.Mathlib.Omega.{arith}
use lib.Dec.{ltb}
use lib.ListN.{length, length-map}
use borrow.Author.Tests.{ltb-true, ltb-false}
use Rattle.rules.specs.Table.{Every}
use Rattle.rules.specs.State.{StoredMessage, Held, Dispatcher, State, by_number, by_id, ledger_of}
use Rattle.rules.specs.Valid.{ValidTopic, ValidDispatcher}
use Rattle.rules.proofs.Table.{by_test}
use Rattle.rules.proofs.Kept.Every.{every_right}
use Rattle.layout.specs.Layout.{decode, spells}
use Rattle.layout.specs.Fields.{zero_topic, zero_dispatcher, dispatcher_nth}
use Rattle.layout.specs.Placed.{DispatcherIn}
use Rattle.layout.proofs.Placed.{topic_in, dispatcher_in}
use Rattle.store.specs.Find.{slot}
use Rattle.topic.proofs.Ledgers.{ledger_at, ledger_none}
use Rattle.operation_laws.proofs.Frame.{every_nth, valid_now, canon_of}
use Rattle.dispatcher.specs.Values.{head_of}
use Rattle.push_laws.specs.Local.{fixed_of, local_of, turns_of, local_turns, served}
use Rattle.push_turn.specs.declared.service.Served as places
use Rattle.push_turn.specs.Turns.{ServedHere, served_in, served_now, local_from, numbers_from}
use Rattle.push_turn.proofs.Left.{all_turns, made_few}

module _ (s : State) (topic : ℕ) where
  -- a ledger with entries is that of a topic that exists
  topic_exists : 0 < length (ledger_of s topic) → slot by_number topic s.topics < length s.topics
  topic_exists h =
      by_test (ltb (slot by_number topic s.topics) (length s.topics)) (λ t. ltb-true _ _ t)
      (λ t. let n = ap (λ (l : List StoredMessage). length l)
      (ledger_none s topic (ltb-false (slot by_number topic s.topics) (length s.topics) t)) in absurd (omega arith))

  -- the batches of a ledger are small
  batches_small : Every (ValidTopic s.entries) s.topics → Every (λ (m : StoredMessage). m.batch_size ≤ 256) (ledger_of s topic)
  batches_small v =
      by_test (ltb (slot by_number topic s.topics) (length s.topics))
      (λ t. let h = ltb-true (slot by_number topic s.topics) (length s.topics) t in
      rw (ledger_at s topic h) (λ m k. ((every_nth s.topics (slot by_number topic s.topics) zero_topic v h).each_message m k).batch_range))
      (λ t. rw (ledger_none s topic (ltb-false (slot by_number topic s.topics) (length s.topics) t)) (λ m k. absurd (Memᴰ.not-nil k)))

module _ {e d : ℕ} {ws : List ℕ} (here : DispatcherIn e ws d) (v : ValidDispatcher (decode ws) (dispatcher_nth (decode ws) d)) where
  -- a dispatcher that obeys the rules can be served
  pub serving_valid : Every (ValidTopic (decode ws).entries) (decode ws).topics → ServedHere (served_in (decode ws) e d) ws
  unfolding served_in
  serving_valid topics =
      let o = v.entry_marks.one_each in
      let b = v.cursor_in_ledger in
      let topic : ℕ = (dispatcher_nth (decode ws) d).pair.topic in
      record {
        here = here;
        ledger_length = refl;
        topic_here = λ h. topic_in here.canon _ (topic_exists (decode ws) topic h);
        ledger_here = λ h. sym (ledger_at (decode ws) topic (topic_exists (decode ws) topic h));
        one_mark_each = omega arith;
        batches = batches_small (decode ws) topic topics;
        queue_in_ledger = λ k i. let l = every_right (map (λ (h : Held). h.position) (dispatcher_nth (decode ws) d).in_flight)
            (dispatcher_nth (decode ws) d).redelivery v.places.places_below_cursor k i in omega arith;
        cursor_in_ledger = omega arith;
      }

  -- next lies in the ring
  pub next_valid : (dispatcher_nth (decode ws) d).next ≤ length (dispatcher_nth (decode ws) d).attached
  next_valid =
      by_test (ltb 0 (length (dispatcher_nth (decode ws) d).attached))
      (λ t. let h = v.ring.next_in_range (ltb-true 0 (length (dispatcher_nth (decode ws) d).attached) t) in omega arith)
      (λ t. let g = ltb-false 0 (length (dispatcher_nth (decode ws) d).attached) t in let h = v.ring.next_if_empty (omega arith) in omega arith)

module _ (ws : List ℕ) (d : ℕ) (spelt : spells ws ≡ true) (there : d < length (decode ws).dispatchers) where
  -- the dispatcher is valid
  pub served_valid : ValidDispatcher (decode ws) (dispatcher_nth (decode ws) d)
  served_valid = every_nth (decode ws).dispatchers d zero_dispatcher (valid_now ws spelt).tables.each_dispatcher there

  -- it can be served
  pub serving_now : (e : ℕ) → e ≡ (decode ws).entries → ServedHere (served_in (decode ws) e d) ws
  serving_now e E = serving_valid (dispatcher_in (canon_of e ws spelt E) d there) served_valid (valid_now ws spelt).tables.each_topic

  -- it is there, and its ring is short
  pub served_here : (e : ℕ) → e ≡ (decode ws).entries → DispatcherIn e ws d
  served_here e E = dispatcher_in (canon_of e ws spelt E) d there

  pub ring_short : (e : ℕ) → e ≡ (decode ws).entries → length (dispatcher_nth (decode ws) d).attached ≤ 32
  ring_short e E = (served_here e E).lists_fit.ring_fits

  -- what is looked up is it
  pub serving_found : (e : ℕ) → e ≡ (decode ws).entries → (x : places.Served) → x ≡ served_in (decode ws) e d → ServedHere x ws
  serving_found e E x q = rw q (serving_now e E)

  -- next lies in the ring
  pub next_in_ring : (e : ℕ) → e ≡ (decode ws).entries → (dispatcher_nth (decode ws) d).next ≤ length (dispatcher_nth (decode ws) d).attached
  next_in_ring e E = next_valid (dispatcher_in (canon_of e ws spelt E) d there) served_valid

-- a dispatcher that is looked up lies where it was looked for
pub found_at : (s : State) (e d : ℕ) {x : places.Served} → x ≡ served_in s e d → x.d ≡ d
unfolding served_in
found_at s e d q = ap (λ (y : places.Served). y.d) q

-- a service has at most a step for each entry of the queue and the ledger, and one more turn
pub served_few : {x : places.Served} {ws : List ℕ} (permits : List ℕ) → ServedHere x ws → length (served_now ws x.d permits).made ≤ 8193
unfolding served turns_of
served_few {x} {ws} permits h =
    let f = made_few (turns_of (decode ws) (dispatcher_nth (decode ws) x.d)) (fixed_of (decode ws) (dispatcher_nth (decode ws) x.d))
    (local_of (dispatcher_nth (decode ws) x.d) permits) in
    let q = h.here.lists_fit.queue_fits in
    let m = h.here.lists_fit.marks_fit in
    let o = h.one_mark_each in
    let l = h.ledger_length in
    let b = h.here.canon.E_to in
    omega arith

-- and so has that of a dispatcher of a store that spells a state
pub served_small : (ws : List ℕ) (d : ℕ) → spells ws ≡ true → d < length (decode ws).dispatchers → (e : ℕ) → e ≡ (decode ws).entries → (permits : List ℕ)
    → length (served_now ws d permits).made ≤ 8193
unfolding served_in
served_small ws d spelt there e E permits = served_few {x = served_in (decode ws) e d} permits (serving_now ws d spelt there e E)

-- a ring as slots is as long as the ring
pub ring_length : (s : State) (d : Dispatcher) → length (fixed_of s d).ring ≡ length d.attached
unfolding fixed_of
ring_length s d = length-map d.attached (λ (i : ℕ). slot by_id i s.consumers)

module _ (s : State) (d : Dispatcher) (permits : List ℕ) where
  -- the numbers at the start are those in the store
  pub start_numbers : local_from permits (numbers_from (head_of d)) ≡ local_of d permits
  unfolding local_from numbers_from head_of local_of
  start_numbers = refl

  -- a service is all the turns from there
  pub served_turns : served s d permits ≡ all_turns (fixed_of s d) (local_from permits (numbers_from (head_of d)))
  unfolding served turns_of local_from numbers_from head_of local_of fixed_of
  served_turns =
      let n : suc (length d.redelivery + (length (ledger_of s d.pair.topic) - d.cursor))
      ≡ suc (length d.redelivery - 0 + (length (ledger_of s d.pair.topic) - d.cursor)) = omega arith in
      ap (λ (k : ℕ). local_turns k (fixed_of s d) (local_of d permits)) n
