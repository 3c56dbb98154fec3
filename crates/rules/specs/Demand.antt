-- Demand 3, over histories and the book: no permit leaks, no message is lost or doubled. A single claim about the whole
-- list of calls. Its proof is proofs/Demand.antt.
use Rattle.std.specs.Prelude.{ℕ, ◌+◌, ◌≤◌, ◌<◌, ◌≡◌, Bool, true, false, not, ◌&&◌, length}
use mathlib.Core.List.{List, [], ◌∷◌, map, Memᴰ}
use Rattle.std.proofs.Math.IntN.{sub_ℕ}
use Rattle.rules.specs.Permits.{zero_permits, reading}
use Rattle.rules.specs.Table.{keep, member, count}
use Rattle.rules.specs.State.{Id, Pair, Held, Dispatcher, State}
use Rattle.rules.specs.Ledger.{position_of, holds_id, message_at}
use Rattle.rules.specs.Outcome.{Outcome}
use Rattle.rules.specs.Outcome.Outcome.{refused, short, done}
use Rattle.rules.specs.Calls.{Call, rule, state_after, opened}
use Rattle.rules.specs.Calls.Call.{Append, Subscribe, Flow, Ack, Seek, Redeliver, Close, Push}
use Rattle.rules.specs.Book.{Book, Who, empty_book, enter, told}
use Rattle.rules.specs.Book.Who.{away, live_plain, attached_to}

-- ---- histories with their book

-- a state and the book of the calls that led to it
pub record Reached : Type 0 where
  pub state : State
  pub book : Book

-- a store just opened, with the empty book
unfoldable pub at_opening : ℕ → Bool → Bool → Reached
at_opening e leak noop = record { state = opened e leak noop; book = empty_book }

-- after one more call
unfoldable pub after_call : Reached → Call → Reached
after_call r x =
    let outcome = rule r.state x in
    record { state = state_after r.state outcome; book = enter r.book x (told outcome) }

-- after a list of calls
unfoldable pub after_calls : Reached → List Call → Reached
after_calls r [] = r
after_calls r (x ∷ calls) = after_calls (after_call r x) calls

-- ---- the lists that demand 3 speaks of

-- whether the book has an id as live
unfoldable pub is_live : Who → Bool
is_live away = false
is_live live_plain = true
is_live (attached_to a) = true

-- whether an outcome is done
unfoldable pub is_done : Outcome → Bool
is_done (refused n) = false
is_done (short n) = false
is_done (done v s) = true

-- whether a call is a subscribe of an id that the book has as live
unfoldable pub subscribes_live : Book → Call → Bool
subscribes_live b (Append topic m) = false
subscribes_live b (Subscribe i kind p) = is_live (b.who i)
subscribes_live b (Flow i grant) = false
subscribes_live b (Ack i list) = false
subscribes_live b (Seek i target) = false
subscribes_live b (Redeliver i list) = false
subscribes_live b (Close i) = false
subscribes_live b (Push room) = false

-- whether a call is such a subscribe, done other than as a no-op
unfoldable pub replaces : Reached → Call → Bool
replaces r x =
    subscribes_live r.book x && is_done (rule r.state x) && not r.state.live_id_subscribe_is_noop

-- whether no call of a list is such a subscribe
unfoldable pub never_replaces : Reached → List Call → Bool
never_replaces r [] = true
never_replaces r (x ∷ calls) = not (replaces r x) && never_replaces (after_call r x) calls

-- ---- what holds afterwards

-- the grants of who an id is
unfoldable pub grants_of : Who → ℕ
grants_of away = 0
grants_of live_plain = 0
grants_of (attached_to a) = a.grants

-- the costs of who an id is
unfoldable pub costs_of : Who → ℕ
costs_of away = 0
costs_of live_plain = 0
costs_of (attached_to a) = a.costs

-- the sum of a figure over some ids
unfoldable pub sum_over : (Who → ℕ) → (ℕ → Who) → List ℕ → ℕ
sum_over figure who [] = 0
sum_over figure who (i ∷ ids) = figure (who i) + sum_over figure who ids

-- the positions that some consumers hold
unfoldable pub held_by_any : List ℕ → List Held → List ℕ
held_by_any ids held = map (λ (h : Held). h.position) (keep (λ (h : Held). member h.holder ids) held)

-- the id at a position of the book's list of a pair's topic
unfoldable pub id_at : Book → Pair → ℕ → Id
id_at b p k = (message_at (b.topics p.topic) k).id

-- what demand 3 says of a dispatcher
pub record NoLeak (b : Book) (d : Dispatcher) : Type 0 where
  -- the attached consumers by the book are exactly the ring
  pub ring : d.attached ≡ b.attached d.pair
  -- the total plus the costs of the attached consumers equals their grants
  pub balance :
      d.total_available_permits + sum_over costs_of b.who (b.attached d.pair)
      ≡ sum_over grants_of b.who (b.attached d.pair) + zero_permits
  -- the same as integers: the total is the grants less the costs
  pub balance_reading :
      reading d.total_available_permits
      ≡ sub_ℕ (sum_over grants_of b.who (b.attached d.pair)) (sum_over costs_of b.who (b.attached d.pair))
  -- each id that was handed out and is not complete is in the book's list of the topic
  pub in_list :
      (i : Id) → b.handed_out d.pair i ≡ true → (b.acked d.pair i).complete ≡ false
      → holds_id i (b.topics d.pair.topic) ≡ true
  -- and its position there stands exactly once, among what attached consumers hold and in the queue
  pub once :
      (i : Id) → b.handed_out d.pair i ≡ true → (b.acked d.pair i).complete ≡ false
      → count (position_of i (b.topics d.pair.topic)) (held_by_any (b.attached d.pair) d.in_flight)
      + count (position_of i (b.topics d.pair.topic)) d.redelivery
      ≡ 1
  -- every position below mark-delete is one of the list and complete
  pub mark_delete_in_list : d.mark_delete ≤ length (b.topics d.pair.topic)
  pub below_mark_delete : (k : ℕ) → k < d.mark_delete → (b.acked d.pair (id_at b d.pair k)).complete ≡ true

-- what demand 3 says of a state and its book: every permit and every message is accounted for (the customer's "a low
-- reading is honest")
pub record Accounted (r : Reached) : Type 0 where
  -- the dispatchers are exactly the pairs that shared subscribes made
  pub pairs : map (λ (d : Dispatcher). d.pair) r.state.dispatchers ≡ r.book.pairs
  pub dispatchers : (d : Dispatcher) → Memᴰ d r.state.dispatchers → NoLeak r.book d

-- demand 3: for every E, either no-op switch, leak off, and every list of calls in which no live id is replaced
unfoldable pub Demand3 : Type 0
Demand3 =
    (e : ℕ) (noop : Bool) (calls : List Call) → 1 ≤ e → e ≤ 4096 → never_replaces (at_opening e false noop) calls ≡ true
    → Accounted (after_calls (at_opening e false noop) calls)
