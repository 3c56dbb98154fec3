-- Push by plain numbers. While a dispatcher is served, a push only reads its ring, queue, ledger and marks, and changes
-- the consumers' permits and four numbers. `local_turn` is one turn on these alone, nothing written; what the turns hand
-- out are steps, from which records and entries in flight are read off. proofs/ shows that the rules' push is this.
use Rattle.std.specs.Prelude.{ℕ, zero, suc, ◌+◌, ◌-◌, cond, not, ◌||◌, List, [], ◌∷◌, map, ltb, length, get_or, set, take, drop}
use Rattle.std.proofs.Math.Option.{Option, none, some}
use Rattle.rules.specs.Permits.{above_zero}
use Rattle.rules.specs.Table.{is_empty}
use Rattle.rules.specs.State.{StoredMessage, Mark, Dispatcher, State, new_mark, by_id, ledger_of}
use Rattle.rules.specs.Ledger.{message_at}
use Rattle.rules.specs.Dispatcher.{cost}
use Rattle.rules.specs.Push.{slot_after}
use Rattle.store.specs.Find.{slot}

-- what a push only reads of a dispatcher: the ring as slots of the table of consumers, the queue, the ledger, the marks
pub record Fixed : Type 0 where
  pub ring : List ℕ
  pub queue : List ℕ
  pub ledger : List StoredMessage
  pub marks : List Mark

-- what it changes: permits by slot, the ring's next, the cursor, the total, how many were taken off the queue
pub record Local : Type 0 where
  pub permits : List ℕ
  pub next : ℕ
  pub cursor : ℕ
  pub total : ℕ
  pub taken : ℕ

-- one dispatch: the consumer's slot, the entry's position, its cost, the consumer's permits after it
pub record Step : Type 0 where
  pub consumer : ℕ
  pub position : ℕ
  pub price : ℕ
  pub permits : ℕ

-- what a turn comes to
pub data LocalTurn : Type 0 where
  stop : Local → LocalTurn
  move : Step → Local → LocalTurn

-- a place of the ring and the slot of the consumer there
pub record Place : Type 0 where
  pub place : ℕ
  pub consumer : ℕ

-- the first of some ring places whose consumer has permits above 0, counted from `k`; else what follows
unfoldable pub first_with_permits : List ℕ → ℕ → List ℕ → Option Place → Option Place
first_with_permits permits k [] more = more
first_with_permits permits k (c ∷ ring) more =
    cond (above_zero (get_or permits c 0)) (some (record { place = k; consumer = c }))
    (first_with_permits permits (suc k) ring more)

-- the first such place of the ring from next, going round
unfoldable pub choose_place : Fixed → Local → Option Place
choose_place f l =
    first_with_permits l.permits l.next (drop l.next f.ring)
    (first_with_permits l.permits 0 (take l.next f.ring) none)

-- the cost of the entry at a position
unfoldable pub price_of : Fixed → ℕ → ℕ
price_of f k = cost (message_at f.ledger k).batch_size (get_or f.marks k new_mark).acked.unacked

-- the entry at a position goes to the consumer in a slot; the numbers come with queue or cursor moved on
unfoldable pub hand_over : Fixed → List ℕ → ℕ → ℕ → ℕ → ℕ → ℕ → ℕ → LocalTurn
hand_over f permits next cursor total taken c k =
    let price = price_of f k in
    let left = get_or permits c 0 - price in
    move (record { consumer = c; position = k; price = price; permits = left })
    (record { permits = set permits c left; next = next; cursor = cursor; total = total - price; taken = taken })

-- queue first, then ledger; where neither has an entry the turn stops, with next moved all the same
unfoldable pub take_entry : Fixed → Local → ℕ → ℕ → LocalTurn
take_entry f l next c =
    cond (ltb l.taken (length f.queue))
    (hand_over f l.permits next l.cursor l.total (suc l.taken) c (get_or f.queue l.taken 0))
    (cond (ltb l.cursor (length f.ledger))
    (hand_over f l.permits next (suc l.cursor) l.total l.taken c l.cursor)
    (stop (record { permits = l.permits; next = next; cursor = l.cursor; total = l.total; taken = l.taken })))

-- a turn after the choice
unfoldable pub serve_place : Fixed → Local → Option Place → LocalTurn
serve_place f l none = stop l
serve_place f l (some r) = take_entry f l (slot_after r.place f.ring) r.consumer

-- one turn
unfoldable pub local_turn : Fixed → Local → LocalTurn
local_turn f l =
    cond (is_empty f.ring || not (above_zero l.total)) (stop l) (serve_place f l (choose_place f l))

-- the steps of some turns, and the numbers after them
pub record Steps : Type 0 where
  pub made : List Step
  pub after : Local

-- a turn, and what follows it
unfoldable pub then_turns : LocalTurn → (Local → Steps) → Steps
then_turns (stop l) more = record { made = []; after = l }
then_turns (move x l) more = let rest = more l in record { made = x ∷ rest.made; after = rest.after }

-- turns until one stops, at most n
unfoldable pub local_turns : ℕ → Fixed → Local → Steps
local_turns zero f l = record { made = []; after = l }
local_turns (suc n) f l = then_turns (local_turn f l) (λ (m : Local). local_turns n f m)

-- ---- of a state

-- what a push only reads of a dispatcher of a state
unfoldable pub fixed_of : State → Dispatcher → Fixed
fixed_of s d =
    record {
      ring = map (λ (i : ℕ). slot by_id i s.consumers) d.attached;
      queue = d.redelivery;
      ledger = ledger_of s d.pair.topic;
      marks = d.marks;
    }

-- the numbers at the start of its service, with the permits as they are then
unfoldable pub local_of : Dispatcher → List ℕ → Local
local_of d permits =
    record {
      permits = permits;
      next = d.next;
      cursor = d.cursor;
      total = d.total_available_permits;
      taken = 0;
    }

-- how many turns a dispatcher's service takes at most
unfoldable pub turns_of : State → Dispatcher → ℕ
turns_of s d = suc (length d.redelivery + (length (ledger_of s d.pair.topic) - d.cursor))

-- the steps of a dispatcher's service, from some permits
unfoldable pub served : State → Dispatcher → List ℕ → Steps
served s d permits = local_turns (turns_of s d) (fixed_of s d) (local_of d permits)
