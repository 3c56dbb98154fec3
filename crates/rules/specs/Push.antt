-- Push: `push_pending_shared` and the plain part of `push_pending` in broker.rs. One turn hands out at most one entry; a
-- dispatcher's turns go on until one halts, dispatchers come in the order in which they were made, then plain consumers
-- by ascending id. What the turns sent are the records, in dispatch order, and their number is the number due.
use Rattle.std.specs.Prelude.{ℕ, zero, suc, ◌+◌, ◌-◌, ◌%◌, ◌^◌, false, cond, not, ◌||◌, List, [], ◌∷◌, ◌++◌, map, eqb, leb, ltb, length, get_or, take, drop}
use Rattle.std.proofs.Math.Option.{Option, none, some}
use Rattle.bits.specs.Bits.{bits_empty, word_count}
use Rattle.bits.specs.Four.{words}
use Rattle.rules.specs.Permits.{above_zero}
use Rattle.rules.specs.Table.{is_empty}
use Rattle.rules.specs.State.{StoredMessage, Pair, by_kind, Consumer, Mark, Dispatcher, State, no_bits, consumer_of, ledger_of, dispatcher}
use Rattle.rules.specs.State.{put_consumer, put_dispatcher}
use Rattle.rules.specs.Ledger.{message_at}
use Rattle.rules.specs.Dispatcher.{with_next, with_cursor, with_total, with_places, mark_at, dispatch_gate_open, cost}
use Rattle.rules.specs.Outcome.{Dispatch, Outcome}
use Rattle.rules.specs.Outcome.Outcome.{short, done}
use Rattle.rules.specs.Outcome.Value.{dispatches}
use Rattle.rules.specs.Commands.{with_permits, with_reading}

-- ---- one turn of a dispatcher

-- what a turn comes to: nothing more to hand out, or one dispatch; each with the state after
pub data Turn : Type 0 where
  halt : State → Turn
  sent : Dispatch → State → Turn

-- a slot of the ring and the live consumer there
pub record Choice : Type 0 where
  pub slot : ℕ
  pub consumer : Consumer

-- a consumer with permits above 0, under any subscription, is chosen; else what follows
unfoldable pub choose_ready : ℕ → Option Consumer → Option Choice → Option Choice
choose_ready slot none more = more
choose_ready slot (some c) more = cond (above_zero c.permits) (some (record { slot = slot; consumer = c })) more

-- the first ready consumer of some ring ids, their slots counted from `slot`; else what follows
unfoldable pub first_ready : State → ℕ → List ℕ → Option Choice → Option Choice
first_ready s slot [] more = more
first_ready s slot (i ∷ ring) more = choose_ready slot (consumer_of s i) (first_ready s (suc slot) ring more)

-- the first ready consumer of the ring from next, going round
unfoldable pub choose : State → Dispatcher → Option Choice
choose s d =
    first_ready s d.next (drop d.next d.attached) (first_ready s 0 (take d.next d.attached) none)

-- the slot just after one, going round
unfoldable pub slot_after : ℕ → List ℕ → ℕ
slot_after slot ring = cond (eqb (suc slot) (length ring)) 0 (suc slot)

-- the record of a dispatch at a cost; with stored bits it has as many words as the batch takes, else none
unfoldable pub dispatch_of : Consumer → StoredMessage → Mark → ℕ → Dispatch
dispatch_of c m mark price =
    record {
      consumer = c.id;
      message = m;
      ack_set_words = cond (bits_empty (words mark.acked.unacked)) 0 (word_count m.batch_size);
      ack_set = mark.acked.unacked;
      redelivery_count = mark.redelivery_count;
      cost = price;
      permits = c.permits - price;
    }

-- the entry at a position goes to a consumer: it joins the end of what the consumer holds, and its cost leaves the
-- consumer's and the dispatcher's permits
unfoldable pub hand_out : State → Consumer → Dispatcher → ℕ → Turn
hand_out s c d k =
    let m = message_at (ledger_of s d.pair.topic) k in
    let price = cost m.batch_size (mark_at d k).acked.unacked in
    sent (dispatch_of c m (mark_at d k) price)
    (put_dispatcher (put_consumer s (with_permits c (c.permits - price)))
    (with_total
    (with_places d d.redelivery (d.in_flight ++ record { holder = c.id; position = k } ∷ []))
    (d.total_available_permits - price)))

-- queue first, taking the entry off its front, then ledger, moving the cursor on by 1. Where neither has one, the turn
-- halts with the dispatcher's next moved all the same.
unfoldable pub hand_out_next : State → Consumer → Dispatcher → List ℕ → Turn
hand_out_next s c d [] =
    cond (ltb d.cursor (length (ledger_of s d.pair.topic)))
    (hand_out s c (with_cursor d (suc d.cursor)) d.cursor)
    (halt (put_dispatcher s d))
hand_out_next s c d (k ∷ queue) = hand_out s c (with_places d queue d.in_flight) k

-- next is set just after the chosen slot, even if no entry follows
unfoldable pub serve_choice : State → Dispatcher → Option Choice → Turn
serve_choice s d none = halt s
serve_choice s d (some choice) =
    hand_out_next s choice.consumer (with_next d (slot_after choice.slot d.attached)) d.redelivery

-- one turn of a pair's dispatcher, while ring and total allow
unfoldable pub shared_turn : Pair → State → Turn
shared_turn p s =
    let d = dispatcher s p in
    cond (is_empty d.attached || not (dispatch_gate_open d)) (halt s) (serve_choice s d (choose s d))

-- ---- one turn of a plain consumer

-- the entry at a position goes to a plain consumer, at cost 1, with no ack set and count 0
unfoldable pub send_plain : State → Consumer → ℕ → Turn
send_plain s c k =
    sent
    (record {
      consumer = c.id;
      message = message_at (ledger_of s c.pair.topic) k;
      ack_set_words = 0;
      ack_set = no_bits;
      redelivery_count = 0;
      cost = 1;
      permits = c.permits - 1;
    })
    (put_consumer s (with_permits c (c.permits - 1)))

-- nacked, then ledger
unfoldable pub send_plain_next : State → Consumer → List ℕ → Turn
send_plain_next s c [] =
    cond (ltb c.cursor (length (ledger_of s c.pair.topic)))
    (send_plain s (with_reading c (suc c.cursor) []) c.cursor)
    (halt s)
send_plain_next s c (k ∷ nacked) = send_plain s (with_reading c c.cursor nacked) k

-- one turn of a consumer that was found: a plain one with permits above 0 is served
unfoldable pub plain_turn_of : State → Option Consumer → Turn
plain_turn_of s none = halt s
plain_turn_of s (some c) =
    cond (by_kind c.kind (above_zero c.permits) false) (send_plain_next s c c.nacked) (halt s)

-- one turn of the consumer with an id
unfoldable pub plain_turn : ℕ → State → Turn
plain_turn i s = plain_turn_of s (consumer_of s i)

-- ---- turns after turns

-- what was sent, in dispatch order, and the state after
pub record Pushed : Type 0 where
  pub dispatched : List Dispatch
  pub state : State

-- a turn, and what follows it
unfoldable pub after_turn : Turn → (State → Pushed) → Pushed
after_turn (halt s) more = record { dispatched = []; state = s }
after_turn (sent x s) more = let rest = more s in record { dispatched = x ∷ rest.dispatched; state = rest.state }

-- turns until one halts, at most n
unfoldable pub turns : ℕ → (State → Turn) → State → Pushed
turns zero turn s = record { dispatched = []; state = s }
turns (suc n) turn s = after_turn (turn s) (λ (t : State). turns n turn t)

-- a pair's dispatcher served: each turn but the last takes an entry of the queue or of the ledger
unfoldable pub serve_dispatcher : State → Pair → Pushed
serve_dispatcher s p =
    let d = dispatcher s p in
    turns (suc (length d.redelivery + (length (ledger_of s p.topic) - d.cursor))) (shared_turn p) s

-- how many entries a plain consumer could be sent at most
unfoldable pub plain_backlog : State → Option Consumer → ℕ
plain_backlog s none = 0
plain_backlog s (some c) = length c.nacked + (length (ledger_of s c.pair.topic) - c.cursor)

-- a plain consumer served
unfoldable pub serve_plain : State → ℕ → Pushed
serve_plain s i = turns (suc (plain_backlog s (consumer_of s i))) (plain_turn i) s

-- each of some served, in order
unfoldable pub serve_each : {K : Type 0} → (State → K → Pushed) → List K → State → Pushed
serve_each serve [] s = record { dispatched = []; state = s }
serve_each serve (k ∷ ks) s =
    let first = serve s k in
    let rest = serve_each serve ks first.state in
    record { dispatched = first.dispatched ++ rest.dispatched; state = rest.state }

-- the shared part, dispatchers by creation
unfoldable pub push_pending_shared : State → Pushed
push_pending_shared s = serve_each serve_dispatcher (map (λ (d : Dispatcher). d.pair) s.dispatchers) s

-- the shared part, then plain consumers by ascending id
unfoldable pub push_pending : State → Pushed
push_pending s =
    let shared_part = push_pending_shared s in
    let plain_part = serve_each serve_plain (map (λ (c : Consumer). c.id) s.consumers) shared_part.state in
    record { dispatched = shared_part.dispatched ++ plain_part.dispatched; state = plain_part.state }

-- 15 with the number due if more dispatches are due than the list holds
unfoldable pub push : State → ℕ → Outcome
push s room =
    let all = push_pending s in
    cond (leb (length all.dispatched) room)
    (done (dispatches all.dispatched) all.state)
    (short (length all.dispatched))

-- ---- records in words

-- a record in flat words: 13, permits in two's complement
unfoldable pub flat : Dispatch → List ℕ
flat x =
    x.consumer ∷ x.message.id.ledger ∷ x.message.id.entry ∷ x.message.handle ∷ x.message.batch_size
    ∷ x.ack_set_words ∷ x.ack_set.w0 ∷ x.ack_set.w1 ∷ x.ack_set.w2 ∷ x.ack_set.w3
    ∷ x.redelivery_count ∷ x.cost ∷ (x.permits + (2 ^ 64 - 2 ^ 62)) % 2 ^ 64 ∷ []

-- records in flat words, one after the other
unfoldable pub flat_records : List Dispatch → List ℕ
flat_records [] = []
flat_records (x ∷ l) = flat x ++ flat_records l

-- the record that 13 words spell, the first ones of some words
unfoldable pub record_read : List ℕ → Dispatch
record_read ws =
    record {
      consumer = get_or ws 0 0;
      message = record { id = record { ledger = get_or ws 1 0; entry = get_or ws 2 0 }; handle = get_or ws 3 0; batch_size = get_or ws 4 0 };
      ack_set_words = get_or ws 5 0;
      ack_set = record { w0 = get_or ws 6 0; w1 = get_or ws 7 0; w2 = get_or ws 8 0; w3 = get_or ws 9 0 };
      redelivery_count = get_or ws 10 0;
      cost = get_or ws 11 0;
      permits = (get_or ws 12 0 + 2 ^ 62) % 2 ^ 64;
    }

-- the first n records that words spell
unfoldable pub records_read : ℕ → List ℕ → List Dispatch
records_read zero ws = []
records_read (suc n) ws = record_read ws ∷ records_read n (drop 13 ws)
