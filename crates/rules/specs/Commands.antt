-- The seven commands: the arms of `handle_frame` in broker.rs. Each has its refusals in document 01's order, before any
-- change.
use Rattle.std.specs.Prelude.{ℕ, suc, ◌+◌, ◌-◌, ◌%◌, ◌^◌, min, Bool, true, false, cond, not, ◌&&◌, List, [], ◌∷◌, ◌++◌, map, eqb, leb, ltb, length, set}
use Rattle.std.proofs.Math.Option.{Option, none, some}
use Rattle.rules.specs.Permits.{zero_permits, less, most_permits, most_total, total_in_range}
use Rattle.rules.specs.Table.{put, keep, any, member, is_empty, is_some}
use Rattle.rules.specs.State.{Id, same_id, StoredMessage, Pair, Kind, by_kind, Consumer, Mark, Held, Dispatcher, State, completed, unacknowledged}
use Rattle.rules.specs.State.{by_number, topic_of, consumer_of, dispatcher_of, ledger_of, dispatcher, with_topics, with_consumers, with_dispatchers}
use Rattle.rules.specs.State.{put_consumer, put_dispatcher}
use Rattle.rules.specs.Ledger.{position_of, holds_id, seek_position, appended}
use Rattle.rules.specs.Dispatcher.{with_attached, with_next, with_total, with_places, with_marks, held_by, without_holder, is_hold, mark_at, is_outside}
use Rattle.rules.specs.Dispatcher.{ack_id, drop_complete, advance_mark_delete}
use Rattle.rules.specs.Groups.{Group, groups}
use Rattle.rules.specs.Outcome.{Outcome, guard, with_live}
use Rattle.rules.specs.Outcome.Outcome.{refused, done}
use Rattle.rules.specs.Outcome.Value.{nothing, permits_after, mark_delete_after, cursor_after, closed}

-- ---- append

-- a dispatcher of the topic gains a mark at its end. A complete outside id now in the ledger stays complete and frees its
-- place.
unfoldable pub with_new_entry : ℕ → Id → Dispatcher → Dispatcher
with_new_entry topic i d =
    cond (eqb topic d.pair.topic)
    (with_marks d
    (d.marks ++ record { acked = cond (is_outside i d) completed unacknowledged; redelivery_count = 0 } ∷ [])
    (keep (λ (j : Id). not (same_id i j)) d.outside))
    d

-- 8 if the batch size is not 0 to 256. 7 if the topic holds that id. 5 if the topic is new and 8 exist. 6 if it has E
-- entries.
unfoldable pub append : State → ℕ → StoredMessage → Outcome
append s topic m =
    guard (ltb 256 m.batch_size) 8
    (guard (holds_id m.id (ledger_of s topic)) 7
    (guard (not (is_some (topic_of s topic)) && leb 8 (length s.topics)) 5
    (guard (leb s.entries (length (ledger_of s topic))) 6
    (done nothing
    (with_dispatchers
    (with_topics s
    (put by_number (appended m (record { number = topic; messages = ledger_of s topic })) s.topics))
    (map (with_new_entry topic m.id) s.dispatchers))))))

-- ---- subscribe

-- a consumer as a subscribe makes it
unfoldable pub new_consumer : ℕ → Kind → Pair → Consumer
new_consumer i kind p =
    record { id = i; pair = p; kind = kind; permits = zero_permits; cursor = 0; nacked = [] }

-- a dispatcher with a consumer in its ring: at the end, if it is not in it yet
unfoldable pub joined : ℕ → Dispatcher → Dispatcher
joined i d = cond (member i d.attached) d (with_attached d (d.attached ++ i ∷ []))

-- done if live and no-op. 12 if the id is not live and 32 are. 13 if shared, a new pair, and 8 exist. 14 if shared, the id
-- is not in that ring and it has 32.
unfoldable pub subscribe : State → ℕ → Kind → Pair → Outcome
subscribe s i kind p =
    cond (is_some (consumer_of s i) && s.live_id_subscribe_is_noop)
    (done nothing s)
    (guard (not (is_some (consumer_of s i)) && leb 32 (length s.consumers)) 12
    (by_kind kind
    (done nothing (put_consumer s (new_consumer i kind p)))
    (guard (not (is_some (dispatcher_of s p)) && leb 8 (length s.dispatchers)) 13
    (guard (not (member i (dispatcher s p).attached) && leb 32 (length (dispatcher s p).attached)) 14
    (done nothing (put_dispatcher (put_consumer s (new_consumer i kind p)) (joined i (dispatcher s p))))))))

-- ---- flow

-- a consumer with other permits
unfoldable pub with_permits : Consumer → ℕ → Consumer
with_permits c n =
    record { id = c.id; pair = c.pair; kind = c.kind; permits = n; cursor = c.cursor; nacked = c.nacked }

-- 4 if not live. 9 if the consumer would pass 2^40 or the dispatcher 2^60.
unfoldable pub flow : State → ℕ → ℕ → Outcome
flow s i grant =
    with_live s i (λ (c : Consumer).
    let d = dispatcher s c.pair in
    guard (ltb most_permits (c.permits + grant)) 9
    (by_kind c.kind
    (done (permits_after (c.permits + grant)) (put_consumer s (with_permits c (c.permits + grant))))
    (guard (ltb most_total (d.total_available_permits + grant)) 9
    (done (permits_after (c.permits + grant))
    (put_dispatcher (put_consumer s (with_permits c (c.permits + grant)))
    (with_total d (d.total_available_permits + grant)))))))

-- ---- ack

-- each id of the list acknowledged, in order
unfoldable pub ack_groups : List StoredMessage → Dispatcher → List Group → Dispatcher
ack_groups ledger d [] = d
ack_groups ledger d (g ∷ gs) = ack_groups ledger (ack_id ledger d g.id g.words) gs

-- a shared ack, its list read: 11 if outside complete ids would pass 64. Afterwards the acker alone drops its complete
-- entries; then mark-delete advances.
unfoldable pub ack_shared : State → ℕ → Dispatcher → List Group → Outcome
ack_shared s i d gs =
    let acked = ack_groups (ledger_of s d.pair.topic) d gs in
    let after = advance_mark_delete (drop_complete i acked) in
    guard (ltb 64 (length acked.outside)) 11
    (done (mark_delete_after after.mark_delete (not (eqb d.mark_delete after.mark_delete)))
    (put_dispatcher s after))

-- what is done with the groups of a list, or refusal 10
unfoldable pub with_groups : Option (List Group) → (List Group → Outcome) → Outcome
with_groups none f = refused 10
with_groups (some gs) f = f gs

-- 4 if not live. 10 unless the list is of the form. A plain ack changes nothing.
unfoldable pub ack : State → ℕ → List ℕ → Outcome
ack s i list =
    with_live s i (λ (c : Consumer).
    with_groups (groups list) (λ (gs : List Group).
    by_kind c.kind
    (done (mark_delete_after 0 false) s)
    (ack_shared s i (dispatcher s c.pair) gs)))

-- ---- seek

-- where a seek goes: the start, or a message id
pub data Target : Type 0 where
  start : Target
  to_id : Id → Target

-- the position of a target in a ledger: the start is 0
unfoldable pub target_position : List StoredMessage → Target → ℕ
target_position ledger start = 0
target_position ledger (to_id i) = seek_position i ledger

-- a consumer with another cursor and other nacked entries
unfoldable pub with_reading : Consumer → ℕ → List ℕ → Consumer
with_reading c n nacked =
    record { id = c.id; pair = c.pair; kind = c.kind; permits = c.permits; cursor = n; nacked = nacked }

-- 4 if not live. Nacked is cleared; a shared consumer's dispatcher doesn't move.
unfoldable pub seek : State → ℕ → Target → Outcome
seek s i target =
    with_live s i (λ (c : Consumer).
    let k = target_position (ledger_of s c.pair.topic) target in
    done (cursor_after k) (put_consumer s (with_reading c k [])))

-- ---- redeliver

-- a mark with its redelivery count raised by 1, stopping at 2 ^ 32 - 1
unfoldable pub raised : Mark → Mark
raised m = record { acked = m.acked; redelivery_count = min (suc m.redelivery_count) (2 ^ 32 - 1) }

-- an id that the sender holds goes to the queue's end and its count rises
unfoldable pub redeliver_id : List StoredMessage → ℕ → Dispatcher → Id → Dispatcher
redeliver_id ledger i d j =
    let k = position_of j ledger in
    cond (any (is_hold i k) d.in_flight)
    (with_marks
    (with_places d (d.redelivery ++ k ∷ []) (keep (λ (h : Held). not (is_hold i k h)) d.in_flight))
    (set d.marks k (raised (mark_at d k)))
    d.outside)
    d

-- each id of the list handed back, in order
unfoldable pub redeliver_groups : List StoredMessage → ℕ → Dispatcher → List Group → Dispatcher
redeliver_groups ledger i d [] = d
redeliver_groups ledger i d (g ∷ gs) = redeliver_groups ledger i (redeliver_id ledger i d g.id) gs

-- the positions of the ids that are in the ledger, repeats included
unfoldable pub found_positions : List StoredMessage → List Group → List ℕ
found_positions ledger [] = []
found_positions ledger (g ∷ gs) =
    let rest = found_positions ledger gs in
    cond (holds_id g.id ledger) (position_of g.id ledger ∷ rest) rest

-- a plain redeliver: found entries join nacked. 11 if nacked would pass 64.
unfoldable pub redeliver_plain : State → Consumer → List Group → Outcome
redeliver_plain s c gs =
    let nacked = c.nacked ++ found_positions (ledger_of s c.pair.topic) gs in
    guard (ltb 64 (length nacked)) 11 (done nothing (put_consumer s (with_reading c c.cursor nacked)))

-- 4 if not live. 10 unless the list is of the form. Words are ignored.
unfoldable pub redeliver : State → ℕ → List ℕ → Outcome
redeliver s i list =
    with_live s i (λ (c : Consumer).
    with_groups (groups list) (λ (gs : List Group).
    by_kind c.kind
    (redeliver_plain s c gs)
    (done nothing
    (put_dispatcher s
    (redeliver_groups (ledger_of s c.pair.topic) i (dispatcher s c.pair) gs)))))

-- ---- close

-- a total that loses a consumer's permits, twice with the leak switch
unfoldable pub total_after_close : Bool → ℕ → ℕ → ℕ
total_after_close leak total permits = cond leak (less (less total permits) permits) (less total permits)

-- next in a ring of n: 0 if it is empty, else reduced modulo its length
unfoldable pub next_in_ring : ℕ → List ℕ → ℕ
next_in_ring next ring = cond (is_empty ring) 0 (next % length ring)

-- a dispatcher that a consumer leaves: out of the ring, and what it held joins the queue's end in held order, with counts
-- unchanged
unfoldable pub left_by : ℕ → ℕ → Dispatcher → Dispatcher
left_by i total d =
    let ring = keep (λ (j : ℕ). not (eqb i j)) d.attached in
    with_total
    (with_places (with_next (with_attached d ring) (next_in_ring d.next ring))
    (d.redelivery ++ held_by i d.in_flight)
    (without_holder i d.in_flight))
    total

-- a state without a consumer
unfoldable pub without_consumer : State → ℕ → State
without_consumer s i = with_consumers s (keep (λ (c : Consumer). not (eqb i c.id)) s.consumers)

-- the close of a live consumer: 9 if the dispatcher would leave ±2^60
unfoldable pub close_consumer : State → Consumer → Outcome
close_consumer s c =
    let d = dispatcher s c.pair in
    let total = total_after_close s.leak_shared_permits_on_churn d.total_available_permits c.permits in
    by_kind c.kind
    (done (closed true) (without_consumer s c.id))
    (guard (not (total_in_range total)) 9
    (done (closed true) (put_dispatcher (without_consumer s c.id) (left_by c.id total d))))

-- an id that is not live is done, none closed
unfoldable pub close_found : State → Option Consumer → Outcome
close_found s none = done (closed false) s
close_found s (some c) = close_consumer s c

-- the close of the consumer with an id
unfoldable pub close : State → ℕ → Outcome
close s i = close_found s (consumer_of s i)
