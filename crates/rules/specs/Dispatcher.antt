-- The dispatcher of a shared subscription: its ring, what consumers hold, its queue, completion, mark-delete, and the
-- check sum of its permits.
use Rattle.std.specs.Prelude.{ℕ, suc, ◌+◌, ◌-◌, max, Bool, false, cond, not, ◌&&◌, ◌||◌, List, [], ◌∷◌, map, eqb, ltb, length, get_or, set, drop}
use Rattle.std.proofs.Math.Option.{Option, none, some}
use Rattle.bits.specs.declared.UnackedBits.{UnackedBits}
use Rattle.bits.specs.Bits.{fresh_unacked_bits, and_into, bits_empty, bits_cardinality}
use Rattle.bits.specs.Four.{words, four}
use Rattle.rules.specs.Permits.{zero_permits, above_zero}
use Rattle.rules.specs.Table.{keep, any, is_empty}
use Rattle.rules.specs.State.{Id, same_id, StoredMessage, Pair, same_pair, by_kind, Consumer, Acked, Mark, Held, Dispatcher, State, completed, new_mark}
use Rattle.rules.specs.State.{consumer_of}
use Rattle.rules.specs.Ledger.{position_of, batch_size_of, insert_id}

-- ---- a dispatcher with some of its parts changed

-- the dispatcher of these parts
abbrev pub of_parts : Pair → List ℕ → ℕ → ℕ → ℕ → ℕ → List ℕ → List Held → List Mark → List Id → Dispatcher
of_parts pair ring next cursor mark_delete total queue held marks ids =
    record {
      pair = pair;
      attached = ring;
      next = next;
      cursor = cursor;
      mark_delete = mark_delete;
      total_available_permits = total;
      redelivery = queue;
      in_flight = held;
      marks = marks;
      outside = ids;
    }

-- another ring
unfoldable pub with_attached : Dispatcher → List ℕ → Dispatcher
with_attached d l =
    of_parts d.pair l d.next d.cursor d.mark_delete d.total_available_permits d.redelivery d.in_flight d.marks d.outside

-- another next slot
unfoldable pub with_next : Dispatcher → ℕ → Dispatcher
with_next d n =
    of_parts d.pair d.attached n d.cursor d.mark_delete d.total_available_permits d.redelivery d.in_flight d.marks d.outside

-- another cursor
unfoldable pub with_cursor : Dispatcher → ℕ → Dispatcher
with_cursor d n =
    of_parts d.pair d.attached d.next n d.mark_delete d.total_available_permits d.redelivery d.in_flight d.marks d.outside

-- another mark-delete
unfoldable pub with_mark_delete : Dispatcher → ℕ → Dispatcher
with_mark_delete d n =
    of_parts d.pair d.attached d.next d.cursor n d.total_available_permits d.redelivery d.in_flight d.marks d.outside

-- another total of permits
unfoldable pub with_total : Dispatcher → ℕ → Dispatcher
with_total d n = of_parts d.pair d.attached d.next d.cursor d.mark_delete n d.redelivery d.in_flight d.marks d.outside

-- another queue and other held entries
unfoldable pub with_places : Dispatcher → List ℕ → List Held → Dispatcher
with_places d queue held =
    of_parts d.pair d.attached d.next d.cursor d.mark_delete d.total_available_permits queue held d.marks d.outside

-- other marks and other complete ids outside the ledger
unfoldable pub with_marks : Dispatcher → List Mark → List Id → Dispatcher
with_marks d marks ids =
    of_parts d.pair d.attached d.next d.cursor d.mark_delete d.total_available_permits d.redelivery d.in_flight marks ids

-- ---- what consumers hold

-- the positions that a consumer holds, in dispatch order
unfoldable pub held_by : ℕ → List Held → List ℕ
held_by i held = map (λ (h : Held). h.position) (keep (λ (h : Held). eqb i h.holder) held)

-- what is in flight without a consumer's entries
unfoldable pub without_holder : ℕ → List Held → List Held
without_holder i held = keep (λ (h : Held). not (eqb i h.holder)) held

-- whether this is the consumer's hold on a position
unfoldable pub is_hold : ℕ → ℕ → Held → Bool
is_hold i k h = eqb i h.holder && eqb k h.position

-- ---- completion

-- the mark at a position
unfoldable pub mark_at : Dispatcher → ℕ → Mark
mark_at d k = get_or d.marks k new_mark

-- whether the entry at a position is complete
unfoldable pub complete_at : Dispatcher → ℕ → Bool
complete_at d k = (mark_at d k).acked.complete

-- whether a complete id outside the ledger is this one
unfoldable pub is_outside : Id → Dispatcher → Bool
is_outside i d = any (same_id i) d.outside

-- the bits left of an entry after an ack with words: the stored ones, fresh if none, and-ed with the words
unfoldable pub bits_left : ℕ → List ℕ → UnackedBits → List ℕ
bits_left batch incoming b =
    and_into (cond (bits_empty (words b)) (fresh_unacked_bits 4 batch) (words b)) incoming

-- an ack of an entry. Batch above 1 and some words: the bits left are stored, and none left means complete. Otherwise
-- complete. Completion drops the bits and lasts.
unfoldable pub ack_entry : ℕ → List ℕ → Acked → Acked
ack_entry batch incoming a =
    cond (ltb 1 batch && not (is_empty incoming))
    (record {
      complete = a.complete || bits_empty (bits_left batch incoming a.unacked);
      unacked = four (bits_left batch incoming a.unacked);
    })
    completed

-- a mark with its entry acknowledged
unfoldable pub ack_mark : ℕ → List ℕ → Mark → Mark
ack_mark batch incoming m =
    record { acked = ack_entry batch incoming m.acked; redelivery_count = m.redelivery_count }

-- an ack of an id: of its entry, or of an id that is not in the ledger, which becomes complete outside it, in its place
-- among those that ascend
unfoldable pub ack_id : List StoredMessage → Dispatcher → Id → List ℕ → Dispatcher
ack_id ledger d i incoming =
    let k = position_of i ledger in
    cond (ltb k (length ledger))
    (with_marks d (set d.marks k (ack_mark (batch_size_of i ledger) incoming (mark_at d k))) d.outside)
    (with_marks d d.marks (cond (is_outside i d) d.outside (insert_id i d.outside)))

-- the consumer drops its complete entries, whoever completed them; no other holder does
unfoldable pub drop_complete : ℕ → Dispatcher → Dispatcher
drop_complete i d =
    with_places d d.redelivery
    (keep (λ (h : Held). not (eqb i h.holder && complete_at d h.position)) d.in_flight)

-- how many marks from the front on are complete
unfoldable pub leading_complete : List Mark → ℕ
leading_complete [] = 0
leading_complete (m ∷ l) = cond m.acked.complete (suc (leading_complete l)) 0

-- mark-delete goes forward while the entry there is complete
unfoldable pub advance_mark_delete : Dispatcher → Dispatcher
advance_mark_delete d = with_mark_delete d (d.mark_delete + leading_complete (drop d.mark_delete d.marks))

-- ---- permits

-- whether the dispatcher may hand out another entry
unfoldable pub dispatch_gate_open : Dispatcher → Bool
dispatch_gate_open d = above_zero d.total_available_permits

-- what dispatching an entry costs: the ones in its stored bits, else its batch size, at least 1
unfoldable pub cost : ℕ → UnackedBits → ℕ
cost batch b = cond (bits_empty (words b)) (max batch 1) (bits_cardinality (words b))

-- whether a consumer is live under a pair's dispatcher
unfoldable pub live_under : Pair → Consumer → Bool
live_under p c = by_kind c.kind false (same_pair p c.pair)

-- a sum with one ring id's permits added, where that consumer is live under the pair
unfoldable pub add_permits : Pair → ℕ → Option Consumer → ℕ
add_permits p sum none = sum
add_permits p sum (some c) = cond (live_under p c) (sum + c.permits - zero_permits) sum

-- the permits of a ring's consumers that are live under the pair, added to a sum from the oldest on
unfoldable pub sum_permits : State → Pair → ℕ → List ℕ → ℕ
sum_permits s p sum [] = sum
sum_permits s p sum (i ∷ ring) = sum_permits s p (add_permits p sum (consumer_of s i)) ring

-- document 01: balance check
unfoldable pub balance_check : State → Dispatcher → ℕ
balance_check s d = sum_permits s d.pair zero_permits d.attached
