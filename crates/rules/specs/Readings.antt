-- The bench readings K1 to K12 of document 01: one table of what comes out and what must, and one theorem that every row
-- holds, by computation.
--
-- The five mistakes of a careful programmer are each told apart by a row: permits clamped at 0 (K6), a complete entry
-- dropped from every holder (K10), next left alone on an idle push (K8), counts raised at close (K10, the record's count),
-- mark-delete moved at append (K7, after the append).
use Rattle.std.specs.Prelude.{ℕ, ◌-◌, ◌^◌, Bool, true, false, List, [], ◌∷◌, ◌++◌, map, ℤ, pos, neg_ℤ, length, replicate}
use Rattle.bits.specs.Bits.{fresh_unacked_bits, bits_cardinality, word_count}
use Rattle.bits.specs.Four.{words}
use Rattle.rules.specs.Permits.{reading}
use Rattle.rules.specs.State.{Pair, State, dispatcher}
use Rattle.rules.specs.State.Kind.{plain, shared}
use Rattle.rules.specs.Dispatcher.{mark_at}
use Rattle.rules.specs.Outcome.{Dispatch, Value, Outcome}
use Rattle.rules.specs.Outcome.Outcome.{refused, short, done}
use Rattle.rules.specs.Outcome.Value.{nothing, permits_after, mark_delete_after, cursor_after, closed, dispatches}
use Rattle.rules.specs.Commands.Target.{to_id}
use Rattle.rules.specs.Calls.{Call, rule, run, opened, bit_of}
use Rattle.rules.specs.Calls.Call.{Append, Subscribe, Flow, Ack, Seek, Close, Push}

-- ---- how a reading is taken

-- the pair of topic 1 and subscription 1
abbrev pub pair_1 : Pair
pair_1 = record { topic = 1; subscription = 1 }

-- an append to topic 1
abbrev pub append_1 : ℕ → ℕ → ℕ → Call
append_1 ledger entry batch =
    Append 1 (record { id = record { ledger = ledger; entry = entry }; handle = 0; batch_size = batch })

-- a shared subscribe to pair 1
abbrev pub shared_1 : ℕ → Call
shared_1 i = Subscribe i shared pair_1

-- the state after some calls on a store just opened with E = 32, leak and no-op switch
abbrev pub after : Bool → Bool → List Call → State
after leak noop calls = run (opened 32 leak noop) calls

-- a record as numbers: consumer, ledger, entry, redelivery count, cost, and the permits after it
unfoldable pub record_numbers : Dispatch → List ℤ
record_numbers x =
    pos x.consumer ∷ pos x.message.id.ledger ∷ pos x.message.id.entry ∷ pos x.redelivery_count
    ∷ pos x.cost ∷ reading x.permits ∷ []

-- records as numbers, one after the other
unfoldable pub all_record_numbers : List Dispatch → List ℤ
all_record_numbers [] = []
all_record_numbers (x ∷ l) = record_numbers x ++ all_record_numbers l

-- a value as numbers
unfoldable pub value_numbers : Value → List ℤ
value_numbers nothing = []
value_numbers (permits_after p) = reading p ∷ []
value_numbers (mark_delete_after k moved) = pos k ∷ pos (bit_of moved) ∷ []
value_numbers (cursor_after k) = pos k ∷ []
value_numbers (closed b) = pos (bit_of b) ∷ []
value_numbers (dispatches l) = pos (length l) ∷ all_record_numbers l

-- an outcome as numbers: the refusal's number, or 0 and the value
unfoldable pub outcome_numbers : Outcome → List ℤ
outcome_numbers (refused n) = pos n ∷ []
outcome_numbers (short n) = pos 15 ∷ pos n ∷ []
outcome_numbers (done v s) = pos 0 ∷ value_numbers v

-- what a call comes to after some calls, with both switches off
unfoldable pub then : List Call → Call → List ℤ
then calls x = outcome_numbers (rule (after false false calls) x)

-- how many bits are stored for the entry at a position under pair 1, whether it is complete, and mark-delete
unfoldable pub entry_1 : ℕ → State → List ℤ
entry_1 k s =
    let d = dispatcher s pair_1 in
    pos (bits_cardinality (words (mark_at d k).acked.unacked)) ∷ pos (bit_of (mark_at d k).acked.complete)
    ∷ pos d.mark_delete ∷ []

-- next and the total under pair 1
unfoldable pub ring_1 : State → List ℤ
ring_1 s = let d = dispatcher s pair_1 in pos d.next ∷ reading d.total_available_permits ∷ []

-- words as numbers
unfoldable pub word_numbers : List ℕ → List ℤ
word_numbers l = map pos l

-- ---- the table

-- a row: what comes out, and what must
pub record Row : Type 0 where
  pub comes_out : List ℤ
  pub must : List ℤ

-- a row of the table
abbrev pub row : List ℤ → List ℤ → Row
row comes_out must = record { comes_out = comes_out; must = must }

-- the rows, in document 01's order
unfoldable pub readings : List Row
readings =
    -- K1 batch 65: all ones, then 1
    row (word_numbers (fresh_unacked_bits (word_count 65) 65)) (pos (2 ^ 64 - 1) ∷ pos 1 ∷ [])
    -- K2 batch 0: no words; batch 1: 1
    ∷ row (word_numbers (fresh_unacked_bits (word_count 0) 0)) ([])
    ∷ row (word_numbers (fresh_unacked_bits (word_count 1) 1)) (pos 1 ∷ [])
    -- K3 batch 3, words 5: 2 left; then 2: complete
    ∷ row (entry_1 0 (after false false (append_1 1 0 3 ∷ shared_1 7 ∷ Ack 7 (1 ∷ 0 ∷ 1 ∷ 5 ∷ []) ∷ []))) (pos 2 ∷ pos 0 ∷ pos 0 ∷ [])
    ∷ row (entry_1 0 (after false false (append_1 1 0 3 ∷ shared_1 7 ∷ Ack 7 (1 ∷ 0 ∷ 1 ∷ 5 ∷ []) ∷ Ack 7 (1 ∷ 0 ∷ 1 ∷ 2 ∷ []) ∷ [])))
    (pos 0 ∷ pos 1 ∷ pos 1 ∷ [])
    -- K4 batch 65, one word of ones: 64 left
    ∷ row (entry_1 0 (after false false (append_1 1 0 65 ∷ shared_1 7 ∷ Ack 7 (1 ∷ 0 ∷ 1 ∷ (2 ^ 64 - 1) ∷ []) ∷ [])))
    (pos 64 ∷ pos 0 ∷ pos 0 ∷ [])
    -- K5 balance 10, bits 5: 8 after
    ∷ row (then (append_1 1 0 3 ∷ shared_1 7 ∷ Ack 7 (1 ∷ 0 ∷ 1 ∷ 5 ∷ []) ∷ Flow 7 10 ∷ []) (Push 1))
    (pos 0 ∷ pos 1 ∷ pos 7 ∷ pos 1 ∷ pos 0 ∷ pos 0 ∷ pos 2 ∷ pos 8 ∷ [])
    -- K6 balance 1, batch 100: -99; flow 99 sends none
    ∷ row (then (append_1 1 0 100 ∷ shared_1 7 ∷ Flow 7 1 ∷ []) (Push 1))
    (pos 0 ∷ pos 1 ∷ pos 7 ∷ pos 1 ∷ pos 0 ∷ pos 0 ∷ pos 100 ∷ neg_ℤ (pos 99) ∷ [])
    ∷ row (then (append_1 1 0 100 ∷ append_1 1 1 0 ∷ shared_1 7 ∷ Flow 7 1 ∷ Push 1 ∷ Flow 7 99 ∷ []) (Push 1)) (pos 0 ∷ pos 0 ∷ [])
    -- K7 ack unknown (3,4), append it first in its topic: mark-delete stays 0; ack an empty list: 0 to 1
    ∷ row (entry_1 0 (after false false (shared_1 7 ∷ Ack 7 (3 ∷ 4 ∷ 0 ∷ []) ∷ append_1 3 4 0 ∷ []))) (pos 0 ∷ pos 1 ∷ pos 0 ∷ [])
    ∷ row (then (shared_1 7 ∷ Ack 7 (3 ∷ 4 ∷ 0 ∷ []) ∷ append_1 3 4 0 ∷ []) (Ack 7 [])) (pos 0 ∷ pos 1 ∷ pos 1 ∷ [])
    -- K8 ring 7, 8, one permit each, no entry: push sends none, next 1; the next entry goes to 8
    ∷ row (then (shared_1 7 ∷ shared_1 8 ∷ Flow 7 1 ∷ Flow 8 1 ∷ []) (Push 0)) (pos 0 ∷ pos 0 ∷ [])
    ∷ row (ring_1 (after false false (shared_1 7 ∷ shared_1 8 ∷ Flow 7 1 ∷ Flow 8 1 ∷ Push 0 ∷ []))) (pos 1 ∷ pos 2 ∷ [])
    ∷ row (then (shared_1 7 ∷ shared_1 8 ∷ Flow 7 1 ∷ Flow 8 1 ∷ Push 0 ∷ append_1 1 0 0 ∷ []) (Push 1))
    (pos 0 ∷ pos 1 ∷ pos 8 ∷ pos 1 ∷ pos 0 ∷ pos 0 ∷ pos 1 ∷ pos 0 ∷ [])
    -- K9 ids (1,0), (1,3): seek (1,2) gives 1, (1,5) gives 2 (request A1)
    ∷ row (then (append_1 1 0 0 ∷ append_1 1 3 0 ∷ Subscribe 7 plain pair_1 ∷ []) (Seek 7 (to_id (record { ledger = 1; entry = 2 }))))
    (pos 0 ∷ pos 1 ∷ [])
    ∷ row (then (append_1 1 0 0 ∷ append_1 1 3 0 ∷ Subscribe 7 plain pair_1 ∷ []) (Seek 7 (to_id (record { ledger = 1; entry = 5 }))))
    (pos 0 ∷ pos 2 ∷ [])
    -- K10 7 holds, 8 acks, 7 closes: the next push sends it to 8, whose balance is above 0
    ∷ row (then (append_1 1 0 0 ∷ shared_1 7 ∷ shared_1 8 ∷ Flow 7 1 ∷ Push 1 ∷ Flow 8 2 ∷ Ack 8 (1 ∷ 0 ∷ 0 ∷ []) ∷ Close 7 ∷ [])
    (Push 1))
    (pos 0 ∷ pos 1 ∷ pos 8 ∷ pos 1 ∷ pos 0 ∷ pos 0 ∷ pos 1 ∷ pos 1 ∷ [])
    -- K11 balances 4 and 5: closing the first leaves 5, with leak 1
    ∷ row (ring_1 (after false false (shared_1 7 ∷ shared_1 8 ∷ Flow 7 4 ∷ Flow 8 5 ∷ Close 7 ∷ []))) (pos 0 ∷ pos 5 ∷ [])
    ∷ row (ring_1 (after true false (shared_1 7 ∷ shared_1 8 ∷ Flow 7 4 ∷ Flow 8 5 ∷ Close 7 ∷ []))) (pos 0 ∷ pos 1 ∷ [])
    -- K12 balance 2^40 - 1: flow 1 done, flow 2 gets 9
    ∷ row (then (shared_1 7 ∷ replicate 256 (Flow 7 (2 ^ 32 - 1)) ++ Flow 7 255 ∷ []) (Flow 7 1)) (pos 0 ∷ pos (2 ^ 40) ∷ [])
    ∷ row (then (shared_1 7 ∷ replicate 256 (Flow 7 (2 ^ 32 - 1)) ++ Flow 7 255 ∷ []) (Flow 7 2)) (pos 9 ∷ [])
    ∷ []
