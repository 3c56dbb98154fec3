-- Histories of open, append and subscribe.
use Rattle.std.specs.Prelude.{ℕ, ◌%◌, Bool, true, false, List, [], ◌∷◌, ◌++◌, ℤ}
use Rattle.rules.specs.State.Kind.{plain, shared}
use Rattle.rules.specs.Commands.Target.{to_id}
use Rattle.rules.specs.Calls.{Call, rule, run, state_after, opened, opening}
use Rattle.rules.specs.Calls.Call.{Subscribe, Flow, Ack, Seek, Redeliver, Close, Push}
use Rattle.rules.specs.Readings.{pair_1, append_1, shared_1, after, then, outcome_numbers, Row}
use Rattle.rules.specs.Histories.Views.{pair_2, other_topic, message_id, append_to, shared_2, plain_1, each, unknown_ids, three_entries, full_ring}
use Rattle.rules.specs.Histories.Views.{gives, seen, settings, ring, head, queue, flight, marks, outsiders, own, handed, on, spelt_ring}

-- ---- open

-- opening with both switches off
abbrev pub opens : ℕ → ℕ → List ℤ
opens words e = outcome_numbers (opening words e false false)

-- what a store is when it is opened with two switches
abbrev pub opened_with : Bool → Bool → List ℤ
opened_with leak noop = settings (state_after (opened 1 false false) (opening 8192 32 leak noop))

-- open
unfoldable pub open_rows : List Row
open_rows =
    -- 2 if E is not 1 to 4,096
    gives (opens 4096 0) (2 ∷ [])
    ∷ gives (opens 4224 1) (0 ∷ [])
    ∷ gives (opens 528384 4096) (0 ∷ [])
    ∷ gives (opens 528512 4097) (2 ∷ [])
    -- 3 if the store is too short; a longer one does
    ∷ gives (opens 4223 1) (3 ∷ [])
    ∷ gives (opens 528383 4096) (3 ∷ [])
    ∷ gives (opens 8192 4096) (3 ∷ [])
    ∷ gives (opens 8191 32) (3 ∷ [])
    ∷ gives (opens 8192 32) (0 ∷ [])
    ∷ gives (opens 9000 32) (0 ∷ [])
    -- 2 before 3
    ∷ gives (opens 0 0) (2 ∷ [])
    ∷ gives (opens 8192 4097) (2 ∷ [])
    -- done, the store has no topic, consumer or dispatcher; E and the switches are those given
    ∷ gives (opened_with true false) (32 ∷ 1 ∷ 0 ∷ 0 ∷ 0 ∷ 0 ∷ [])
    ∷ gives (opened_with false true) (32 ∷ 0 ∷ 1 ∷ 0 ∷ 0 ∷ 0 ∷ [])
    ∷ []

-- ---- append

-- one entry in each of eight topics
abbrev pub eight_topics : List Call
eight_topics = each 8 (λ n. append_to n 1 0 0)

-- what an append comes to after others on a store with E entries per topic
abbrev pub append_with : ℕ → List Call → Call → List ℤ
append_with e calls x = outcome_numbers (rule (run (opened e false false) calls) x)

-- append
unfoldable pub append_rows : List Row
append_rows =
    -- 8 if the batch size is not 0 to 256
    gives (then [] (append_1 1 0 256)) (0 ∷ [])
    ∷ gives (then [] (append_1 1 0 257)) (8 ∷ [])
    -- 8 before 7, before 5 and before 6
    ∷ gives (then (append_1 1 0 0 ∷ []) (append_1 1 0 257)) (8 ∷ [])
    ∷ gives (then eight_topics (append_to 9 1 0 257)) (8 ∷ [])
    ∷ gives (append_with 1 (append_1 1 0 0 ∷ []) (append_1 1 1 257)) (8 ∷ [])
    -- 7 if the topic holds that id: before 6 too; not by the ledger or the entry alone, nor where another topic holds it
    ∷ gives (then (append_1 1 0 0 ∷ []) (append_1 1 0 0)) (7 ∷ [])
    ∷ gives (append_with 1 (append_1 1 0 0 ∷ []) (append_1 1 0 0)) (7 ∷ [])
    ∷ gives (then (append_1 1 0 0 ∷ []) (append_1 1 1 0)) (0 ∷ [])
    ∷ gives (then (append_1 1 0 0 ∷ []) (append_1 2 0 0)) (0 ∷ [])
    ∷ gives (then (append_1 1 0 0 ∷ []) (append_to 2 1 0 0)) (0 ∷ [])
    -- 5 if the topic is new and 8 exist
    ∷ gives (then (each 7 (λ n. append_to n 1 0 0)) (append_to 8 1 0 0)) (0 ∷ [])
    ∷ gives (then eight_topics (append_to 9 1 0 0)) (5 ∷ [])
    ∷ gives (then eight_topics (append_to 8 1 1 0)) (0 ∷ [])
    -- 6 if it has E entries, whatever another topic has
    ∷ gives (append_with 2 (append_1 1 0 0 ∷ []) (append_1 1 1 0)) (0 ∷ [])
    ∷ gives (append_with 2 (append_1 1 0 0 ∷ append_1 1 1 0 ∷ []) (append_1 1 2 0)) (6 ∷ [])
    ∷ gives (append_with 2 (append_1 1 0 0 ∷ append_1 1 1 0 ∷ []) (append_to 2 1 2 0)) (0 ∷ [])
    -- at the end of the ledger, whatever the id
    ∷ gives (handed (append_1 5 3 0 ∷ append_1 1 4 0 ∷ shared_1 7 ∷ Flow 7 2 ∷ [])) (7 ∷ 3 ∷ 7 ∷ 4 ∷ [])
    -- a new entry is unacknowledged and its count 0, under its topic's dispatchers and no others
    ∷ gives (seen (marks pair_1) (shared_1 7 ∷ append_1 1 0 5 ∷ [])) (0 ∷ 0 ∷ 0 ∷ [])
    ∷ gives (seen (marks other_topic) (Subscribe 7 shared other_topic ∷ append_1 1 0 5 ∷ [])) []
    -- a complete outside id now in the ledger stays complete and frees its place
    ∷ gives (seen (marks pair_1) (shared_1 7 ∷ Ack 7 (3 ∷ 4 ∷ 0 ∷ []) ∷ append_1 3 4 0 ∷ [])) (0 ∷ 1 ∷ 0 ∷ [])
    ∷ gives (seen (outsiders pair_1) (shared_1 7 ∷ Ack 7 (3 ∷ 4 ∷ 0 ∷ 3 ∷ 5 ∷ 0 ∷ []) ∷ append_1 3 4 0 ∷ [])) (3 ∷ 5 ∷ [])
    ∷ gives (then (shared_1 7 ∷ Ack 7 (unknown_ids 64) ∷ append_1 9 5 0 ∷ []) (Ack 7 (8 ∷ 0 ∷ 0 ∷ []))) (0 ∷ 1 ∷ 1 ∷ [])
    ∷ gives (then (shared_1 7 ∷ Ack 7 (unknown_ids 64) ∷ append_1 9 5 0 ∷ Ack 7 (8 ∷ 0 ∷ 0 ∷ []) ∷ []) (Ack 7 (8 ∷ 1 ∷ 0 ∷ [])))
    (11 ∷ [])
    -- under that dispatcher alone: another topic's keeps the id outside, another subscription's has the entry unacknowledged
    ∷ gives (seen (outsiders other_topic) (Subscribe 7 shared other_topic ∷ Ack 7 (3 ∷ 4 ∷ 0 ∷ []) ∷ append_1 3 4 0 ∷ [])) (3 ∷ 4 ∷ [])
    ∷ gives (seen (marks pair_2) (shared_1 7 ∷ shared_2 8 ∷ Ack 7 (3 ∷ 4 ∷ 0 ∷ []) ∷ append_1 3 4 0 ∷ [])) (0 ∷ 0 ∷ 0 ∷ [])
    ∷ []

-- ---- subscribe

-- a shared consumer of each of eight pairs
abbrev pub eight_pairs : List Call
eight_pairs = each 8 (λ n. Subscribe n shared (record { topic = 1; subscription = n }))

-- plain consumer 7 with three permits, its cursor at 1 and entry 2 handed back
abbrev pub busy_plain : List Call
busy_plain = three_entries ++ plain_1 7 ∷ Flow 7 3 ∷ Seek 7 (to_id (message_id 1 1)) ∷ Redeliver 7 (1 ∷ 2 ∷ 0 ∷ []) ∷ []

-- shared consumer 7 of pair 1 with four permits left, holding entry 0
abbrev pub busy_shared : List Call
busy_shared = append_1 1 0 0 ∷ shared_1 7 ∷ Flow 7 5 ∷ Push 1 ∷ []

-- the ring of pair 1 full where id 1 is not live any more
abbrev pub left_in_ring : List Call
left_in_ring = full_ring ++ plain_1 1 ∷ Close 1 ∷ []

-- subscribe
unfoldable pub subscribe_rows : List Row
subscribe_rows =
    -- makes the consumer, with balance 0, cursor 0, no nacked
    gives (seen (own 7) (three_entries ++ plain_1 7 ∷ [])) (1 ∷ 1 ∷ 0 ∷ 0 ∷ 0 ∷ [])
    -- or replaces a live one: either way balance 0, cursor 0, no nacked
    ∷ gives (seen (own 7) busy_plain) (1 ∷ 1 ∷ 0 ∷ 3 ∷ 1 ∷ 2 ∷ [])
    ∷ gives (seen (own 7) (busy_plain ++ plain_1 7 ∷ [])) (1 ∷ 1 ∷ 0 ∷ 0 ∷ 0 ∷ [])
    ∷ gives (seen (own 7) (busy_plain ++ shared_2 7 ∷ [])) (1 ∷ 2 ∷ 1 ∷ 0 ∷ 0 ∷ [])
    ∷ gives (seen settings (busy_plain ++ shared_2 7 ∷ [])) (32 ∷ 0 ∷ 0 ∷ 1 ∷ 1 ∷ 1 ∷ [])
    -- a replaced one's old dispatcher keeps its ring, held list and balance
    ∷ gives (seen (ring pair_1) (busy_shared ++ plain_1 7 ∷ [])) (7 ∷ [])
    ∷ gives (seen (flight pair_1) (busy_shared ++ plain_1 7 ∷ [])) (7 ∷ 0 ∷ [])
    ∷ gives (seen (head pair_1) (busy_shared ++ plain_1 7 ∷ [])) (0 ∷ 1 ∷ 0 ∷ 4 ∷ [])
    -- also where the new one is of the same pair
    ∷ gives (seen (ring pair_1) (busy_shared ++ shared_1 7 ∷ [])) (7 ∷ [])
    ∷ gives (seen (flight pair_1) (busy_shared ++ shared_1 7 ∷ [])) (7 ∷ 0 ∷ [])
    ∷ gives (seen (head pair_1) (busy_shared ++ shared_1 7 ∷ [])) (0 ∷ 1 ∷ 0 ∷ 4 ∷ [])
    ∷ gives (seen (own 7) (busy_shared ++ shared_1 7 ∷ [])) (1 ∷ 1 ∷ 1 ∷ 0 ∷ 0 ∷ [])
    -- with the no-op switch on, a subscribe of a live id changes nothing, and one of an id that is not live is as ever
    ∷ gives (own 7 (after false true (busy_shared ++ shared_1 7 ∷ []))) (1 ∷ 1 ∷ 1 ∷ 4 ∷ 0 ∷ [])
    ∷ gives (own 7 (after false true (busy_shared ++ Subscribe 7 plain pair_2 ∷ []))) (1 ∷ 1 ∷ 1 ∷ 4 ∷ 0 ∷ [])
    ∷ gives (settings (after false true (busy_shared ++ shared_2 7 ∷ []))) (32 ∷ 0 ∷ 1 ∷ 1 ∷ 1 ∷ 1 ∷ [])
    ∷ gives (own 7 (after false true (busy_shared ++ Close 7 ∷ shared_1 7 ∷ []))) (1 ∷ 1 ∷ 1 ∷ 0 ∷ 0 ∷ [])
    -- a new pair's dispatcher starts empty, with next, cursor, mark-delete and balance 0, and a mark for each entry
    ∷ gives (seen (head pair_2) (busy_shared ++ shared_2 8 ∷ [])) (0 ∷ 0 ∷ 0 ∷ 0 ∷ [])
    ∷ gives (seen (ring pair_2) (busy_shared ++ shared_2 8 ∷ [])) (8 ∷ [])
    ∷ gives (seen (queue pair_2) (busy_shared ++ shared_2 8 ∷ [])) []
    ∷ gives (seen (flight pair_2) (busy_shared ++ shared_2 8 ∷ [])) []
    ∷ gives (seen (marks pair_2) (busy_shared ++ shared_2 8 ∷ [])) (0 ∷ 0 ∷ 0 ∷ [])
    -- a shared consumer not yet in the ring joins at its end
    ∷ gives (seen (ring pair_1) (shared_1 9 ∷ shared_1 7 ∷ shared_1 8 ∷ shared_1 7 ∷ [])) (9 ∷ 7 ∷ 8 ∷ [])
    -- a plain one joins no ring and makes no dispatcher
    ∷ gives (seen (ring pair_1) (shared_1 7 ∷ plain_1 8 ∷ [])) (7 ∷ [])
    ∷ gives (seen settings (plain_1 8 ∷ [])) (32 ∷ 0 ∷ 0 ∷ 0 ∷ 1 ∷ 0 ∷ [])
    -- 12 if the id is not live and 32 are
    ∷ gives (then (each 31 shared_1) (shared_1 32)) (0 ∷ [])
    ∷ gives (then (each 32 plain_1) (plain_1 33)) (12 ∷ [])
    ∷ gives (then (each 32 plain_1) (plain_1 32)) (0 ∷ [])
    -- 12 before 13 and before 14
    ∷ gives (then (each 32 (λ n. Subscribe n shared (record { topic = 1; subscription = n % 8 }))) (Subscribe 33 shared other_topic)) (12 ∷ [])
    ∷ gives (then full_ring (shared_1 33)) (12 ∷ [])
    -- 13 if shared, a new pair, and 8 exist
    ∷ gives (then (each 7 (λ n. Subscribe n shared (record { topic = 1; subscription = n }))) (Subscribe 9 shared other_topic)) (0 ∷ [])
    ∷ gives (then eight_pairs (Subscribe 9 shared other_topic)) (13 ∷ [])
    ∷ gives (then eight_pairs (Subscribe 9 plain other_topic)) (0 ∷ [])
    ∷ gives (then eight_pairs (shared_1 9)) (0 ∷ [])
    -- 14 if shared, the id is not in that ring and it has 32: here one of the 32 is not live
    ∷ gives (then left_in_ring (shared_1 33)) (14 ∷ [])
    ∷ gives (then left_in_ring (shared_1 1)) (0 ∷ [])
    ∷ gives (then left_in_ring (plain_1 33)) (0 ∷ [])
    ∷ gives (then left_in_ring (shared_2 33)) (0 ∷ [])
    -- done if live and no-op, before 13 and before 14
    ∷ gives (outcome_numbers (rule (after false true eight_pairs) (Subscribe 1 shared other_topic))) (0 ∷ [])
    ∷ gives (then eight_pairs (Subscribe 1 shared other_topic)) (13 ∷ [])
    ∷ gives (on (spelt_ring true) (shared_1 40)) (1 ∷ 0 ∷ [])
    ∷ gives (on (spelt_ring false) (shared_1 40)) (1 ∷ 14 ∷ [])
    ∷ []
