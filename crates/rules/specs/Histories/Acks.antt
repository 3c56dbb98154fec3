-- Histories of ack, and the form of a lent list.
use Rattle.std.specs.Prelude.{ℕ, ◌-◌, ◌^◌, List, [], ◌∷◌, ◌++◌, ℤ, replicate}
use Rattle.rules.specs.Calls.{Call}
use Rattle.rules.specs.Commands.Target.{start}
use Rattle.rules.specs.Calls.Call.{Flow, Ack, Seek, Redeliver, Close, Push}
use Rattle.rules.specs.Readings.{pair_1, append_1, shared_1, then, Row}
use Rattle.rules.specs.Histories.Views.{pair_2, shared_2, plain_1, unknown_ids, again, three_entries, gives, seen, head, queue, flight, marks, stored}
use Rattle.rules.specs.Histories.Views.{outsiders, own}

-- ---- the form of a list

-- what an ack and a redeliver with a list come to: of shared consumer 7 and of plain consumer 8
abbrev pub with_list : List ℕ → List ℤ
with_list list =
    then (shared_1 7 ∷ plain_1 8 ∷ []) (Ack 7 list) ++ then (shared_1 7 ∷ plain_1 8 ∷ []) (Ack 8 list)
    ++ then (shared_1 7 ∷ plain_1 8 ∷ []) (Redeliver 7 list) ++ then (shared_1 7 ∷ plain_1 8 ∷ []) (Redeliver 8 list)

-- the four are done
abbrev pub all_done : List ℕ
all_done = 0 ∷ 0 ∷ 0 ∷ 0 ∷ 0 ∷ 0 ∷ 0 ∷ 0 ∷ []

-- the four are refused
abbrev pub all_10 : List ℕ
all_10 = 10 ∷ 10 ∷ 10 ∷ 10 ∷ []

-- lists
unfoldable pub list_rows : List Row
list_rows =
    -- 4 if not live, before 10
    gives (then [] (Ack 7 [])) (4 ∷ [])
    ∷ gives (then [] (Redeliver 7 [])) (4 ∷ [])
    ∷ gives (then [] (Ack 7 (1 ∷ []))) (4 ∷ [])
    ∷ gives (then [] (Redeliver 7 (1 ∷ []))) (4 ∷ [])
    -- no group at all; groups of ledger, entry, n and n words
    ∷ gives (with_list []) all_done
    ∷ gives (with_list (1 ∷ 0 ∷ 0 ∷ [])) all_done
    ∷ gives (with_list (1 ∷ 0 ∷ 2 ∷ 5 ∷ 6 ∷ 1 ∷ 1 ∷ 0 ∷ [])) all_done
    -- 10: cut in a group's head or in its words, or with something behind
    ∷ gives (with_list (1 ∷ [])) all_10
    ∷ gives (with_list (1 ∷ 0 ∷ [])) all_10
    ∷ gives (with_list (1 ∷ 0 ∷ 2 ∷ 5 ∷ [])) all_10
    ∷ gives (with_list (1 ∷ 0 ∷ 0 ∷ 9 ∷ [])) all_10
    -- n at most 16
    ∷ gives (with_list (1 ∷ 0 ∷ 16 ∷ replicate 16 1)) all_done
    ∷ gives (with_list (1 ∷ 0 ∷ 17 ∷ replicate 17 1)) all_10
    -- at most 64 groups
    ∷ gives (with_list (again 64)) all_done
    ∷ gives (with_list (again 65)) all_10
    -- 10 before 11: outside ids, nacked
    ∷ gives (then (shared_1 7 ∷ Ack 7 (unknown_ids 64) ∷ []) (Ack 7 (8 ∷ 0 ∷ 0 ∷ 1 ∷ []))) (10 ∷ [])
    ∷ gives (then (append_1 1 0 0 ∷ plain_1 7 ∷ Redeliver 7 (again 64) ∷ []) (Redeliver 7 (1 ∷ 0 ∷ 0 ∷ 1 ∷ []))) (10 ∷ [])
    ∷ []

-- ---- ack

-- what is stored for one entry of a batch size after acks of it
abbrev pub left_of : ℕ → List Call → List ℤ
left_of batch calls = seen stored (append_1 1 0 batch ∷ shared_1 7 ∷ calls)

-- ring 7, 8: 7 holds entries 0 and 2, 8 holds entry 1; then 8 acknowledges entries 0 and 1
abbrev pub acked_by_8 : List Call
acked_by_8 = three_entries ++ shared_1 7 ∷ shared_1 8 ∷ Flow 7 2 ∷ Flow 8 1 ∷ Push 3 ∷ Ack 8 (1 ∷ 0 ∷ 0 ∷ 1 ∷ 1 ∷ 0 ∷ []) ∷ []

-- three entries and consumer 7 of pair 1
abbrev pub three_of_7 : List Call
three_of_7 = three_entries ++ shared_1 7 ∷ []

-- mark-delete 1 under pair 1, and plain consumer 8 beside it
abbrev pub beside_plain : List Call
beside_plain = append_1 1 0 0 ∷ append_1 1 1 0 ∷ shared_1 7 ∷ Ack 7 (1 ∷ 0 ∷ 0 ∷ []) ∷ plain_1 8 ∷ Flow 8 3 ∷ []

-- ack
unfoldable pub ack_rows : List Row
ack_rows =
    -- batch above 1 and some words: fresh bits AND the words
    gives (left_of 2 (Ack 7 (1 ∷ 0 ∷ 1 ∷ 1 ∷ []) ∷ [])) (1 ∷ 0 ∷ 0 ∷ 0 ∷ 0 ∷ [])
    -- stored bits AND the words
    ∷ gives (left_of 256 (Ack 7 (1 ∷ 0 ∷ 4 ∷ 1 ∷ 2 ∷ 3 ∷ 4 ∷ []) ∷ Ack 7 (1 ∷ 0 ∷ 4 ∷ 2 ∷ 2 ∷ 2 ∷ 4 ∷ []) ∷ []))
    (0 ∷ 2 ∷ 2 ∷ 4 ∷ 0 ∷ [])
    -- absent words are taken as 0, surplus ones ignored
    ∷ gives (left_of 256 (Ack 7 (1 ∷ 0 ∷ 1 ∷ (2 ^ 64 - 1) ∷ []) ∷ [])) ((2 ^ 64 - 1) ∷ 0 ∷ 0 ∷ 0 ∷ 0 ∷ [])
    ∷ gives (left_of 256 (Ack 7 (1 ∷ 0 ∷ 4 ∷ 1 ∷ 2 ∷ 3 ∷ 4 ∷ []) ∷ [])) (1 ∷ 2 ∷ 3 ∷ 4 ∷ 0 ∷ [])
    ∷ gives (left_of 256 (Ack 7 (1 ∷ 0 ∷ 5 ∷ 1 ∷ 2 ∷ 3 ∷ 4 ∷ 5 ∷ []) ∷ [])) (1 ∷ 2 ∷ 3 ∷ 4 ∷ 0 ∷ [])
    ∷ gives (left_of 3 (Ack 7 (1 ∷ 0 ∷ 2 ∷ 5 ∷ 7 ∷ []) ∷ [])) (5 ∷ 0 ∷ 0 ∷ 0 ∷ 0 ∷ [])
    ∷ gives (left_of 65 (Ack 7 (1 ∷ 0 ∷ 2 ∷ 0 ∷ 3 ∷ []) ∷ [])) (0 ∷ 1 ∷ 0 ∷ 0 ∷ 0 ∷ [])
    -- none left means complete
    ∷ gives (left_of 2 (Ack 7 (1 ∷ 0 ∷ 1 ∷ 0 ∷ []) ∷ [])) (0 ∷ 0 ∷ 0 ∷ 0 ∷ 1 ∷ [])
    ∷ gives (left_of 2 (Ack 7 (1 ∷ 0 ∷ 1 ∷ 4 ∷ []) ∷ [])) (0 ∷ 0 ∷ 0 ∷ 0 ∷ 1 ∷ [])
    -- otherwise complete: batch 0, batch 1, no words
    ∷ gives (left_of 0 (Ack 7 (1 ∷ 0 ∷ 1 ∷ 1 ∷ []) ∷ [])) (0 ∷ 0 ∷ 0 ∷ 0 ∷ 1 ∷ [])
    ∷ gives (left_of 1 (Ack 7 (1 ∷ 0 ∷ 1 ∷ 1 ∷ []) ∷ [])) (0 ∷ 0 ∷ 0 ∷ 0 ∷ 1 ∷ [])
    ∷ gives (left_of 2 (Ack 7 (1 ∷ 0 ∷ 0 ∷ []) ∷ [])) (0 ∷ 0 ∷ 0 ∷ 0 ∷ 1 ∷ [])
    -- for an id not in the ledger complete, whatever its words, and once
    ∷ gives (seen (outsiders pair_1) (append_1 1 0 3 ∷ shared_1 7 ∷ Ack 7 (1 ∷ 1 ∷ 1 ∷ 5 ∷ []) ∷ [])) (1 ∷ 1 ∷ [])
    ∷ gives (seen (outsiders pair_1) (shared_1 7 ∷ Ack 7 (3 ∷ 4 ∷ 0 ∷ 3 ∷ 4 ∷ 1 ∷ 5 ∷ 4 ∷ 3 ∷ 0 ∷ []) ∷ []))
    (3 ∷ 4 ∷ 4 ∷ 3 ∷ [])
    -- it joins in its place among those that ascend, by ledger and then by entry
    ∷ gives
    (seen (outsiders pair_1) (shared_1 7 ∷ Ack 7 (5 ∷ 4 ∷ 0 ∷ 3 ∷ 9 ∷ 0 ∷ 5 ∷ 2 ∷ 0 ∷ 4 ∷ 6 ∷ 0 ∷ 5 ∷ 8 ∷ 0 ∷ []) ∷ []))
    (3 ∷ 9 ∷ 4 ∷ 6 ∷ 5 ∷ 2 ∷ 5 ∷ 4 ∷ 5 ∷ 8 ∷ [])
    -- completion drops the bits and lasts; a later partial ack makes fresh bits
    ∷ gives (left_of 3 (Ack 7 (1 ∷ 0 ∷ 1 ∷ 5 ∷ []) ∷ Ack 7 (1 ∷ 0 ∷ 0 ∷ []) ∷ [])) (0 ∷ 0 ∷ 0 ∷ 0 ∷ 1 ∷ [])
    ∷ gives (left_of 3 (Ack 7 (1 ∷ 0 ∷ 1 ∷ 1 ∷ []) ∷ Ack 7 (1 ∷ 0 ∷ 0 ∷ []) ∷ Ack 7 (1 ∷ 0 ∷ 1 ∷ 6 ∷ []) ∷ []))
    (6 ∷ 0 ∷ 0 ∷ 0 ∷ 1 ∷ [])
    ∷ gives (left_of 3 (Ack 7 (1 ∷ 0 ∷ 0 ∷ []) ∷ Ack 7 (1 ∷ 0 ∷ 1 ∷ 6 ∷ []) ∷ Ack 7 (1 ∷ 0 ∷ 1 ∷ 1 ∷ []) ∷ []))
    (0 ∷ 0 ∷ 0 ∷ 0 ∷ 1 ∷ [])
    -- it is sent at the cost of its fresh bits though mark-delete is past it
    ∷ gives (then (append_1 1 0 3 ∷ shared_1 7 ∷ Ack 7 (1 ∷ 0 ∷ 0 ∷ []) ∷ Ack 7 (1 ∷ 0 ∷ 1 ∷ 5 ∷ []) ∷ Flow 7 10 ∷ []) (Push 1))
    (0 ∷ 1 ∷ 7 ∷ 1 ∷ 0 ∷ 0 ∷ 2 ∷ 8 ∷ [])
    -- each id in order
    ∷ gives (left_of 3 (Ack 7 (1 ∷ 0 ∷ 1 ∷ 5 ∷ 1 ∷ 0 ∷ 1 ∷ 2 ∷ []) ∷ [])) (0 ∷ 0 ∷ 0 ∷ 0 ∷ 1 ∷ [])
    ∷ gives (left_of 3 (Ack 7 (1 ∷ 0 ∷ 0 ∷ 1 ∷ 0 ∷ 1 ∷ 5 ∷ []) ∷ [])) (5 ∷ 0 ∷ 0 ∷ 0 ∷ 1 ∷ [])
    ∷ gives (left_of 3 (Ack 7 (1 ∷ 0 ∷ 1 ∷ 5 ∷ 1 ∷ 0 ∷ 0 ∷ []) ∷ [])) (0 ∷ 0 ∷ 0 ∷ 0 ∷ 1 ∷ [])
    -- afterwards the acker alone drops its complete entries, whoever completed them, by an empty list too
    ∷ gives (seen (flight pair_1) acked_by_8) (7 ∷ 0 ∷ 7 ∷ 2 ∷ [])
    ∷ gives (seen (flight pair_1) (acked_by_8 ++ Ack 7 [] ∷ [])) (7 ∷ 2 ∷ [])
    -- what waits in the queue stays there
    ∷ gives (seen (queue pair_1) (append_1 1 0 0 ∷ shared_1 7 ∷ Flow 7 1 ∷ Push 1 ∷ Redeliver 7 (again 1) ∷ Ack 7 (again 1) ∷ [])) (0 ∷ [])
    -- then mark-delete advances, forward while the entry's id is complete; ack returns it and if it moved
    ∷ gives (then three_of_7 (Ack 7 (1 ∷ 1 ∷ 0 ∷ []))) (0 ∷ 0 ∷ 0 ∷ [])
    ∷ gives (then (three_of_7 ++ Ack 7 (1 ∷ 1 ∷ 0 ∷ []) ∷ []) (Ack 7 (1 ∷ 0 ∷ 0 ∷ []))) (0 ∷ 2 ∷ 1 ∷ [])
    ∷ gives (then (three_of_7 ++ Ack 7 (1 ∷ 0 ∷ 0 ∷ []) ∷ []) (Ack 7 [])) (0 ∷ 1 ∷ 0 ∷ [])
    ∷ gives (then acked_by_8 (Ack 7 (1 ∷ 2 ∷ 0 ∷ []))) (0 ∷ 3 ∷ 1 ∷ [])
    -- and only in an ack: no other call moves it past an entry that was complete when it was appended
    ∷ gives (seen (head pair_1) (shared_1 7 ∷ Ack 7 (3 ∷ 4 ∷ 0 ∷ []) ∷ append_1 3 4 0 ∷ append_1 3 5 0 ∷ Flow 7 5 ∷ Push 2 ∷
    Redeliver 7 (3 ∷ 5 ∷ 0 ∷ []) ∷ Seek 7 start ∷ shared_1 8 ∷ Close 8 ∷ []))
    (0 ∷ 2 ∷ 0 ∷ 3 ∷ [])
    -- another subscription has its own
    ∷ gives (seen (head pair_2) (three_of_7 ++ shared_2 8 ∷ Ack 7 (again 1) ∷ [])) (0 ∷ 0 ∷ 0 ∷ 0 ∷ [])
    ∷ gives (seen (marks pair_2) (append_1 1 0 3 ∷ shared_1 7 ∷ shared_2 8 ∷ Ack 7 (1 ∷ 0 ∷ 1 ∷ 5 ∷ []) ∷ [])) (0 ∷ 0 ∷ 0 ∷ [])
    -- permits, counts and what is handed out are not an ack's
    ∷ gives (seen (head pair_1) acked_by_8) (1 ∷ 3 ∷ 2 ∷ 0 ∷ [])
    ∷ gives (seen (own 8) acked_by_8) (1 ∷ 1 ∷ 1 ∷ 0 ∷ 0 ∷ [])
    -- a plain ack changes nothing: 0, no
    ∷ gives (then beside_plain (Ack 8 (1 ∷ 1 ∷ 0 ∷ []))) (0 ∷ 0 ∷ 0 ∷ [])
    ∷ gives (seen (marks pair_1) (beside_plain ++ Ack 8 (1 ∷ 1 ∷ 0 ∷ 3 ∷ 4 ∷ 0 ∷ []) ∷ [])) (0 ∷ 1 ∷ 0 ∷ 0 ∷ 0 ∷ 0 ∷ [])
    ∷ gives (seen (outsiders pair_1) (beside_plain ++ Ack 8 (1 ∷ 1 ∷ 0 ∷ 3 ∷ 4 ∷ 0 ∷ []) ∷ [])) []
    ∷ gives (seen (own 8) (beside_plain ++ Ack 8 (1 ∷ 1 ∷ 0 ∷ []) ∷ [])) (1 ∷ 1 ∷ 0 ∷ 3 ∷ 0 ∷ [])
    -- 11 if outside complete ids would pass 64: new ones count, once each, and those of the ledger don't
    ∷ gives (then (shared_1 7 ∷ []) (Ack 7 (unknown_ids 64))) (0 ∷ 0 ∷ 0 ∷ [])
    ∷ gives (then (shared_1 7 ∷ Ack 7 (unknown_ids 64) ∷ []) (Ack 7 (8 ∷ 0 ∷ 0 ∷ []))) (11 ∷ [])
    ∷ gives (then (shared_1 7 ∷ Ack 7 (8 ∷ 0 ∷ 0 ∷ []) ∷ []) (Ack 7 (unknown_ids 64))) (11 ∷ [])
    ∷ gives (then (shared_1 7 ∷ Ack 7 (unknown_ids 64) ∷ []) (Ack 7 (unknown_ids 64))) (0 ∷ 0 ∷ 0 ∷ [])
    ∷ gives (then (append_1 1 0 0 ∷ shared_1 7 ∷ Ack 7 (unknown_ids 64) ∷ []) (Ack 7 (again 1))) (0 ∷ 1 ∷ 1 ∷ [])
    ∷ gives (then (shared_1 7 ∷ Ack 7 (unknown_ids 63) ∷ []) (Ack 7 (8 ∷ 0 ∷ 0 ∷ 8 ∷ 0 ∷ 0 ∷ []))) (0 ∷ 0 ∷ 0 ∷ [])
    -- a plain ack has none
    ∷ gives (then (shared_1 7 ∷ Ack 7 (unknown_ids 64) ∷ plain_1 8 ∷ []) (Ack 8 (8 ∷ 0 ∷ 0 ∷ []))) (0 ∷ 0 ∷ 0 ∷ [])
    ∷ []
