-- Histories of flow and close, and the balance check.
use Rattle.std.specs.Prelude.{ℕ, ◌+◌, ◌-◌, ◌^◌, true, false, List, [], ◌∷◌, ◌++◌, pos, neg_ℤ}
use Rattle.rules.specs.Permits.{zero_permits}
use Rattle.rules.specs.State.{State, new_dispatcher}
use Rattle.rules.specs.State.Kind.{plain, shared}
use Rattle.rules.specs.Dispatcher.{with_attached}
use Rattle.rules.specs.Calls.{Call}
use Rattle.rules.specs.Calls.Call.{Flow, Redeliver, Close, Push}
use Rattle.rules.specs.Readings.{pair_1, append_1, shared_1, after, then, Row, row}
use Rattle.rules.specs.Histories.Views.{pair_2, shared_2, plain_1, three_entries, three_consumers, gives, seen, settings, ring, head, queue, flight}
use Rattle.rules.specs.Histories.Views.{marks, own, on, then_seen, checked, spelt_with, spelt_consumer, spelt}

-- ---- flow

-- flow
unfoldable pub flow_rows : List Row
flow_rows =
    -- 4 if not live
    gives (then [] (Flow 7 1)) (4 ∷ [])
    ∷ gives (then (shared_1 7 ∷ Close 7 ∷ []) (Flow 7 1)) (4 ∷ [])
    -- adds its grant to the consumer and, if shared, its dispatcher; returns the new balance
    ∷ gives (then (shared_1 7 ∷ Flow 7 4 ∷ []) (Flow 7 5)) (0 ∷ 9 ∷ [])
    ∷ gives (seen (own 7) (shared_1 7 ∷ Flow 7 4 ∷ Flow 7 5 ∷ [])) (1 ∷ 1 ∷ 1 ∷ 9 ∷ 0 ∷ [])
    ∷ gives (seen (head pair_1) (shared_1 7 ∷ Flow 7 4 ∷ Flow 7 5 ∷ [])) (0 ∷ 0 ∷ 0 ∷ 9 ∷ [])
    ∷ gives (then (plain_1 7 ∷ Flow 7 4 ∷ []) (Flow 7 5)) (0 ∷ 9 ∷ [])
    ∷ gives (seen (head pair_1) (shared_1 8 ∷ plain_1 7 ∷ Flow 7 5 ∷ [])) (0 ∷ 0 ∷ 0 ∷ 0 ∷ [])
    -- its dispatcher is that of the pair it is attached to now
    ∷ gives (seen (head pair_1) (shared_1 7 ∷ shared_2 7 ∷ Flow 7 2 ∷ [])) (0 ∷ 0 ∷ 0 ∷ 0 ∷ [])
    ∷ gives (seen (head pair_2) (shared_1 7 ∷ shared_2 7 ∷ Flow 7 2 ∷ [])) (0 ∷ 0 ∷ 0 ∷ 2 ∷ [])
    -- a grant has 32 bits
    ∷ gives (then (shared_1 7 ∷ []) (Flow 7 (2 ^ 32 - 1))) (0 ∷ (2 ^ 32 - 1) ∷ [])
    -- 9 if the consumer would pass 2^40, shared or plain
    ∷ gives (on (spelt false shared (zero_permits + (2 ^ 40 - 1)) zero_permits 0) (Flow 7 1)) (1 ∷ 0 ∷ 2 ^ 40 ∷ [])
    ∷ gives (on (spelt false shared (zero_permits + (2 ^ 40 - 1)) zero_permits 0) (Flow 7 2)) (1 ∷ 9 ∷ [])
    ∷ gives (on (spelt false shared (zero_permits + 2 ^ 40) zero_permits 0) (Flow 7 0)) (1 ∷ 0 ∷ 2 ^ 40 ∷ [])
    ∷ gives (on (spelt false plain (zero_permits + (2 ^ 40 - 1)) zero_permits 0) (Flow 7 1)) (1 ∷ 0 ∷ 2 ^ 40 ∷ [])
    ∷ gives (on (spelt false plain (zero_permits + (2 ^ 40 - 1)) zero_permits 0) (Flow 7 2)) (1 ∷ 9 ∷ [])
    -- 9 if the dispatcher would pass 2^60; a plain consumer has none
    ∷ gives (on (spelt false shared zero_permits (zero_permits + (2 ^ 60 - 1)) 0) (Flow 7 1)) (1 ∷ 0 ∷ 1 ∷ [])
    ∷ gives (then_seen (head pair_1) (spelt false shared zero_permits (zero_permits + (2 ^ 60 - 1)) 0) (Flow 7 1)) (1 ∷ 0 ∷ 1 ∷ 0 ∷ 2 ^ 60 ∷ [])
    ∷ gives (on (spelt false shared zero_permits (zero_permits + (2 ^ 60 - 1)) 0) (Flow 7 2)) (1 ∷ 9 ∷ [])
    ∷ gives (on (spelt false shared zero_permits (zero_permits + 2 ^ 60) 0) (Flow 7 0)) (1 ∷ 0 ∷ 0 ∷ [])
    ∷ gives (on (spelt false shared zero_permits (zero_permits + 2 ^ 60) 0) (Flow 7 1)) (1 ∷ 9 ∷ [])
    ∷ gives (on (spelt false plain zero_permits (zero_permits + 2 ^ 60) 0) (Flow 7 1)) (1 ∷ 0 ∷ 1 ∷ [])
    ∷ []

-- ---- close

-- ring 7, 8: 7 holds entries 2 and 0 in this order, entry 0 with count 1, and 8 holds entry 1
abbrev pub holding : List Call
holding = three_entries ++ shared_1 7 ∷ shared_1 8 ∷ Flow 7 2 ∷ Flow 8 1 ∷ Push 3 ∷ Redeliver 7 (1 ∷ 0 ∷ 0 ∷ []) ∷ Flow 7 1 ∷ Push 1 ∷ []

-- consumer 7 with a balance of -99, the only one
abbrev pub in_debt : List Call
in_debt = append_1 1 0 100 ∷ shared_1 7 ∷ Flow 7 1 ∷ Push 1 ∷ []

-- a total of -2^60 + n
abbrev pub from_least : ℕ → ℕ
from_least n = zero_permits - 2 ^ 60 + n

-- a total of 2^60 - n
abbrev pub from_most : ℕ → ℕ
from_most n = zero_permits + 2 ^ 60 - n

-- close
unfoldable pub close_rows : List Row
close_rows =
    -- whether one closed: a shared one, a plain one, an id not live
    gives (then (shared_1 7 ∷ []) (Close 7)) (0 ∷ 1 ∷ [])
    ∷ gives (then (plain_1 7 ∷ []) (Close 7)) (0 ∷ 1 ∷ [])
    ∷ gives (then [] (Close 7)) (0 ∷ 0 ∷ [])
    ∷ gives (then (shared_1 7 ∷ Close 7 ∷ []) (Close 7)) (0 ∷ 0 ∷ [])
    -- it is not live any more, and no other is gone
    ∷ gives (seen (own 7) (shared_1 7 ∷ plain_1 8 ∷ Close 7 ∷ [])) []
    ∷ gives (seen settings (shared_1 7 ∷ plain_1 8 ∷ Close 7 ∷ [])) (32 ∷ 0 ∷ 0 ∷ 0 ∷ 1 ∷ 1 ∷ [])
    ∷ gives (seen settings (shared_1 7 ∷ plain_1 8 ∷ Close 8 ∷ [])) (32 ∷ 0 ∷ 0 ∷ 0 ∷ 1 ∷ 1 ∷ [])
    -- shared: leaves the ring; the dispatcher is never removed
    ∷ gives (seen (ring pair_1) (three_consumers ++ Close 8 ∷ [])) (7 ∷ 9 ∷ [])
    ∷ gives (seen settings (shared_1 7 ∷ Close 7 ∷ [])) (32 ∷ 0 ∷ 0 ∷ 0 ∷ 0 ∷ 1 ∷ [])
    -- the dispatcher loses the consumer's balance, a negative one too, twice with the leak switch
    ∷ gives (seen (head pair_1) (three_consumers ++ Close 8 ∷ [])) (0 ∷ 0 ∷ 0 ∷ 4 ∷ [])
    ∷ gives (head pair_1 (after true false (three_consumers ++ Close 8 ∷ []))) (0 ∷ 0 ∷ 0 ∷ 2 ∷ [])
    ∷ row (seen (head pair_1) in_debt) (pos 0 ∷ pos 1 ∷ pos 0 ∷ neg_ℤ (pos 99) ∷ [])
    ∷ gives (seen (head pair_1) (in_debt ++ Close 7 ∷ [])) (0 ∷ 1 ∷ 0 ∷ 0 ∷ [])
    ∷ gives (head pair_1 (after true false (in_debt ++ Close 7 ∷ []))) (0 ∷ 1 ∷ 0 ∷ 99 ∷ [])
    -- held entries join the queue's end in held order with counts unchanged; what others hold stays
    ∷ gives (seen (flight pair_1) holding) (8 ∷ 1 ∷ 7 ∷ 2 ∷ 7 ∷ 0 ∷ [])
    ∷ gives (seen (queue pair_1) (holding ++ Close 7 ∷ [])) (2 ∷ 0 ∷ [])
    ∷ gives (seen (flight pair_1) (holding ++ Close 7 ∷ [])) (8 ∷ 1 ∷ [])
    ∷ gives (seen (marks pair_1) (holding ++ Close 7 ∷ [])) (0 ∷ 0 ∷ 1 ∷ 0 ∷ 0 ∷ 0 ∷ 0 ∷ 0 ∷ 0 ∷ [])
    ∷ gives (seen (queue pair_1) (holding ++ Redeliver 8 (1 ∷ 1 ∷ 0 ∷ []) ∷ Close 7 ∷ [])) (1 ∷ 2 ∷ 0 ∷ [])
    -- next is reduced modulo the ring's length: 1 stays 1 in a ring of two, 2 becomes 0; 0 if the ring is empty
    ∷ gives (seen (head pair_1) (three_consumers ++ Push 0 ∷ Close 9 ∷ [])) (1 ∷ 0 ∷ 0 ∷ 4 ∷ [])
    ∷ gives (seen (head pair_1) (three_consumers ++ Push 0 ∷ Close 7 ∷ [])) (1 ∷ 0 ∷ 0 ∷ 4 ∷ [])
    ∷ gives (seen (head pair_1) (three_consumers ++ Push 0 ∷ Push 0 ∷ Close 9 ∷ [])) (0 ∷ 0 ∷ 0 ∷ 4 ∷ [])
    ∷ gives (seen (head pair_1) (shared_1 7 ∷ shared_1 8 ∷ Flow 7 1 ∷ Push 0 ∷ Close 7 ∷ Close 8 ∷ [])) (0 ∷ 0 ∷ 0 ∷ 0 ∷ [])
    -- a plain one changes no dispatcher, not even one in whose ring it is; one attached elsewhere leaves that ring alone
    ∷ gives (seen (ring pair_1) (shared_1 7 ∷ Flow 7 4 ∷ plain_1 7 ∷ Flow 7 3 ∷ Close 7 ∷ [])) (7 ∷ [])
    ∷ gives (seen (head pair_1) (shared_1 7 ∷ Flow 7 4 ∷ plain_1 7 ∷ Flow 7 3 ∷ Close 7 ∷ [])) (0 ∷ 0 ∷ 0 ∷ 4 ∷ [])
    ∷ gives (seen (ring pair_1) (shared_1 7 ∷ shared_2 7 ∷ Close 7 ∷ [])) (7 ∷ [])
    ∷ gives (seen (ring pair_2) (shared_1 7 ∷ shared_2 7 ∷ Close 7 ∷ [])) []
    -- 9 if the dispatcher would leave -2^60
    ∷ gives (on (spelt false shared (zero_permits + 5) (from_least 5) 0) (Close 7)) (1 ∷ 0 ∷ 1 ∷ [])
    ∷ row (then_seen (head pair_1) (spelt false shared (zero_permits + 5) (from_least 5) 0) (Close 7))
    (pos 1 ∷ pos 0 ∷ pos 1 ∷ pos 0 ∷ neg_ℤ (pos (2 ^ 60)) ∷ [])
    ∷ gives (on (spelt false shared (zero_permits + 5) (from_least 4) 0) (Close 7)) (1 ∷ 9 ∷ [])
    -- with the leak switch by both subtractions
    ∷ gives (on (spelt true shared (zero_permits + 5) (from_least 10) 0) (Close 7)) (1 ∷ 0 ∷ 1 ∷ [])
    ∷ gives (on (spelt true shared (zero_permits + 5) (from_least 9) 0) (Close 7)) (1 ∷ 9 ∷ [])
    -- 9 if it would leave 2^60, where the balance is negative
    ∷ gives (on (spelt false shared (zero_permits - 255) (from_most 255) 0) (Close 7)) (1 ∷ 0 ∷ 1 ∷ [])
    ∷ gives (then_seen (head pair_1) (spelt false shared (zero_permits - 255) (from_most 255) 0) (Close 7)) (1 ∷ 0 ∷ 1 ∷ 0 ∷ 2 ^ 60 ∷ [])
    ∷ gives (on (spelt false shared (zero_permits - 255) (from_most 254) 0) (Close 7)) (1 ∷ 9 ∷ [])
    ∷ gives (on (spelt true shared (zero_permits - 255) (from_most 510) 0) (Close 7)) (1 ∷ 0 ∷ 1 ∷ [])
    ∷ gives (on (spelt true shared (zero_permits - 255) (from_most 509) 0) (Close 7)) (1 ∷ 9 ∷ [])
    -- a refused close leaves the consumer live; a plain one is never refused
    ∷ gives (then_seen (own 7) (spelt false shared (zero_permits + 5) (from_least 4) 0) (Close 7)) (1 ∷ 1 ∷ 1 ∷ 1 ∷ 5 ∷ 0 ∷ [])
    ∷ gives (on (spelt false plain (zero_permits + 5) (from_least 0) 0) (Close 7)) (1 ∷ 0 ∷ 1 ∷ [])
    ∷ []

-- ---- the balance check

-- ring 7, 8, 9, 10, 11 of pair 1: 7 with 5 permits and 11 with -2 live under it, 8 plain, 9 under pair 2, 10 not live
abbrev pub mixed_ring : State
mixed_ring =
    spelt_with false false []
    (spelt_consumer 7 pair_1 shared (zero_permits + 5) ∷ spelt_consumer 8 pair_1 plain (zero_permits + 30)
    ∷ spelt_consumer 9 pair_2 shared (zero_permits + 400) ∷ spelt_consumer 11 pair_1 shared (zero_permits - 2) ∷ [])
    (with_attached (new_dispatcher pair_1 0) (7 ∷ 8 ∷ 9 ∷ 10 ∷ 11 ∷ []) ∷ with_attached (new_dispatcher pair_2 0) (9 ∷ []) ∷ [])

-- the balance check
unfoldable pub balance_rows : List Row
balance_rows =
    -- the balances of the ring's consumers live under this dispatcher
    gives (checked pair_1 mixed_ring) (1 ∷ 3 ∷ [])
    ∷ gives (checked pair_2 mixed_ring) (1 ∷ 400 ∷ [])
    -- after calls it is the total; a replaced one's balance is still in its old dispatcher's total, and not in the check
    ∷ gives (checked pair_1 (after false false three_consumers)) (1 ∷ 6 ∷ [])
    ∷ row (checked pair_1 (after false false in_debt)) (pos 1 ∷ neg_ℤ (pos 99) ∷ [])
    ∷ gives (checked pair_1 (after false false (three_consumers ++ shared_2 7 ∷ Flow 7 1 ∷ []))) (1 ∷ 4 ∷ [])
    ∷ []
