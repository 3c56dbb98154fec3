-- Histories of redeliver and seek.
use Rattle.std.specs.Prelude.{ℕ, ◌-◌, ◌^◌, false, List, [], ◌∷◌, ◌++◌, ℤ}
use Rattle.rules.specs.Permits.{zero_permits}
use Rattle.rules.specs.State.{State}
use Rattle.rules.specs.State.Kind.{plain, shared}
use Rattle.rules.specs.Commands.Target.{start, to_id}
use Rattle.rules.specs.Calls.{Call, run}
use Rattle.rules.specs.Calls.Call.{Subscribe, Flow, Ack, Seek, Redeliver, Push}
use Rattle.rules.specs.Readings.{pair_1, append_1, shared_1, then, Row}
use Rattle.rules.specs.Histories.Views.{pair_2, other_topic, message_id, shared_2, plain_1, again, three_entries, gives, seen, head, queue, flight}
use Rattle.rules.specs.Histories.Views.{marks, stored, own, handed, then_seen, on, spelt}

-- ---- redeliver

-- consumer 7 of pair 1 holds three entries, 8 is in the ring too
abbrev pub three_held : List Call
three_held = three_entries ++ shared_1 7 ∷ shared_1 8 ∷ Flow 7 3 ∷ Push 3 ∷ []

-- plain consumer 7 over three entries
abbrev pub plain_7 : List Call
plain_7 = three_entries ++ plain_1 7 ∷ []

-- an entry held by consumer 7 with this redelivery count
abbrev pub counted : ℕ → State
counted n = spelt false shared zero_permits zero_permits n

-- redeliver
unfoldable pub redeliver_rows : List Row
redeliver_rows =
    -- shared: each id the sender holds goes to the queue's end and its count rises by 1; only that it is done
    gives (then three_held (Redeliver 7 (1 ∷ 2 ∷ 0 ∷ []))) (0 ∷ [])
    ∷ gives (seen (queue pair_1) (three_held ++ Redeliver 7 (1 ∷ 2 ∷ 0 ∷ []) ∷ Redeliver 7 (1 ∷ 1 ∷ 0 ∷ 1 ∷ 0 ∷ 0 ∷ []) ∷ []))
    (2 ∷ 1 ∷ 0 ∷ [])
    ∷ gives (seen (flight pair_1) (three_held ++ Redeliver 7 (1 ∷ 1 ∷ 0 ∷ []) ∷ [])) (7 ∷ 0 ∷ 7 ∷ 2 ∷ [])
    ∷ gives (seen (marks pair_1) (three_held ++ Redeliver 7 (1 ∷ 1 ∷ 0 ∷ []) ∷ [])) (0 ∷ 0 ∷ 0 ∷ 0 ∷ 0 ∷ 1 ∷ 0 ∷ 0 ∷ 0 ∷ [])
    -- next, cursor, mark-delete and balances stay
    ∷ gives (seen (head pair_1) (three_held ++ Flow 8 2 ∷ Redeliver 7 (1 ∷ 1 ∷ 0 ∷ []) ∷ [])) (1 ∷ 3 ∷ 0 ∷ 2 ∷ [])
    -- an id that another holds, that waits in the queue already, that is not handed out, that is unknown: nothing
    ∷ gives (seen (flight pair_1) (three_held ++ Redeliver 8 (again 1) ∷ [])) (7 ∷ 0 ∷ 7 ∷ 1 ∷ 7 ∷ 2 ∷ [])
    ∷ gives (seen (queue pair_1) (three_held ++ Redeliver 8 (again 1) ∷ [])) []
    ∷ gives (seen (marks pair_1) (three_held ++ Redeliver 8 (again 1) ∷ [])) (0 ∷ 0 ∷ 0 ∷ 0 ∷ 0 ∷ 0 ∷ 0 ∷ 0 ∷ 0 ∷ [])
    ∷ gives (seen (queue pair_1) (three_held ++ Redeliver 7 (again 2) ∷ Redeliver 7 (again 1) ∷ [])) (0 ∷ [])
    ∷ gives (seen (marks pair_1) (three_held ++ Redeliver 7 (again 2) ∷ Redeliver 7 (again 1) ∷ []))
    (0 ∷ 0 ∷ 1 ∷ 0 ∷ 0 ∷ 0 ∷ 0 ∷ 0 ∷ 0 ∷ [])
    ∷ gives (seen (queue pair_1) (append_1 1 0 0 ∷ shared_1 7 ∷ Redeliver 7 (1 ∷ 0 ∷ 0 ∷ 9 ∷ 9 ∷ 0 ∷ []) ∷ [])) []
    ∷ gives (seen (marks pair_1) (append_1 1 0 0 ∷ shared_1 7 ∷ Redeliver 7 (1 ∷ 0 ∷ 0 ∷ 9 ∷ 9 ∷ 0 ∷ []) ∷ [])) (0 ∷ 0 ∷ 0 ∷ [])
    -- ack words are ignored: nothing is acknowledged, stored bits stay
    ∷ gives (seen (marks pair_1) (append_1 1 0 3 ∷ shared_1 7 ∷ Flow 7 3 ∷ Push 1 ∷ Redeliver 7 (1 ∷ 0 ∷ 1 ∷ 0 ∷ []) ∷ []))
    (0 ∷ 0 ∷ 1 ∷ [])
    ∷ gives (seen stored
    (append_1 1 0 3 ∷ shared_1 7 ∷ Flow 7 3 ∷ Push 1 ∷ Ack 7 (1 ∷ 0 ∷ 1 ∷ 5 ∷ []) ∷ Redeliver 7 (1 ∷ 0 ∷ 1 ∷ 1 ∷ []) ∷ []))
    (5 ∷ 0 ∷ 0 ∷ 0 ∷ 0 ∷ [])
    -- sent again with its count, at the cost of its bits
    ∷ gives
    (then (append_1 1 0 10 ∷ shared_1 7 ∷ Flow 7 10 ∷ Push 1 ∷ Ack 7 (1 ∷ 0 ∷ 1 ∷ 3 ∷ []) ∷ Redeliver 7 (again 1) ∷ Flow 7 5 ∷ [])
    (Push 1))
    (0 ∷ 1 ∷ 7 ∷ 1 ∷ 0 ∷ 1 ∷ 2 ∷ 3 ∷ [])
    -- another subscription's count stays
    ∷ gives (seen (marks pair_2) (append_1 1 0 0 ∷ shared_1 7 ∷ shared_2 8 ∷ Flow 7 1 ∷ Push 1 ∷ Redeliver 7 (again 1) ∷ []))
    (0 ∷ 0 ∷ 0 ∷ [])
    -- the count stops at 2^32 - 1
    ∷ gives (then_seen (marks pair_1) (counted (2 ^ 32 - 3)) (Redeliver 7 (again 1))) (1 ∷ 0 ∷ 0 ∷ (2 ^ 32 - 2) ∷ [])
    ∷ gives (then_seen (marks pair_1) (counted (2 ^ 32 - 2)) (Redeliver 7 (again 1))) (1 ∷ 0 ∷ 0 ∷ (2 ^ 32 - 1) ∷ [])
    ∷ gives (then_seen (marks pair_1) (counted (2 ^ 32 - 1)) (Redeliver 7 (again 1))) (1 ∷ 0 ∷ 0 ∷ (2 ^ 32 - 1) ∷ [])
    -- and is sent with the entry
    ∷ gives (on (run (counted (2 ^ 32 - 2)) (Redeliver 7 (again 1) ∷ Flow 7 1 ∷ [])) (Push 1))
    (1 ∷ 0 ∷ 1 ∷ 7 ∷ 1 ∷ 0 ∷ (2 ^ 32 - 1) ∷ 1 ∷ 0 ∷ [])
    ∷ gives (on (run (counted (2 ^ 32 - 1)) (Redeliver 7 (again 1) ∷ Flow 7 1 ∷ [])) (Push 1))
    (1 ∷ 0 ∷ 1 ∷ 7 ∷ 1 ∷ 0 ∷ (2 ^ 32 - 1) ∷ 1 ∷ 0 ∷ [])
    -- plain: found entries join nacked, at its end, repeats included, words ignored
    ∷ gives (then plain_7 (Redeliver 7 (1 ∷ 2 ∷ 0 ∷ []))) (0 ∷ [])
    ∷ gives
    (seen (own 7) (plain_7 ++ Redeliver 7 (1 ∷ 2 ∷ 0 ∷ 9 ∷ 9 ∷ 0 ∷ 1 ∷ 2 ∷ 1 ∷ 5 ∷ []) ∷ Redeliver 7 (1 ∷ 0 ∷ 0 ∷ []) ∷ []))
    (1 ∷ 1 ∷ 0 ∷ 0 ∷ 0 ∷ 2 ∷ 2 ∷ 0 ∷ [])
    -- and no dispatcher changes
    ∷ gives (seen (marks pair_1) (append_1 1 0 0 ∷ shared_1 8 ∷ plain_1 7 ∷ Redeliver 7 (again 1) ∷ [])) (0 ∷ 0 ∷ 0 ∷ [])
    ∷ gives (seen (queue pair_1) (append_1 1 0 0 ∷ shared_1 8 ∷ plain_1 7 ∷ Redeliver 7 (again 1) ∷ [])) []
    -- 11 if nacked would pass 64; only found entries count
    ∷ gives (then plain_7 (Redeliver 7 (again 64))) (0 ∷ [])
    ∷ gives (then (plain_7 ++ Redeliver 7 (again 64) ∷ []) (Redeliver 7 (again 1))) (11 ∷ [])
    ∷ gives (then (plain_7 ++ Redeliver 7 (again 1) ∷ []) (Redeliver 7 (again 64))) (11 ∷ [])
    ∷ gives (then (plain_7 ++ Redeliver 7 (again 63) ∷ []) (Redeliver 7 (again 1))) (0 ∷ [])
    ∷ gives (then (plain_7 ++ Redeliver 7 (again 64) ∷ []) (Redeliver 7 (9 ∷ 9 ∷ 0 ∷ []))) (0 ∷ [])
    ∷ gives (seen (own 7) (append_1 1 0 0 ∷ plain_1 7 ∷ Redeliver 7 (again 2) ∷ Redeliver 7 (again 63) ∷ []))
    (1 ∷ 1 ∷ 0 ∷ 0 ∷ 0 ∷ 0 ∷ 0 ∷ [])
    ∷ []

-- ---- seek

-- what a seek to an id comes to, of plain consumer 7 over entries of topic 1
abbrev pub sought : List Call → ℕ → ℕ → List ℤ
sought entries ledger entry = then (entries ++ plain_1 7 ∷ []) (Seek 7 (to_id (message_id ledger entry)))

-- ids (1,0), (5,0), (3,0), in append order
abbrev pub unordered : List Call
unordered = append_1 1 0 0 ∷ append_1 5 0 0 ∷ append_1 3 0 0 ∷ []

-- plain consumer 7 over three entries with four permits, its cursor at 1 and entry 2 handed back
abbrev pub reader : List Call
reader = plain_7 ++ Flow 7 4 ∷ Seek 7 (to_id (message_id 1 1)) ∷ Redeliver 7 (1 ∷ 2 ∷ 0 ∷ []) ∷ []

-- that consumer, after a seek just beyond the last entry
abbrev pub at_the_end : List Call
at_the_end = reader ++ Seek 7 (to_id (message_id 1 3)) ∷ []

-- plain consumer 7 with four permits, after a seek on a topic that no append has made
abbrev pub before_the_topic : List Call
before_the_topic = plain_1 7 ∷ Flow 7 4 ∷ Seek 7 (to_id (message_id 1 3)) ∷ []

-- seek
unfoldable pub seek_rows : List Row
seek_rows =
    -- 4 if not live
    gives (then [] (Seek 7 start)) (4 ∷ [])
    ∷ gives (then three_entries (Seek 7 (to_id (message_id 1 1)))) (4 ∷ [])
    -- the first position, in append order, whose (ledger, entry) equals the id or is greater
    ∷ gives (sought three_entries 1 1) (0 ∷ 1 ∷ [])
    ∷ gives (sought (append_1 1 5 0 ∷ append_1 2 0 0 ∷ []) 1 6) (0 ∷ 1 ∷ [])
    ∷ gives (sought (append_1 1 5 0 ∷ append_1 2 0 0 ∷ []) 0 9) (0 ∷ 0 ∷ [])
    ∷ gives (sought (append_1 1 5 0 ∷ append_1 2 4 0 ∷ []) 2 4) (0 ∷ 1 ∷ [])
    ∷ gives (sought unordered 2 0) (0 ∷ 1 ∷ [])
    ∷ gives (sought unordered 3 0) (0 ∷ 1 ∷ [])
    -- where no entry is at or after the id, the ledger's length (request A1): an empty ledger included
    ∷ gives (sought unordered 5 1) (0 ∷ 3 ∷ [])
    ∷ gives (sought unordered 6 0) (0 ∷ 3 ∷ [])
    ∷ gives (sought (append_1 1 5 0 ∷ append_1 2 0 0 ∷ []) 2 1) (0 ∷ 2 ∷ [])
    ∷ gives (sought [] 0 0) (0 ∷ 0 ∷ [])
    ∷ gives (then (three_entries ++ Subscribe 7 plain other_topic ∷ []) (Seek 7 (to_id (message_id 1 1)))) (0 ∷ 0 ∷ [])
    -- a reader waits there: a push sends it nothing, whatever was handed back; an append and a push the new entry and no other
    ∷ gives (seen (own 7) at_the_end) (1 ∷ 1 ∷ 0 ∷ 4 ∷ 3 ∷ [])
    ∷ gives (handed at_the_end) []
    ∷ gives (handed (at_the_end ++ append_1 1 3 0 ∷ [])) (7 ∷ 3 ∷ [])
    ∷ gives (then (at_the_end ++ append_1 1 3 0 ∷ []) (Push 1)) (0 ∷ 1 ∷ 7 ∷ 1 ∷ 3 ∷ 0 ∷ 1 ∷ 3 ∷ [])
    ∷ gives (handed (at_the_end ++ append_1 1 3 0 ∷ Push 1 ∷ [])) []
    -- the same on a topic that does not exist at the seek
    ∷ gives (handed before_the_topic) []
    ∷ gives (seen (own 7) before_the_topic) (1 ∷ 1 ∷ 0 ∷ 4 ∷ 0 ∷ [])
    ∷ gives (handed (before_the_topic ++ append_1 1 0 0 ∷ [])) (7 ∷ 0 ∷ [])
    ∷ gives (handed (before_the_topic ++ append_1 1 0 0 ∷ Push 1 ∷ [])) []
    -- the place is told at the seek: of what is appended later an id before the one sought is sent too
    ∷ gives (handed (at_the_end ++ append_1 1 9 0 ∷ append_1 0 7 0 ∷ [])) (7 ∷ 9 ∷ 7 ∷ 7 ∷ [])
    -- start: 0
    ∷ gives (then reader (Seek 7 start)) (0 ∷ 0 ∷ [])
    -- the cursor is there, nacked cleared, the balance as it was
    ∷ gives (seen (own 7) reader) (1 ∷ 1 ∷ 0 ∷ 4 ∷ 1 ∷ 2 ∷ [])
    ∷ gives (seen (own 7) (reader ++ Seek 7 (to_id (message_id 1 2)) ∷ [])) (1 ∷ 1 ∷ 0 ∷ 4 ∷ 2 ∷ [])
    ∷ gives (seen (own 7) (reader ++ Seek 7 start ∷ [])) (1 ∷ 1 ∷ 0 ∷ 4 ∷ 0 ∷ [])
    ∷ gives (handed (reader ++ Seek 7 (to_id (message_id 1 1)) ∷ [])) (7 ∷ 1 ∷ 7 ∷ 2 ∷ [])
    -- a shared dispatcher doesn't move
    ∷ gives (then (three_entries ++ shared_1 7 ∷ Flow 7 1 ∷ Push 1 ∷ []) (Seek 7 (to_id (message_id 1 2)))) (0 ∷ 2 ∷ [])
    ∷ gives (seen (own 7) (three_entries ++ shared_1 7 ∷ Flow 7 1 ∷ Push 1 ∷ Seek 7 (to_id (message_id 1 2)) ∷ [])) (1 ∷ 1 ∷ 1 ∷ 0 ∷ 2 ∷ [])
    ∷ gives (seen (head pair_1) (three_entries ++ shared_1 7 ∷ Flow 7 1 ∷ Push 1 ∷ Seek 7 (to_id (message_id 1 2)) ∷ [])) (0 ∷ 1 ∷ 0 ∷ 0 ∷ [])
    ∷ gives (then (three_entries ++ shared_1 7 ∷ Flow 7 1 ∷ Push 1 ∷ []) (Seek 7 (to_id (message_id 1 3)))) (0 ∷ 3 ∷ [])
    ∷ gives (seen (head pair_1) (three_entries ++ shared_1 7 ∷ Flow 7 1 ∷ Push 1 ∷ Seek 7 (to_id (message_id 1 3)) ∷ [])) (0 ∷ 1 ∷ 0 ∷ 0 ∷ [])
    ∷ gives (seen (flight pair_1) (three_entries ++ shared_1 7 ∷ Flow 7 1 ∷ Push 1 ∷ Seek 7 start ∷ [])) (7 ∷ 0 ∷ [])
    ∷ gives (handed (three_entries ++ shared_1 7 ∷ Flow 7 1 ∷ Push 1 ∷ Seek 7 (to_id (message_id 1 2)) ∷ Flow 7 1 ∷ [])) (7 ∷ 1 ∷ [])
    ∷ []
