-- Histories of push, its records in flat words, and the answers of calls in one word.
use Rattle.std.specs.Prelude.{ℕ, ◌+◌, ◌-◌, ◌*◌, ◌^◌, true, false, List, [], ◌∷◌, ◌++◌, ℤ, pos, neg_ℤ}
use Rattle.rules.specs.State.Kind.{plain, shared}
use Rattle.rules.specs.Commands.Target.{to_id}
use Rattle.rules.specs.Calls.{Call, rule, answer_word}
use Rattle.rules.specs.Calls.Call.{Append, Subscribe, Flow, Ack, Seek, Redeliver, Close, Push}
use Rattle.rules.specs.Readings.{pair_1, append_1, shared_1, after, then, outcome_numbers, word_numbers, Row, row}
use Rattle.rules.specs.Histories.Views.{other_topic, message_id, message, append_to, shared_2, plain_1, again, three_entries, three_consumers, gives}
use Rattle.rules.specs.Histories.Views.{seen, head, queue, flight, own, handed, set_words, flat_words}

-- ---- the shared part

-- ring 8, 9 with a permit each, while the leak of a third that closed has left the total at -2
abbrev pub leaked : List Call
leaked = shared_1 7 ∷ shared_1 8 ∷ shared_1 9 ∷ Flow 7 4 ∷ Flow 8 1 ∷ Flow 9 1 ∷ Close 7 ∷ append_1 1 0 0 ∷ []

-- entries 1 and 0 in the queue, in this order, and entry 2 not handed out yet; consumer 7 has three permits
abbrev pub queued : List Call
queued = three_entries ++ shared_1 7 ∷ Flow 7 2 ∷ Push 2 ∷ Redeliver 7 (1 ∷ 1 ∷ 0 ∷ 1 ∷ 0 ∷ 0 ∷ []) ∷ Flow 7 3 ∷ []

-- shared turns
unfoldable pub shared_rows : List Row
shared_rows =
    -- take the first ring id from next, going round, set next just after it
    gives (handed (three_consumers ++ three_entries ++ append_1 1 3 0 ∷ [])) (7 ∷ 0 ∷ 8 ∷ 1 ∷ 9 ∷ 2 ∷ 7 ∷ 3 ∷ [])
    ∷ gives (seen (head pair_1) (three_consumers ++ three_entries ++ append_1 1 3 0 ∷ Push 4 ∷ [])) (2 ∷ 4 ∷ 0 ∷ 2 ∷ [])
    ∷ gives (handed (shared_1 7 ∷ shared_1 8 ∷ Flow 7 2 ∷ append_1 1 0 0 ∷ append_1 1 1 0 ∷ [])) (7 ∷ 0 ∷ 7 ∷ 1 ∷ [])
    -- with a balance above 0: one without permits is passed over
    ∷ gives (handed (shared_1 7 ∷ shared_1 8 ∷ Flow 8 2 ∷ three_entries)) (8 ∷ 0 ∷ 8 ∷ 1 ∷ [])
    -- next is set even if no entry follows, from the last slot to 0
    ∷ gives (seen (head pair_1) (shared_1 7 ∷ shared_1 8 ∷ Flow 7 1 ∷ Flow 8 1 ∷ Push 0 ∷ Push 0 ∷ [])) (0 ∷ 0 ∷ 0 ∷ 2 ∷ [])
    -- and where the ids from next on are passed over, to just after the one found by going round
    ∷ gives (seen (head pair_1) (shared_1 7 ∷ shared_1 8 ∷ shared_1 9 ∷ Flow 7 2 ∷ Push 0 ∷ Push 0 ∷ [])) (1 ∷ 0 ∷ 0 ∷ 2 ∷ [])
    -- and where the last entry is handed out, once more
    ∷ gives (seen (head pair_1) (three_consumers ++ append_1 1 0 0 ∷ Push 1 ∷ [])) (2 ∷ 1 ∷ 0 ∷ 5 ∷ [])
    -- while the balance allows (above 0): none is sent and next stays, though consumers have permits
    ∷ gives (outcome_numbers (rule (after true false leaked) (Push 1))) (0 ∷ 0 ∷ [])
    ∷ row (head pair_1 (after true false (leaked ++ Push 1 ∷ []))) (pos 0 ∷ pos 0 ∷ pos 0 ∷ neg_ℤ (pos 2) ∷ [])
    -- at 0 too
    ∷ gives (outcome_numbers (rule (after true false (shared_1 7 ∷ shared_1 8 ∷ Flow 7 1 ∷ Flow 8 1 ∷ Close 7 ∷ append_1 1 0 0 ∷ [])) (Push 1)))
    (0 ∷ 0 ∷ [])
    -- while the ring allows: here it is empty, the total 99 and an entry in the queue
    ∷ gives (outcome_numbers (rule (after true false (append_1 1 0 100 ∷ shared_1 7 ∷ Flow 7 1 ∷ Push 1 ∷ Close 7 ∷ [])) (Push 1))) (0 ∷ 0 ∷ [])
    -- a ring id that is not live is passed over
    ∷ gives (handed (shared_1 7 ∷ plain_1 7 ∷ Close 7 ∷ shared_1 8 ∷ Flow 8 1 ∷ append_1 1 0 0 ∷ [])) (8 ∷ 0 ∷ [])
    -- live under any subscription: the serving dispatcher's ledger is taken and its balance pays
    ∷ gives (then (append_1 1 0 0 ∷ shared_1 7 ∷ shared_1 8 ∷ Flow 8 1 ∷ shared_2 7 ∷ Flow 7 2 ∷ []) (Push 2))
    (0 ∷ 2 ∷ 7 ∷ 1 ∷ 0 ∷ 0 ∷ 1 ∷ 1 ∷ 7 ∷ 1 ∷ 0 ∷ 0 ∷ 1 ∷ 0 ∷ [])
    ∷ gives (then (append_1 1 0 0 ∷ shared_1 7 ∷ shared_1 8 ∷ Flow 8 1 ∷ Subscribe 7 shared other_topic ∷ Flow 7 2 ∷ []) (Push 1))
    (0 ∷ 1 ∷ 7 ∷ 1 ∷ 0 ∷ 0 ∷ 1 ∷ 1 ∷ [])
    ∷ gives (seen (head pair_1) (append_1 1 0 0 ∷ shared_1 7 ∷ shared_1 8 ∷ Flow 8 1 ∷ Subscribe 7 shared other_topic ∷ Flow 7 2 ∷ Push 1 ∷ []))
    (1 ∷ 1 ∷ 0 ∷ 0 ∷ [])
    -- plain now: served by the ring it is still in, then by its own cursor
    ∷ gives (then (append_1 1 0 0 ∷ append_1 1 1 0 ∷ shared_1 7 ∷ shared_1 8 ∷ plain_1 7 ∷ Flow 7 2 ∷ Flow 8 2 ∷ []) (Push 3))
    (0 ∷ 3 ∷ 7 ∷ 1 ∷ 0 ∷ 0 ∷ 1 ∷ 1 ∷ 8 ∷ 1 ∷ 1 ∷ 0 ∷ 1 ∷ 1 ∷ 7 ∷ 1 ∷ 0 ∷ 0 ∷ 1 ∷ 0 ∷ [])
    -- queue first, taking the entry off its front, then ledger, moving the cursor on by 1
    ∷ gives (handed queued) (7 ∷ 1 ∷ 7 ∷ 0 ∷ 7 ∷ 2 ∷ [])
    ∷ gives (seen (queue pair_1) queued) (1 ∷ 0 ∷ [])
    ∷ gives (seen (queue pair_1) (queued ++ Push 3 ∷ [])) []
    ∷ gives (seen (head pair_1) queued) (0 ∷ 2 ∷ 0 ∷ 3 ∷ [])
    ∷ gives (seen (head pair_1) (queued ++ Push 3 ∷ [])) (0 ∷ 3 ∷ 0 ∷ 0 ∷ [])
    -- the entry joins the end of the consumer's held list
    ∷ gives (seen (flight pair_1) (queued ++ Push 3 ∷ [])) (7 ∷ 1 ∷ 7 ∷ 0 ∷ 7 ∷ 2 ∷ [])
    -- its cost leaves the consumer's and the dispatcher's balance
    ∷ gives (seen (own 7) (append_1 1 0 5 ∷ shared_1 7 ∷ shared_1 8 ∷ Flow 7 10 ∷ Flow 8 1 ∷ Push 1 ∷ [])) (1 ∷ 1 ∷ 1 ∷ 5 ∷ 0 ∷ [])
    ∷ gives (seen (own 8) (append_1 1 0 5 ∷ shared_1 7 ∷ shared_1 8 ∷ Flow 7 10 ∷ Flow 8 1 ∷ Push 1 ∷ [])) (1 ∷ 1 ∷ 1 ∷ 1 ∷ 0 ∷ [])
    ∷ gives (seen (head pair_1) (append_1 1 0 5 ∷ shared_1 7 ∷ shared_1 8 ∷ Flow 7 10 ∷ Flow 8 1 ∷ Push 1 ∷ [])) (0 ∷ 1 ∷ 0 ∷ 6 ∷ [])
    -- cost: max(batch size, 1)
    ∷ gives (then (append_1 1 0 0 ∷ append_1 1 1 1 ∷ append_1 1 2 2 ∷ shared_1 7 ∷ Flow 7 9 ∷ []) (Push 3))
    (0 ∷ 3 ∷ 7 ∷ 1 ∷ 0 ∷ 0 ∷ 1 ∷ 8 ∷ 7 ∷ 1 ∷ 1 ∷ 0 ∷ 1 ∷ 7 ∷ 7 ∷ 1 ∷ 2 ∷ 0 ∷ 2 ∷ 5 ∷ [])
    ∷ row (then (append_1 1 0 256 ∷ shared_1 7 ∷ Flow 7 1 ∷ []) (Push 1))
    (pos 0 ∷ pos 1 ∷ pos 7 ∷ pos 1 ∷ pos 0 ∷ pos 0 ∷ pos 256 ∷ neg_ℤ (pos 255) ∷ [])
    -- cost: ones in the stored bits, of all four words
    ∷ gives (then (append_1 1 0 256 ∷ shared_1 7 ∷ Ack 7 (1 ∷ 0 ∷ 4 ∷ 1 ∷ 2 ∷ 3 ∷ 4 ∷ []) ∷ Flow 7 9 ∷ []) (Push 1))
    (0 ∷ 1 ∷ 7 ∷ 1 ∷ 0 ∷ 0 ∷ 5 ∷ 4 ∷ [])
    -- what a closed one held comes before the ledger
    ∷ gives (handed (three_consumers ++ append_1 1 0 0 ∷ append_1 1 1 0 ∷ Push 2 ∷ Close 7 ∷ append_1 1 2 0 ∷ [])) (8 ∷ 0 ∷ 9 ∷ 2 ∷ [])
    ∷ []

-- ---- the plain part, the order of both, and 15

-- pair 2's dispatcher made first, then pair 1's, then plain consumers 5 and 3, with a permit each
abbrev pub all_kinds : List Call
all_kinds = append_1 1 0 0 ∷ shared_2 8 ∷ shared_1 7 ∷ plain_1 5 ∷ plain_1 3 ∷ Flow 3 1 ∷ Flow 5 1 ∷ Flow 7 1 ∷ Flow 8 1 ∷ []

-- plain consumer 7 over three entries with these permits, entry 2 handed back twice
abbrev pub handed_back : ℕ → List Call
handed_back n = three_entries ++ plain_1 7 ∷ Redeliver 7 (1 ∷ 2 ∷ 0 ∷ 1 ∷ 2 ∷ 0 ∷ []) ∷ Flow 7 n ∷ []

-- plain turns
unfoldable pub plain_rows : List Row
plain_rows =
    -- plain: nacked, then ledger, while its balance is above 0
    gives (handed (handed_back 3)) (7 ∷ 2 ∷ 7 ∷ 2 ∷ 7 ∷ 0 ∷ [])
    ∷ gives (handed (handed_back 1)) (7 ∷ 2 ∷ [])
    ∷ gives (handed (handed_back 0)) []
    ∷ gives (handed (handed_back 9)) (7 ∷ 2 ∷ 7 ∷ 2 ∷ 7 ∷ 0 ∷ 7 ∷ 1 ∷ 7 ∷ 2 ∷ [])
    -- nacked ones are taken off, and move no cursor
    ∷ gives (seen (own 7) (handed_back 1 ++ Push 1 ∷ [])) (1 ∷ 1 ∷ 0 ∷ 0 ∷ 0 ∷ 2 ∷ [])
    ∷ gives (seen (own 7) (handed_back 3 ++ Push 3 ∷ [])) (1 ∷ 1 ∷ 0 ∷ 0 ∷ 1 ∷ [])
    -- cost 1, whatever the batch size
    ∷ gives (then (append_1 1 0 100 ∷ plain_1 7 ∷ Flow 7 5 ∷ []) (Push 1)) (0 ∷ 1 ∷ 7 ∷ 1 ∷ 0 ∷ 0 ∷ 1 ∷ 4 ∷ [])
    -- from its own cursor, in its topic's ledger
    ∷ gives (handed (three_entries ++ plain_1 7 ∷ plain_1 8 ∷ Flow 7 3 ∷ Flow 8 3 ∷ Seek 8 (to_id (message_id 1 2)) ∷ []))
    (7 ∷ 0 ∷ 7 ∷ 1 ∷ 7 ∷ 2 ∷ 8 ∷ 2 ∷ [])
    ∷ gives (handed (append_1 1 0 0 ∷ append_to 2 1 5 0 ∷ Subscribe 7 plain other_topic ∷ Flow 7 3 ∷ [])) (7 ∷ 5 ∷ [])
    -- dispatchers by creation, then plain consumers by ascending id
    ∷ gives (handed all_kinds) (8 ∷ 0 ∷ 7 ∷ 0 ∷ 3 ∷ 0 ∷ 5 ∷ 0 ∷ [])
    -- 15 with the number due if more dispatches are due than the list holds, shared and plain together
    ∷ gives (then all_kinds (Push 3)) (15 ∷ 4 ∷ [])
    ∷ gives (then all_kinds (Push 0)) (15 ∷ 4 ∷ [])
    ∷ gives (then (shared_1 7 ∷ Flow 7 9 ∷ three_entries) (Push 2)) (15 ∷ 3 ∷ [])
    -- 15 changes nothing: a list of the number due is filled after it
    ∷ gives (then (append_1 1 0 0 ∷ shared_1 7 ∷ Flow 7 9 ∷ Push 0 ∷ []) (Push 1)) (0 ∷ 1 ∷ 7 ∷ 1 ∷ 0 ∷ 0 ∷ 1 ∷ 8 ∷ [])
    -- a longer list does, and an empty one where nothing is due
    ∷ gives (then (append_1 1 0 0 ∷ shared_1 7 ∷ Flow 7 9 ∷ []) (Push 9)) (0 ∷ 1 ∷ 7 ∷ 1 ∷ 0 ∷ 0 ∷ 1 ∷ 8 ∷ [])
    ∷ gives (then (append_1 1 0 0 ∷ shared_1 7 ∷ []) (Push 0)) (0 ∷ 0 ∷ [])
    ∷ gives (then [] (Push 0)) (0 ∷ 0 ∷ [])
    ∷ []

-- ---- records and answers in words

-- entry (1,3) of handle 77 and batch 65, handed back once with three bits left; a permit for shared consumer 7 and one for
-- plain consumer 9
abbrev pub bits_left_over : List Call
bits_left_over =
    Append 1 (message 1 3 77 65) ∷ shared_1 7 ∷ Flow 7 65 ∷ Push 1 ∷ Ack 7 (1 ∷ 3 ∷ 2 ∷ 6 ∷ 1 ∷ [])
    ∷ Redeliver 7 (1 ∷ 3 ∷ 0 ∷ []) ∷ Flow 7 1 ∷ plain_1 9 ∷ Flow 9 1 ∷ []

-- entries of six batch sizes, the first bit left of each
abbrev pub six_batches : List Call
six_batches =
    append_1 1 0 2 ∷ append_1 1 1 64 ∷ append_1 1 2 65 ∷ append_1 1 3 128 ∷ append_1 1 4 129 ∷ append_1 1 5 256 ∷ shared_1 7
    ∷ Ack 7 (1 ∷ 0 ∷ 1 ∷ 1 ∷ 1 ∷ 1 ∷ 1 ∷ 1 ∷ 1 ∷ 2 ∷ 1 ∷ 1 ∷
    1 ∷ 3 ∷ 1 ∷ 1 ∷ 1 ∷ 4 ∷ 1 ∷ 1 ∷ 1 ∷ 5 ∷ 1 ∷ 1 ∷ [])
    ∷ Flow 7 6 ∷ []

-- the answer of a call in one word
abbrev pub word_of : List Call → Call → List ℤ
word_of calls x = word_numbers (answer_word (rule (after false false calls) x) ∷ [])

-- records and answers
unfoldable pub word_rows : List Row
word_rows =
    -- a record is 13 words: consumer, ledger, entry, handle, batch size, ack-set word count and four words, redelivery
    -- count, cost, the consumer's balance after, a negative one in two's complement; a plain dispatch has count 0 for both
    gives (flat_words bits_left_over)
    (7 ∷ 1 ∷ 3 ∷ 77 ∷ 65 ∷ 2 ∷ 6 ∷ 1 ∷ 0 ∷ 0 ∷ 1 ∷ 3 ∷ (2 ^ 64 - 2) ∷
    9 ∷ 1 ∷ 3 ∷ 77 ∷ 65 ∷ 0 ∷ 0 ∷ 0 ∷ 0 ∷ 0 ∷ 0 ∷ 1 ∷ 0 ∷ [])
    -- without stored bits the word count is 0, and the words past it
    ∷ gives (flat_words (Append 1 (message 5 6 77 65) ∷ shared_1 7 ∷ Flow 7 70 ∷ []))
    (7 ∷ 5 ∷ 6 ∷ 77 ∷ 65 ∷ 0 ∷ 0 ∷ 0 ∷ 0 ∷ 0 ∷ 0 ∷ 65 ∷ 5 ∷ [])
    -- with stored bits it is batch size / 64 rounded up
    ∷ gives (set_words six_batches) (1 ∷ 1 ∷ 2 ∷ 2 ∷ 3 ∷ 4 ∷ [])
    -- an answer in one word: the value times 256 and the refusal's number; only that it is done; a refusal's number alone
    ∷ gives (word_of [] (shared_1 7)) (0 ∷ [])
    ∷ gives (word_of [] (Flow 7 1)) (4 ∷ [])
    -- flow: the new balance, a negative one in two's complement
    ∷ gives (word_of (shared_1 7 ∷ []) (Flow 7 5)) ((5 * 256) ∷ [])
    ∷ gives (word_of (append_1 1 0 100 ∷ shared_1 7 ∷ Flow 7 1 ∷ Push 1 ∷ []) (Flow 7 9)) (((2 ^ 56 - 90) * 256) ∷ [])
    -- ack: twice the mark-delete, and 1 if it moved
    ∷ gives (word_of (append_1 1 0 0 ∷ shared_1 7 ∷ []) (Ack 7 (again 1))) ((3 * 256) ∷ [])
    ∷ gives (word_of (append_1 1 0 0 ∷ shared_1 7 ∷ Ack 7 (again 1) ∷ []) (Ack 7 [])) ((2 * 256) ∷ [])
    -- seek: the cursor; close: whether one closed
    ∷ gives (word_of (three_entries ++ plain_1 7 ∷ []) (Seek 7 (to_id (message_id 1 2)))) ((2 * 256) ∷ [])
    ∷ gives (word_of (shared_1 7 ∷ []) (Close 7)) (256 ∷ [])
    ∷ gives (word_of [] (Close 7)) (0 ∷ [])
    -- push: how many dispatches were made; 15 with the number due
    ∷ gives (word_of (three_entries ++ plain_1 7 ∷ Flow 7 9 ∷ []) (Push 3)) ((3 * 256) ∷ [])
    ∷ gives (word_of (three_entries ++ plain_1 7 ∷ Flow 7 9 ∷ []) (Push 2)) ((3 * 256 + 15) ∷ [])
    ∷ []
