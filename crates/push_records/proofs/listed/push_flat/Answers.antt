-- `push_records::listed::push_flat` meets its contract: the first words of the flat list, as many as there is room for
-- records, are lent to the push, and what it leaves there is what it leaves in the whole list.
use Rattle.std.proofs.Common.{◌≡◌, ◌*◌, ◌/◌, ◌≤◌, ℕ, List, ◌++◌, length, take, drop, sym, ap, ◌∙◌, arith}
use lib.Seq.{length-take-le}
use Rattle.rules.specs.Calls.Call.{Push}
use Rattle.layout.specs.Calls.{outcome, answer, after, list_after}
use Rattle.push_records.specs.Listed.{room}
use Rattle.push_records.proofs.Making.{part_lent, room_words}
use Rattle.push_records.proofs.listed.push_flat.Goals as goal

-- as many words as there is room for are words of the list
within : (l : List ℕ) (records : ℕ) {n : ℕ} → n ≡ room (length l) records → n * 13 ≤ length l
within l records e = rw e (room_words (length l) records)

-- and their records are the room's
lent : (l : List ℕ) (n : ℕ) → n * 13 ≤ length l → length (take (n * 13) l) / 13 ≡ n
lent l n h = rw (length-take-le (n * 13) l h) (omega arith)

pub overflow_mul-end : goal.overflow_mul-end
overflow_mul-end c =
    let few : c.room-end.result * 13 ≤ length c.args.flat.now = within c.args.flat.now c.args.records c.room-end.ensures in
    record { fits = omega arith }

pub slice_bounds-broker_push-end : goal.slice_bounds-broker_push-end
slice_bounds-broker_push-end c = within c.args.flat.now c.args.records c.room-end.ensures

pub slice_bounds-broker_push-end-2 : goal.slice_bounds-broker_push-end-2
slice_bounds-broker_push-end-2 c =
    sym (length-take-le (c.room-end.result * 13) c.args.flat.now (within c.args.flat.now c.args.records c.room-end.ensures))

pub returns-clause-answer : goal.returns-clause-answer
returns-clause-answer c =
    let l = c.args.flat.now in
    let few : c.room-end.result * 13 ≤ length l = within l c.args.records c.room-end.ensures in
    c.broker_push.ensures.answer
    ∙ ap (λ (m : ℕ). answer c.args.store.now (Push m)) (lent l c.room-end.result few ∙ c.room-end.ensures)

pub returns-clause-words : goal.returns-clause-words
returns-clause-words c =
    let l = c.args.flat.now in
    let few : c.room-end.result * 13 ≤ length l = within l c.args.records c.room-end.ensures in
    c.broker_push.ensures.words
    ∙ ap (λ (m : ℕ). after c.args.store.now (Push m)) (lent l c.room-end.result few ∙ c.room-end.ensures)

pub returns-clause-records : goal.returns-clause-records
returns-clause-records c =
    let l = c.args.flat.now in
    let ws = c.args.store.now in
    let n = c.room-end.result in
    let few : n * 13 ≤ length l = within l c.args.records c.room-end.ensures in
    ap (λ (v : List ℕ). v ++ drop (n * 13) l)
    (c.broker_push.ensures.records ∙ ap (λ (m : ℕ). list_after (take (n * 13) l) (outcome ws (Push m))) (lent l n few))
    ∙ part_lent ws n l few
    ∙ ap (λ (m : ℕ). list_after l (outcome ws (Push m))) c.room-end.ensures
