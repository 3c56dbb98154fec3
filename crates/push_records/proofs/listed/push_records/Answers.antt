-- `push_records::listed::push_records` meets its contract: the answer tells how many dispatches were made, as many as both
-- lists have room for, and the list filled with so many is the push's.
use Rattle.std.proofs.Common.{◌*◌, ◌≤◌, length, ◌∙◌, arith}
use Rattle.push_records.proofs.Making.{made_records, made_in_words, made_listed}
use Rattle.push_records.proofs.listed.push_records.Goals as goal

pub fill-requires : goal.fill-requires
fill-requires c =
    let ws = c.args.store.now in
    let flat = c.args.flat.now in
    let n = length c.args.list.now in
    let answered = c.push_flat-answer.ensures.answer in
    let words : c.made_in.result * 13 ≤ length flat = made_in_words ws flat n answered c.made_in.ensures in
    (made_records ws flat n answered c.made_in.ensures, omega arith)

pub returns-clause-records : goal.returns-clause-records
returns-clause-records c =
    let pushed = c.push_flat-answer in
    c.fill.ensures
    ∙ made_listed c.args.store.now c.args.flat.now (length c.args.list.now) pushed.ensures.answer c.made_in.ensures
    pushed.new.flat c.args.list.now pushed.ensures.records
