-- `push_records::fill::fill` meets its contract: each turn takes the list a record further.
use Rattle.std.proofs.Common.{◌*◌, ◌<◌, length, add-one, arith, length-drop}
use Rattle.std.proofs.lemmas.List.{take_rest}
use Rattle.record.proofs.Filled.{record_rest}
use Rattle.push_records.proofs.Partway.{partway_start, partway_next}
use Rattle.push_records.proofs.fill.fill.Goals as goal

pub loop-i-init : goal.loop-i-init
loop-i-init c = partway_start c.args.flat.now c.args.list.now

pub read_record-dispatch-requires : goal.read_record-dispatch-requires
read_record-dispatch-requires c =
    let t = c.loop-i-test.true in
    let p = c.requires.1 in
    rw (take_rest c.args.flat.now (c.loop-i.i * 13), length-drop (c.loop-i.i * 13) c.args.flat.now) (omega arith)

pub loop-i-preserved : goal.loop-i-preserved
loop-i-preserved c =
    let i = c.loop-i.i in
    let xs = c.args.list.now in
    let p = c.requires.0 in
    let room : i < length xs = let t = c.loop-i-test.true in omega arith in
    rw (c.loop-i.invariant, c.read_record-dispatch.ensures, record_rest c.args.flat.now i, add-one i) (partway_next c.args.flat.now xs i room)
