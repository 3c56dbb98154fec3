-- `push_plain::serve::serve_records` meets its contract: each entry joins the list.
use mathlib.Core.Path.{◌≡◌}
use Prim.Native.Nat.{◌+◌, ◌*◌, ◌≤◌}
use native.Mathlib.Omega.{arith}
use lib.ListN.{length, length-drop}
use Rattle.rules.specs.Commands.{with_permits}
use Rattle.layout.specs.Layout.{decode}
use Rattle.layout.specs.Fields.{consumer_nth}
use Rattle.push_laws.specs.Plain.{ledger_for}
use Rattle.push_plain.proofs.Entries.{filling_start, filling_on, filling_end}
use Rattle.push_plain.proofs.Topics.{sendable_fewer}
use borrow.Author.Rules.{rules}
use Rattle.push_plain.proofs.serve.serve_records.Goals as goal

pub loop-j-init : goal.loop-j-init
loop-j-init c =
    let r = c.args.reader in
    let x = consumer_nth (decode c.args.store.now) r.i in
    filling_start (ledger_for (decode c.args.store.now) x) (with_permits x r.permits) c.args.n c.args.list.now

pub send_entry-requires : goal.send_entry-requires
send_entry-requires c =
    let p = c.requires.1 in
    let v = c.loop-j.auto.list in
    let t = c.loop-j-test.true in
    let room = length-drop (c.loop-j.j * 13) c.loop-j.list in
    (sendable_fewer c.requires.0 (c.loop-j.j + 1) (search rules), omega arith)

pub loop-j-preserved : goal.loop-j-preserved
loop-j-preserved c =
    let r = c.args.reader in
    let x = consumer_nth (decode c.args.store.now) r.i in
    let j = c.loop-j.j in
    let p = c.requires.1 in
    let t = c.loop-j-test.true in
    let v = c.loop-j.auto.list in
    let room : j * 13 ≤ length c.loop-j.list = omega arith in
    filling_on (ledger_for (decode c.args.store.now) x)
    (with_permits x r.permits) c.args.n c.args.list.now c.loop-j.list j c.loop-j.invariant t room c.send_entry.ensures

pub returns : goal.returns
returns c =
    let r = c.args.reader in
    let x = consumer_nth (decode c.args.store.now) r.i in
    let all : c.loop-j.j ≡ c.args.n = omega arith in
    filling_end (ledger_for (decode c.args.store.now) x) (with_permits x r.permits) c.args.n c.args.list.now c.loop-j.list c.loop-j.j c.loop-j.invariant all
