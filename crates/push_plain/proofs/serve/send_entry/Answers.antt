-- `push_plain::serve::send_entry` meets its contract: the record of the entry at its position.
use mathlib.Core.Path.{ap, ◌∙◌}
use mathlib.Core.List.{List}
use Prim.Native.Nat.{ℕ, ◌+◌}
use native.Mathlib.Omega.{arith}
use Rattle.words.specs.Act.{lay}
use Rattle.rules.specs.Push.{flat}
use Rattle.layout.specs.Layout.{decode}
use Rattle.layout.specs.Fields.{consumer_nth}
use Rattle.push_laws.specs.Plain.{ledger_for}
use Rattle.push_plain.proofs.Entries.{position_inside, entry_is}
use Rattle.push_plain.proofs.Topics.{waiting_few}
use borrow.Author.Rules.{rules}
use Rattle.push_plain.proofs.serve.send_entry.Goals as goal

pub position-k-requires : goal.position-k-requires
position-k-requires c =
    let h = c.requires.0 in
    let few = waiting_few c.args.reader.i h.reader in
    let waits = h.waiting in
    (h.reader, omega arith)

pub consumer_id-id-requires : goal.consumer_id-id-requires
consumer_id-id-requires c = c.requires.0.reader.here

pub plain_record-x-requires : goal.plain_record-x-requires
plain_record-x-requires c =
    let a = c.args in
    let h = c.requires.0 in
    let s = decode a.store.now in
    let x = consumer_nth s a.reader.i in
    let r = h.reader.readable in
    (h.topic, rw (c.position-k.ensures, h.ledger) (position_inside (ledger_for s x) x a.j (a.j + 1) r.cursor_in r.nacked_in (search rules) h.waiting))

pub returns : goal.returns
returns c =
    let a = c.args in
    let h = c.requires.0 in
    let s = decode a.store.now in
    let x = consumer_nth s a.reader.i in
    c.write_record.ensures
    ∙ ap (λ (l : List ℕ). (lay l).run 0 a.list.now)
    (c.plain_record-x.ensures ∙ ap flat (entry_is (ledger_for s x) x a.reader.permits a.j h.ledger c.consumer_id-id.ensures c.position-k.ensures))
