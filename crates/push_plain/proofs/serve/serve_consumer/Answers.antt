-- `push_plain::serve::serve_consumer` meets its contract: the records of what is due, then the consumer's words.
use mathlib.Core.Path.{ap, ◌∙◌}
use Prim.Native.Nat.{ℕ}
use Rattle.rules.specs.State.{Consumer}
use Rattle.rules.specs.Commands.{with_permits}
use Rattle.layout.specs.Layout.{decode, put}
use Rattle.layout.specs.Fields.{consumer_nth, set_consumer}
use Rattle.push_laws.specs.Plain.{plain_records, ledger_for}
use Rattle.record.specs.Flat.{filled}
use Rattle.push_plain.proofs.Entries.{charged_permitted, charged_served}
use Rattle.push_plain.proofs.Parts.{due_few}
use Rattle.push_plain.proofs.serve.serve_consumer.Goals as goal

pub plain_due-n-requires : goal.plain_due-n-requires
plain_due-n-requires c = c.requires.0.here

pub serve_due-requires : goal.serve_due-requires
serve_due-requires c = (c.requires.0, c.plain_due-n.ensures, rw c.plain_due-n.ensures c.requires.1)

pub take_entries-requires : goal.take_entries-requires
take_entries-requires c =
    let r = c.args.reader in
    let h = c.requires.0 in
    let x = consumer_nth (decode c.args.store.now) r.i in
    let due = c.plain_due-n.ensures in
    (h, rw due (due_few h.here.canon r.i r.permits h.here.there), rw due (charged_permitted (ledger_for (decode c.args.store.now) x) x r.permits))

pub returns : goal.returns
returns c =
    let a = c.args in
    let r = a.reader in
    let s = decode a.store.now in
    let x = consumer_nth s r.i in
    let n = c.plain_due-n.ensures in
    record {
      value = n;
      words = c.take_entries.ensures ∙ ap (λ (y : Consumer). put a.store.now (set_consumer s r.i y)) (charged_served s x r.permits n);
      records = c.serve_due.ensures ∙ ap (λ (k : ℕ). filled a.list.now 0 (plain_records (ledger_for s x) (with_permits x r.permits) k)) n;
    }
