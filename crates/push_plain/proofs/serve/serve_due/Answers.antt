-- `push_plain::serve::serve_due` meets its contract: nothing where nothing is due; else the topic exists, for its ledger has an entry.
use mathlib.Core.Path.{ap, ◌∙◌}
use Prim.Native.Nat.{ℕ}
use Rattle.rules.specs.State.{by_number}
use Rattle.rules.specs.Commands.{with_permits}
use Rattle.layout.specs.Layout.{decode}
use Rattle.layout.specs.Fields.{consumer_nth}
use Rattle.store.specs.Find.{slot}
use Rattle.push_laws.specs.Plain.{ledger_for}
use Rattle.push_plain.proofs.Entries.{fill_none}
use Rattle.push_plain.proofs.Topics.{above, sendable}
use Rattle.push_plain.proofs.serve.serve_due.Goals as goal

pub topic-requires : goal.topic-requires
topic-requires c = c.requires.0.here

pub returns-then-n-eq0 : goal.returns-then-n-eq0
returns-then-n-eq0 c =
    let a = c.args in
    let s = decode a.store.now in
    let x = consumer_nth s a.reader.i in
    fill_none (ledger_for s x) (with_permits x a.reader.permits) a.list.now a.n c.if-n-eq0.true

pub serve_records-requires : goal.serve_records-requires
serve_records-requires c =
    let a = c.args in
    let p = c.requires in
    let s = decode a.store.now in
    let e = c.find_topic-t.ensures ∙ ap (λ (t : ℕ). slot by_number t s.topics) c.topic.ensures in
    (sendable a.reader c.find_topic-t.result a.n p.0 p.1 (above a.n c.if-n-eq0.false) e, p.2)
