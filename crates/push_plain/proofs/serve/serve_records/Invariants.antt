-- The loop of `serve_records`: the list with what is left is the list with all.
use Rattle.rules.specs.Commands.{with_permits}
use Rattle.layout.specs.Layout.{decode}
use Rattle.layout.specs.Fields.{consumer_nth}
use Rattle.push_laws.specs.Plain.{ledger_for}
use Rattle.push_plain.proofs.Entries.{Filling}
use Rattle.push_plain.proofs.serve.serve_records.Given as goal

abbrev pub invariant-loop-j : goal.invariant-loop-j
invariant-loop-j l =
    Filling (ledger_for (decode l.store) (consumer_nth (decode l.store) l.reader.i)) (with_permits (consumer_nth (decode l.store) l.reader.i) l.reader.permits)
    l.n l.initial.list l.j l.list
